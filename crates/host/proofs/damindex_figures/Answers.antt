-- `host::damindex_figures` meets its contract: with room for the figures the answer's, else nothing. Assumes nothing.
use mathlib.Core.Path.{◌∙◌}
use borrow.Author.Rules.{rules}
use Rattle.casefile.specs.Reading.{reading}
use Rattle.host.proofs.Room.{no_room, room_for_all}
use Rattle.host.proofs.damindex_figures.Goals as goal

pub returns-then-figures-lt12 : goal.returns-then-figures-lt12
returns-then-figures-lt12 c = no_room (reading c.args.input.now) c.args.figures.now c.args.sheet.now c.if-figures-lt12.true

pub returns : goal.returns
returns c =
    room_for_all (reading c.args.input.now) c.args.figures.now c.args.sheet.now (search rules) (c.laid_out-answer.ensures ∙ c.answer.ensures.0) c.answer.ensures.1 c.write_figures.ensures
