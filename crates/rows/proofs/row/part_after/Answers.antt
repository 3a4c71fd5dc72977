-- `rows::part_after` meets its contract: a layer has one part. Assumes nothing.
use mathlib.Core.Path.{sym, ◌∙◌, ap}
use Rattle.rows.specs.declared.Part.{Part}
use Rattle.rows.proofs.Parts.{other_layer, one_part}
use Rattle.rows.proofs.row.part_after.Goals as goal

pub returns-then-eq : goal.returns-then-eq
returns-then-eq c =
    (one_part c.args.ship.now.hull c.args.z c.args.y c.requires.3 c.requires.1 (sym c.eq.ensures ∙ c.if-eq.true), c.requires.2)

pub next_part-requires : goal.next_part-requires
next_part-requires c =
    (c.requires.0, ap (λ (p : Part). p.group) c.requires.1, c.requires.2, c.requires.3, other_layer c.args.y c.args.z (sym c.eq.ensures ∙ c.if-eq.false))
