-- `figures::write_figures` meets its contract: the twelve are copied to the front. Assumes nothing.
use mathlib.Core.Path.{ap}
use mathlib.Core.List.{◌++◌}
use lib.ListN.{drop}
use Rattle.printing.specs.ReadBack.{ends_of}
use Rattle.figures.specs.Figures.{figures_of, figures_in}
-- checked first, so that a definition that gives other figures is refused there
use Rattle.figures.proofs.Examples.{rest_stays}
use Rattle.figures.proofs.write_figures.Goals as goal

pub returns : goal.returns
unfolding figures_in figures_of ends_of
returns c = ap (◌++ drop 12 c.args.figures.now) c.copy_from_slice.ensures.after
