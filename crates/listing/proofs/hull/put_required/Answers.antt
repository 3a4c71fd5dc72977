-- `listing::hull::put_required` meets its contract. Assumes nothing.
use mathlib.Core.Path.{◌∙◌, ap}
use mathlib.Core.List.{◌++◌}
use lib.ListN.{drop}
use Rattle.listing.proofs.HullNumbers.{four_told}
use Rattle.listing.proofs.hull.put_required.Goals as goal

pub returns : goal.returns
returns c = ap (◌++ drop 4 c.args.out.now) (c.copy_from_slice.ensures.after ∙ four_told c.args.h c.standard_of.ensures.0 c.standard_of.ensures.1)
