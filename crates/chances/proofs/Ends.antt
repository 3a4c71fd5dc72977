-- The sums of nothing. Assumes nothing.
use native.Mathlib.Omega.{arith}
use Rattle.chances.specs.Share.{nothing, Few}
-- checked first, so that a definition that gives another number is refused there
use Rattle.chances.proofs.Values.{in_full}

pub few_none : Few nothing
few_none = record { added_order = omega arith; added_few = omega arith; taken_order = omega arith; taken_few = omega arith }
