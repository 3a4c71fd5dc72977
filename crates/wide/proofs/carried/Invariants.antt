-- What `carried` keeps from turn to turn. Assumes nothing.
use Rattle.wide.proofs.Sums.{Chain}
use Rattle.wide.proofs.carried.Given as goal

abbrev pub invariant-loop-i : goal.invariant-loop-i
invariant-loop-i l = Chain l.factor l.w l.more l.fn.carry l.limbs l.carry l.i
