-- What `raised` keeps from turn to turn, and what its turns count down. Assumes nothing.
use Prim.Native.Nat.{◌-◌, ◌^◌, ◌≤◌}
use Rattle.roots.proofs.raised.Given as goal

abbrev pub invariant-loop-s : goal.invariant-loop-s
invariant-loop-s l = (l.s ^ 4 ≤ l.n) × (l.s ≤ 10000)

abbrev pub decreases-loop-s : goal.decreases-loop-s
decreases-loop-s l = 10000 - l.s
