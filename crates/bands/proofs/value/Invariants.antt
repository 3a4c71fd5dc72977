-- What `value` keeps from turn to turn. Assumes nothing.
use Rattle.bands.proofs.Coefficient.{Counting}
use Rattle.bands.proofs.value.Given as goal

abbrev pub invariant-loop-i : goal.invariant-loop-i
invariant-loop-i l = Counting l.row l.w l.i l.s
