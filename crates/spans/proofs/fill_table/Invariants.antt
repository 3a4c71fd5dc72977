-- What `fill_table` keeps from turn to turn. Assumes nothing.
use Rattle.spans.proofs.Filling.{Begun}
use Rattle.spans.proofs.fill_table.Given as goal

abbrev pub invariant-loop-j : goal.invariant-loop-j
invariant-loop-j l = Begun l.h l.t 0 l.j l.k

abbrev pub invariant-loop-i : goal.invariant-loop-i
invariant-loop-i l = Begun l.h l.t l.i l.j l.k
