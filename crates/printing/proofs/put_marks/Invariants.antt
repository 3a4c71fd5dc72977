-- What `put_marks` keeps from turn to turn: the draughts before this one are written. Assumes nothing.
use mathlib.Core.Path.{◌≡◌}
use Rattle.laws.proofs.Pieces.{pieces_below}
use Rattle.digits.specs.Splice.{splice}
use Rattle.printing.proofs.Marks.{mark_digits}
use Rattle.printing.proofs.put_marks.Given as goal

abbrev pub invariant-loop-j : goal.invariant-loop-j
invariant-loop-j l = l.out ≡ splice l.at (pieces_below (mark_digits l.fn.ss) l.j) l.initial.out
