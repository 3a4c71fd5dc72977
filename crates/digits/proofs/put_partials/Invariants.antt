-- What `put_partials` keeps from turn to turn: the draughts before this one are written. Assumes nothing.
use mathlib.Core.Path.{◌≡◌}
use Rattle.laws.proofs.Pieces.{pieces_below}
use Rattle.digits.specs.Splice.{splice}
use Rattle.digits.proofs.Fields.{partial_digits}
use Rattle.digits.proofs.put_partials.Given as goal

abbrev pub invariant-loop-j : goal.invariant-loop-j
invariant-loop-j l = l.out ≡ splice l.at (pieces_below (partial_digits l.fn.t) l.j) l.initial.out
