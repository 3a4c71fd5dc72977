-- What `put_row` keeps from turn to turn: the draughts before this one are put. Assumes nothing.
use mathlib.Core.Path.{◌≡◌}
use Prim.Native.Nat.{◌+◌}
use lib.Seq.{sets}
use Rattle.laws.proofs.Pieces.{pieces_below}
use Rattle.listing.specs.Rows.{draught_numbers}
use Rattle.listing.proofs.put_row.Given as goal

abbrev pub invariant-loop-j : goal.invariant-loop-j
invariant-loop-j l = l.out ≡ sets l.initial.out (l.at + 2) (pieces_below (draught_numbers l.fn.share l.fn.vs l.fn.ss) l.j)
