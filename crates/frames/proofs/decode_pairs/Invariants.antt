-- What `decode_pairs` keeps from turn to turn, and what its turns count down. Assumes nothing.
use Prim.Native.Nat.{◌-◌, ◌≤◌}
use Rattle.frames.proofs.CodeDecoding.{Decoding}
use Rattle.frames.proofs.decode_pairs.Given as goal

abbrev pub invariant-loop-i : goal.invariant-loop-i
invariant-loop-i l = (l.i ≤ l.m) × Decoding l.text l.initial.out l.out l.bad l.i

abbrev pub decreases-loop-i : goal.decreases-loop-i
decreases-loop-i l = l.m - l.i
