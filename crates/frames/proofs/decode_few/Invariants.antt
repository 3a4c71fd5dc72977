-- What `decode_few` keeps from turn to turn. Assumes nothing.
use Rattle.frames.proofs.CodeDecoding.{Decoding}
use Rattle.frames.proofs.decode_few.Given as goal

abbrev pub invariant-loop-i : goal.invariant-loop-i
invariant-loop-i l = Decoding l.text l.initial.out l.out l.bad l.i
