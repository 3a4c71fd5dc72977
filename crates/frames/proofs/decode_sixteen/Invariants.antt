-- What `decode_sixteen` keeps from turn to turn. Assumes nothing.
use mathlib.Core.Path.{◌≡◌}
use lib.ListN.{take, drop}
use lib.Seq.{sets}
use Rattle.hexadecimal.specs.Hex.{bytes_of}
use Rattle.frames.proofs.decode_sixteen.Given as goal

abbrev pub invariant-loop-k : goal.invariant-loop-k
invariant-loop-k l = l.out ≡ sets l.initial.out l.i (take l.k (drop l.i (bytes_of l.text)))
