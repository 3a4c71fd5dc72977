-- What `put_bytes` keeps from turn to turn: the bytes passed are written. Assumes nothing.
use mathlib.Core.Path.{◌≡◌}
use lib.ListN.{take}
use Rattle.laws.specs.Bytes.{bytes}
use Rattle.hexadecimal.specs.Hex.{hex}
use Rattle.digits.specs.Splice.{splice}
use Rattle.digits.proofs.put_bytes.Given as goal

abbrev pub invariant-loop-i : goal.invariant-loop-i
invariant-loop-i g l = l.out ≡ splice l.at (hex (take l.i (bytes g.row.N l.n))) l.initial.out
