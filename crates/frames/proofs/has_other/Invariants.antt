-- What `has_other` keeps from turn to turn. Assumes nothing.
use mathlib.Core.Path.{◌≡◌}
use mathlib.Core.Bool.{not}
use lib.ListN.{take}
use Rattle.hexadecimal.specs.Hex.{digits_only}
use Rattle.frames.proofs.has_other.Given as goal

abbrev pub invariant-loop-byte : goal.invariant-loop-byte
invariant-loop-byte l = l.bad ≡ not (digits_only (take l.byte-index l.text))
