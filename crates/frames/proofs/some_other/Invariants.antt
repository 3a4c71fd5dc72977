-- What `some_other` keeps from turn to turn. Assumes nothing.
use mathlib.Core.Path.{◌≡◌}
use Rattle.frames.specs.Decoding.{other_below}
use Rattle.frames.proofs.some_other.Given as goal

abbrev pub invariant-loop-value : goal.invariant-loop-value
invariant-loop-value l = l.bad ≡ other_below l.value-items l.value-index
