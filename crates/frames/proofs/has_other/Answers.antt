-- `has_other` meets its contract: a byte more at each turn. Assumes nothing.
use mathlib.Core.Path.{refl, ◌∙◌, ap}
use mathlib.Core.Bool.{◌||◌}
use native.Mathlib.Numerals.{add-one}
use native.Mathlib.Omega.{arith}
use lib.Dec.{eqb}
use lib.Seq.{take_all}
use Rattle.hexadecimal.specs.Hex.{digits_only}
use Rattle.frames.proofs.CodeDecoding.{other_taken}
use Rattle.frames.proofs.has_other.Goals as goal

pub loop-byte-init : goal.loop-byte-init
unfolding digits_only
loop-byte-init c = refl

pub loop-byte-preserved : goal.loop-byte-preserved
loop-byte-preserved c =
    let i = c.loop-byte.byte-index in
    rw (add-one i) (ap (◌|| eqb c.value_of.result 16) c.loop-byte.invariant ∙ other_taken c.args.text.now i _ (omega arith) c.value_of.ensures)

pub returns : goal.returns
returns c = rw (take_all c.loop-byte.byte-index c.args.text.now (omega arith)) at c.loop-byte.invariant
