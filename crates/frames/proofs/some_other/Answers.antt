-- `some_other` meets its contract: one value more at each turn. Assumes nothing.
use mathlib.Core.Path.{◌≡◌}
use native.Mathlib.Omega.{arith}
use Rattle.frames.proofs.CodeTurns.{other_none, other_more}
use Rattle.frames.proofs.some_other.Goals as goal

pub loop-value-init : goal.loop-value-init
loop-value-init c = other_none _

pub loop-value-preserved : goal.loop-value-preserved
loop-value-preserved c = other_more _ _ c.loop-value.invariant

pub returns : goal.returns
returns c =
    let e : c.loop-value.value-index ≡ 32 = omega arith in
    rw (← e) c.loop-value.invariant
