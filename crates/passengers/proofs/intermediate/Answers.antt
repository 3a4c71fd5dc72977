-- `passengers::intermediate` meets its contract: no product wraps, and together they are s⁴ of the stage; nothing is left past 15 degrees. Assumes nothing.
use Prim.Native.Nat.{◌≤◌}
use native.Mathlib.Nat.{mul-le-mul}
use native.Mathlib.Omega.{arith}
use Rattle.passengers.proofs.Numbers.{stage_lost, stage_parts}
use Rattle.passengers.proofs.intermediate.Goals as goal

pub returns-then-w-gt-LOST : goal.returns-then-w-gt-LOST
returns-then-w-gt-LOST c = let w = c.args.w in stage_lost w.lever w.range w.heel c.if-w-gt-LOST.true

pub overflow_mul-result-3 : goal.overflow_mul-result-3
overflow_mul-result-3 c =
    let g : c.min.result ≤ 50 = omega arith in
    let t : c.min-2.result ≤ 700 = omega arith in
    omega (arith, mul-le-mul g t)

pub returns : goal.returns
returns c =
    let w = c.args.w in
    rw (c.min.ensures, c.min-2.ensures) (stage_parts w.lever w.range w.heel c.if-w-gt-LOST.false)
