-- `results::fourth` meets its contract: no product wraps, and together they are s⁴; nothing is left with the opening immersed. Assumes nothing.
use borrow.Author.Rules.{rules}
use Prim.Native.Nat.{◌≤◌}
use mathlib.Core.Bool.{true, false}
use mathlib.Core.Path.{◌≡◌}
use native.Mathlib.Nat.{mul-le-mul}
use native.Mathlib.Omega.{arith}
use Rattle.solas.specs.Survival.{immersed}
use Rattle.solas.proofs.Survival.{lost_if_immersed, kept_if_dry}
use Rattle.results.proofs.Parts.{fourth_parts, nothing_parts}
use Rattle.results.proofs.fourth.Goals as goal

pub returns-then-is_immersed : goal.returns-then-is_immersed
returns-then-is_immersed c = let i : immersed c.args.f.opening ≡ true = search rules in rw (lost_if_immersed c.args.f.opening _ i) nothing_parts

pub overflow_mul-result-2 : goal.overflow_mul-result-2
overflow_mul-result-2 c =
    let g : c.min.result ≤ 120 = omega arith in
    let t : c.min-2.result ≤ 1600 = omega arith in
    omega (arith, mul-le-mul (mul-le-mul g t) c.heel_factor.ensures.at_most_one)

pub returns : goal.returns
returns c =
    let f = c.args.f in
    let i : immersed f.opening ≡ false = search rules in
    rw (kept_if_dry f.opening _ i, c.min.ensures, c.min-2.ensures) (fourth_parts f.lever f.range f.heel c.heel_factor.ensures)
