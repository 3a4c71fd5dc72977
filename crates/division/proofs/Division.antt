-- What long division takes, and the roundings at its end. Assumes nothing.
use mathlib.Core.Path.{◌≡◌, refl}
use Prim.Native.Nat.{ℕ, ◌+◌, ◌*◌, ◌/◌, ◌^◌, ◌≤◌, ◌<◌}
use native.Mathlib.Omega.{arith}
use lib.Arith.{digits_div}
use mir.Val.{bool_byte}
use borrow.Author.Tests.{le-ltb, lt-ltb}
use Rattle.std.specs.Prelude.{nat_lt}
use Rattle.laws.specs.Rounding.{ceil}
use Rattle.laws.proofs.Choice.{split}
use Rattle.numbers.proofs.Quotients.{exact_up, more_up}
use Rattle.division.specs.Division.{Proper, dividend}
use Rattle.division.specs.declared.quotient.Quotient.{Quotient}

-- every divisor of 01 will do: the widest is 59400 L³, of a span at one end of a ship of 198 m
pub proper : {n d : ℕ} → 0 < d → n ≤ d → d ≤ 59400 * 19800 ^ 3 → Proper n d
proper hd hn h = record { positive = hd; at_most_one = hn; narrow = omega arith }

-- ---- the roundings

pub down : (q : Quotient) → dividend q / q.divisor ≡ q.whole
down q = digits_div q.whole q.small

-- one more where something is left
pub up : (q : Quotient) → q.whole + bool_byte (nat_lt 0 q.rest) ≡ ceil (dividend q) q.divisor
up q =
    split q.rest 0 (λ h. rw (le-ltb 0 q.rest h) (omega (arith, exact_up q.whole refl q.small (omega arith))))
    (λ h. rw (lt-ltb 0 q.rest h) (more_up q.whole refl q.small (λ e. absurd (omega arith))))
