-- The ends of p and P, from p as a ratio and by the ends of the ship that the span touches. Assumes nothing.
use mathlib.Core.Path.{◌≡◌, refl}
use Prim.Native.Nat.{ℕ, ◌+◌, ◌-◌, ◌*◌, ◌^◌, ◌≤◌}
use native.Mathlib.Omega.{arith}
use native.Mathlib.Nat.{mul-le-mul_right}
use Rattle.laws.specs.Fraction.{◌less◌over◌, ◌over◌, ◌⊹◌, Is}
use Rattle.laws.specs.Rounding.{ceil}
use Rattle.laws.proofs.Fraction.{is_over, is_widened, is_⊹, is_⊛, is_shifted}
use Rattle.records.specs.declared.Ends.{Ends}
use Rattle.numbers.specs.Figures.{billionths_of}
use Rattle.division.specs.Division.{Proper}
use Rattle.division.proofs.Division.{proper}
use Rattle.solas.specs.Span.{Touch, neither, one, both, touch, half, p, PAt, P}
use Rattle.bands.specs.declared.Ratio.{Ratio}
use Rattle.spans.specs.Rounded.{ends_of}
use Rattle.bands.specs.Bands.{Chance}
use Rattle.spans.specs.Span.{p_ends, PEnds, span_ends, touches}
use Rattle.spans.proofs.Rounded.{ends_are}
-- checked first, so that a definition that gives another number is refused there
use Rattle.spans.proofs.Values.{chance}

module _ (L x : ℕ) {r : Ratio} (some : 1 ≤ L) (c : Chance (p L x) L r) where
  -- p, and a part of the ship, over one denominator
  part_is : Is (x over L) (x * r.cm) 0 r.den
  part_is =
      let w = is_widened r.cm (is_over x some) in
      is_shifted (x * r.cm) 0 (omega arith) (rw c.centimetre at w)

  pub one_end_is : Is (half (p L x ⊹ (x over L))) (r.num + x * r.cm) 0 (2 * r.den)
  one_end_is =
      let h : Is (1 over 2) 1 0 2 = is_over 1 (omega arith) in
      let w = is_⊛ (is_⊹ c.value part_is) h in
      let e : r.den * 2 ≡ 2 * r.den = omega arith in
      is_shifted (r.num + x * r.cm) 0 (omega arith) (rw e at w)

  pub part_at_most : x ≤ L → x * r.cm ≤ r.den
  part_at_most h = omega (arith, mul-le-mul_right r.cm h, c.centimetre)

  pub one_end_proper : x ≤ L → Proper (r.num + x * r.cm) (2 * r.den)
  one_end_proper h = proper (omega (arith, c.positive)) (omega (arith, c.at_most_one, part_at_most h)) (omega (arith, c.narrow))

  -- ---- the ends

  pub inner_ends : p_ends L x ≡ billionths_of r.num r.den
  unfolding p_ends
  inner_ends = ends_are c.positive c.value

  pub one_end_ends : ends_of (PAt one L x) ≡ billionths_of (r.num + x * r.cm) (2 * r.den)
  one_end_ends = ends_are (omega (arith, c.positive)) one_end_is

-- ---- by the ends that are touched

pub neither_touched : (t : Touch) → touches t ≡ 0 → t ≡ neither
neither_touched neither e = refl
neither_touched one e = absurd (omega arith)
neither_touched both e = absurd (omega arith)

pub both_touched : (t : Touch) → touches t ≡ 2 → t ≡ both
both_touched neither e = absurd (omega arith)
both_touched one e = absurd (omega arith)
both_touched both e = refl

pub one_touched : (t : Touch) → (touches t ≡ 0 → ⊥) → (touches t ≡ 2 → ⊥) → t ≡ one
one_touched neither f g = absurd (f refl)
one_touched one f g = refl
one_touched both f g = absurd (g refl)

pub whole_ends : (L x : ℕ) → ends_of (PAt both L x) ≡ record { lower = 10 ^ 9; upper = 10 ^ 9 }
unfolding ends_of billionths_of ceil ◌less◌over◌
whole_ends L x = refl

-- p's ends and P's, where the span touches t
pub span_of : (L aft fwd : ℕ) (t : Touch) {a b : Ends} → touch L aft fwd ≡ t → a ≡ p_ends L (fwd - aft) → b ≡ ends_of (PAt t L (fwd - aft)) →
    record { inner = a; chance = b } ≡ span_ends L aft fwd
unfolding span_ends PEnds P
span_of L aft fwd t e f g = rw (e, f, g)
