-- 168ths of 10⁻¹⁶: how many of them s⁴ is, how two numbers of them compare, and that they are rounded as the fraction is. Assumes nothing.
use Prim.Native.Nat.{ℕ, ◌+◌, ◌-◌, ◌*◌, ◌/◌, ◌^◌, ◌≤◌, ◌<◌, min}
use mathlib.Core.Path.{◌≡◌, refl}
use native.Mathlib.Nat.{le_antisymm, min-le_right, mul-le-mul}
use native.Mathlib.Omega.{arith}
use lib.Dec.{lit<}
use Rattle.laws.specs.Fraction.{Fraction, whole, Is, ◌≼◌, ◌≺◌, lesser}
use Rattle.laws.specs.Rounding.{ceil}
use Rattle.laws.proofs.Equal.{same_floor, same_ceil}
use Rattle.laws.proofs.Fraction.{is_over, is_nothing, is_widened, is_shifted, is_⊛, is_written, below, strictly_below, ≈_refl, ≼_of_≈}
use Rattle.laws.proofs.FractionCompare.{across_below}
use Rattle.laws.proofs.FractionOrder.{is_lesser}
use Rattle.laws.proofs.Polynomial.{pow_two}
use Rattle.laws.proofs.Rounding.{floor_not_above_ceil, ceil_near_floor}
use Rattle.solas.specs.Survival.{k, s⁴}
use Rattle.solas.proofs.Survival.{is_k}
use Rattle.roots.specs.Root.{with_digits, root_down, root_up}
use Rattle.numbers.specs.Ratio.{ratio_of}
use Rattle.numbers.proofs.Ratios.{ratio_positive, is_ratio}
use Rattle.results.specs.Parts.{Parts, InParts, parts}
use Rattle.survival.specs.Survival.{scaled_of, rounded_of}
use Rattle.survival.proofs.Factors.{times_down, times_up, same_multiple}

-- ---- k by what is left of 30 degrees, and not more than 5 of them; s⁴, from the parts that k is; and nothing
pub heel_parts : (e n : ℕ) → min 500 (3000 - e) ≡ n → Parts (168 * 10 ^ 16 / (120 * 1600)) (k e) (n * n * 35000000)
heel_parts e n h =
    let l : n ≤ 500 = omega arith in
    record { is = is_written (is_widened 35000000 (is_k e)) (rw (h, pow_two) (omega arith)) refl refl; at_most_one = omega (arith, mul-le-mul l l) }

pub fourth_parts : (g t e : ℕ) {n : ℕ} → Parts (168 * 10 ^ 16 / (120 * 1600)) (k e) n → InParts (s⁴ g t e) (min g 120 * min t 1600 * n)
unfolding s⁴
fourth_parts g t e h = record {
  is = is_shifted _ 0 (omega arith) (is_⊛ (is_⊛ (is_over _ (lit< tt)) (is_over _ (lit< tt))) h.is);
  at_most_one = mul-le-mul (mul-le-mul (min-le_right g 120) (min-le_right t 1600)) h.at_most_one;
}

pub nothing_parts : InParts (whole 0) 0
nothing_parts = record { is = is_nothing (lit< tt); at_most_one = omega arith }

-- ---- two fractions compare as their parts do
module _ {f g : Fraction} {a b : ℕ} (h : InParts f a) (k : InParts g b) where
  pub parts_below : a ≤ b → f ≼ g
  parts_below l = below (lit< tt) h.is k.is (omega arith)

  pub parts_strictly_below : b < a → g ≺ f
  parts_strictly_below l = strictly_below k.is h.is (omega arith)

  pub lesser_parts : InParts (lesser f g) (min a b)
  lesser_parts = record { is = is_lesser (lit< tt) h.is k.is; at_most_one = omega (arith, h.at_most_one) }

-- ---- 10¹⁶ times n 168ths of 10⁻¹⁶
pub scaled_parts : (n : ℕ) → ◌≡◌ (scaled_of (parts n)) (record { down = n / 168; up = ceil n 168 })
unfolding scaled_of
scaled_parts n =
    let e : 10 ^ 16 * n * 168 ≡ n * (168 * 10 ^ 16) = omega arith in
    same_multiple (same_floor (10 ^ 16 * n) n (lit< tt) (lit< tt) e) (same_ceil (10 ^ 16 * n) n (lit< tt) (lit< tt) e)

-- what is rounded down and what is rounded up are at most one apart, and at most 10¹⁶
module _ {n : ℕ} (h : n ≤ 168 * 10 ^ 16) where
  pub scaled_near : ((scaled_of (parts n)).down ≤ (scaled_of (parts n)).up) × ((scaled_of (parts n)).up ≤ (scaled_of (parts n)).down + 1)
  unfolding scaled_of
  scaled_near = (floor_not_above_ceil (10 ^ 16 * n) (168 * 10 ^ 16), ceil_near_floor (10 ^ 16 * n) (168 * 10 ^ 16) (lit< tt))

  pub scaled_fits : ((scaled_of (parts n)).down ≤ 10 ^ 16) × ((scaled_of (parts n)).up ≤ 10 ^ 16)
  unfolding scaled_of
  scaled_fits = (times_down (10 ^ 16) (lit< tt) h, times_up (10 ^ 16) (lit< tt) h)

pub nothing_rounded : rounded_of (parts 0) ≡ record { bottom = 0; top = 0 }
unfolding rounded_of scaled_of root_down root_up with_digits ceil
nothing_rounded = refl

pub one_rounded : rounded_of (parts (168 * 10 ^ 16)) ≡ record { bottom = 10 ^ 4; top = 10 ^ 4 }
unfolding rounded_of scaled_of root_down root_up with_digits ceil
one_rounded = refl

-- ---- a fraction is its ratio, and n/d, however it is written
pub ratio_crossed : {f : Fraction} {n d : ℕ} → whole 0 ≼ f → Is f n 0 d → (ratio_of f).num * d ≡ n * (ratio_of f).den
ratio_crossed {f} p h =
    let i = is_ratio p in
    let same = ≼_of_≈ (≈_refl f) in
    le_antisymm (omega (arith, across_below i h same)) (omega (arith, across_below h i same))

-- ---- a fraction and its parts have one root
module _ {f : Fraction} {n : ℕ} (h : InParts f n) where
  not_negative : whole 0 ≼ f
  not_negative = below (lit< tt) (is_nothing (lit< tt)) h.is (omega arith)

  crossed : (ratio_of f).num * (168 * 10 ^ 16) ≡ n * (ratio_of f).den
  crossed = ratio_crossed not_negative h.is

  same_scaled : scaled_of (ratio_of f) ≡ scaled_of (parts n)
  unfolding scaled_of
  same_scaled =
      let e : 10 ^ 16 * (ratio_of f).num * (168 * 10 ^ 16) ≡ 10 ^ 16 * n * (ratio_of f).den = omega (arith, crossed) in
      same_multiple
      (same_floor (10 ^ 16 * (ratio_of f).num) (10 ^ 16 * n) (ratio_positive f) (lit< tt) e)
      (same_ceil (10 ^ 16 * (ratio_of f).num) (10 ^ 16 * n) (ratio_positive f) (lit< tt) e)

  pub rounded_parts : rounded_of (parts n) ≡ rounded_of (ratio_of f)
  unfolding rounded_of
  rounded_parts = rw same_scaled refl
