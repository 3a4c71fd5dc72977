-- Bounds of either sign, in billionths: what sums and differences of bounded fractions are bounded by, and the ends that they are held to. Assumes nothing.
use mathlib.Core.Path.{◌≡◌}
use Prim.Native.Nat.{ℕ, ◌+◌, ◌-◌, ◌*◌, ◌^◌, ◌≤◌, ◌<◌, min}
use native.Mathlib.Nat.{mul-pos, mul-sub, mul-le-mul_left, min-eq_left, min-eq_right}
use native.Mathlib.Omega.{arith, sub_cases}
use Rattle.laws.specs.Fraction.{Fraction, den, Is, whole, ◌less◌over◌, ◌over◌, ◌≼◌, ◌⊹◌, ◌⊝◌}
use Rattle.laws.proofs.Fraction.{positive, is_self, is_whole, is_less_over, is_⊹, is_⊝, over_left, over_right, ≼_trans, numerators_below}
use Rattle.records.specs.declared.Ends.{Ends}
use Rattle.numbers.specs.Figures.{Between}
use Rattle.spans.proofs.Rounded.{not_above, not_below, above_numerators, below_numerators}

-- f is not below u - v, and not above x - y
pub record Bounds (u v x y : ℕ) (f : Fraction) : Type 0 where
  pub low : (u less v over 10 ^ 9) ≼ f
  pub high : f ≼ (x less y over 10 ^ 9)

pub bounds_of : {g : Ends} {f : Fraction} → Between g f → Bounds g.lower 0 g.upper 0 f
bounds_of h = record { low = h.low; high = h.high }

pub bounds_zero : Bounds 0 0 0 0 (whole 0)
bounds_zero =
    let o : Is (whole 0) 0 0 1 = is_whole 0 (omega arith) in
    record { low = not_above 0 0 (omega arith) o (omega arith); high = not_below 0 0 (omega arith) o (omega arith) }

-- the same numbers, written otherwise
pub bounds_as : {u v x y : ℕ} (u' v' x' y' : ℕ) {f : Fraction} → u ≡ u' → v ≡ v' → x ≡ x' → y ≡ y' → Bounds u v x y f → Bounds u' v' x' y' f
bounds_as u' v' x' y' a b c d h = rw (← a, ← b, ← c, ← d) h

module _ {u v x y u' v' x' y' : ℕ} {f g : Fraction} (h : Bounds u v x y f) (k : Bounds u' v' x' y' g) where
  room : 0 < den g * den f
  room = mul-pos (positive g) (positive f)

  pub bounds_⊹ : Bounds (u + u') (v + v') (x + x') (y + y') (f ⊹ g)
  bounds_⊹ =
      let both = is_⊹ (over_left f g) (over_right f g) in
      record {
        low = not_above (u + u') (v + v') room both (omega (arith, above_numerators u v room (over_left f g) h.low, above_numerators u' v' room (over_right f g) k.low));
        high = not_below (x + x') (y + y') room both (omega (arith, below_numerators x y room (over_left f g) h.high, below_numerators x' y' room (over_right f g) k.high));
      }

  pub bounds_⊝ : Bounds (u + y') (v + x') (x + v') (y + u') (f ⊝ g)
  bounds_⊝ =
      let both = is_⊝ (over_left f g) (over_right f g) in
      record {
        low = not_above (u + y') (v + x') room both (omega (arith, above_numerators u v room (over_left f g) h.low, below_numerators x' y' room (over_right f g) k.high));
        high = not_below (x + v') (y + u') room both (omega (arith, below_numerators x y room (over_left f g) h.high, above_numerators u' v' room (over_right f g) k.low));
      }

-- ---- a fraction from 0 to 1, held to the ends of a chance

module _ {u v x y : ℕ} {f : Fraction} (h : Bounds u v x y f) where
  -- where f is not negative, the upper bound is none that would be cut off
  pub not_cut : whole 0 ≼ f → y ≤ x
  not_cut z =
      let zero_is : Is (whole 0) (0 * 10 ^ 9) 0 (10 ^ 9) = is_whole 0 (omega arith) in
      omega (arith, numerators_below (≼_trans z h.high) zero_is (is_less_over x y (omega arith)))

  -- where f is not above one, the lower bound is not above 10⁹
  pub not_over : f ≼ whole 1 → u ≤ v + 10 ^ 9
  not_over o =
      let one_is : Is (whole 1) (1 * 10 ^ 9) 0 (10 ^ 9) = is_whole 1 (omega arith) in
      omega (arith, numerators_below (≼_trans h.low o) (is_less_over u v (omega arith)) one_is)

  held_low : whole 0 ≼ f → ((u - v) over 10 ^ 9) ≼ f
  held_low z =
      let zero_is : Is (whole 0) (0 * den f) 0 (den f) = is_whole 0 (positive f) in
      let n = above_numerators u v (positive f) (is_self f) h.low in
      let m = numerators_below z zero_is (is_self f) in
      not_above (u - v) 0 (positive f) (is_self f) (omega (arith, mul-sub (den f) u v))

  held_high : whole 0 ≼ f → f ≼ ((x - y) over 10 ^ 9)
  held_high z =
      let l = not_cut z in
      let n = below_numerators x y (positive f) (is_self f) h.high in
      not_below (x - y) 0 (positive f) (is_self f) (omega (arith, mul-sub (den f) x y, mul-le-mul_left (den f) l))

  held_one : f ≼ whole 1 → f ≼ (10 ^ 9 over 10 ^ 9)
  held_one o =
      let one_is : Is (whole 1) (1 * den f) 0 (den f) = is_whole 1 (positive f) in
      not_below (10 ^ 9) 0 (positive f) (is_self f) (omega (arith, numerators_below o (is_self f) one_is))

  pub held : whole 0 ≼ f → f ≼ whole 1 → Between (record { lower = u - v; upper = min (10 ^ 9) (x - y) }) f
  held z o = record { low = held_low z; high = least (10 ^ 9) (x - y) (held_one o) (held_high z) }
    where
      least : (m n : ℕ) → f ≼ (m over 10 ^ 9) → f ≼ (n over 10 ^ 9) → f ≼ (min m n over 10 ^ 9)
      least m n p q = sub_cases m n (f ≼ (min m n over 10 ^ 9)) (λ l e. rw (min-eq_right l) q) (λ l e. rw (min-eq_left l) p)
