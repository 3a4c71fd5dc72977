-- Passenger ships: the fourth powers of s-final and s-intermediate, and s-mom, as quotients of whole numbers, each from 0 to 1, and so is what they come to
-- together; where s-mom is one, and where it is nothing. Assumes nothing.
use Prim.Native.Nat.{ℕ, ◌-◌, ◌*◌, ◌^◌, ◌≤◌, ◌<◌, min}
use mathlib.Core.Bool.{cond}
use mathlib.Core.List.{[]}
use mathlib.Core.Logic.{◌↔◌, ◌⊎◌, inl, inr, ⊎_elim}
use mathlib.Core.Path.{◌≡◌, refl}
use native.Mathlib.Nat.{min-le_left, min-le_right, mul-pos, mul-zero, zero-mul, pow-le-pow_left}
use native.Mathlib.Omega.{arith}
use lib.Dec.{ltb, eqb, lit<}
use Rattle.laws.specs.Fraction.{Fraction, ◌less◌over◌, ◌over◌, whole, Is, ◌≈◌, ◌≼◌, ◌≼?◌, lesser, ◌⊛◌}
use Rattle.laws.proofs.Choice.{split}
use Rattle.laws.proofs.Fraction.{is_over, is_nothing, is_one, is_shifted, is_written, is_⊛, same, numerators_same, ≼_trans}
use Rattle.laws.proofs.FractionCompare.{is_square, ⊛_not_negative, ≼_of_≺}
use Rattle.laws.proofs.FractionOrder.{ordered, lesser_first, lesser_second}
use Rattle.laws.proofs.Tests.{told, picked}
use Rattle.laws.proofs.Polynomial.{◌:^◌, ◌:=◌, ◌⊢◌, poly1}
use Rattle.solas.specs.Passengers.{k_of_passengers, lever_cap, range_cap, final⁴, intermediate⁴, s_mom, together⁴}
use Rattle.solas.proofs.Survival.{portion_not_negative, portion_at_most_one, is_factor_of_heel, is_capped, capped_at_most}

-- ---- worked figures, which refuse a slip in the definitions at once

-- heels of 7, 11 and 15 degrees
heels : (k_of_passengers 700 ≈ whole 1) × (k_of_passengers 1100 ≈ 1 over 4) × (k_of_passengers 1500 ≈ whole 0)
unfolding k_of_passengers ◌⊛◌ ◌less◌over◌
heels = (record { cross = refl }, record { cross = refl }, record { cross = refl })

-- a lever of 100 mm and a range of 10 degrees, in a ro-ro case and in another; both just at their caps and above them
finals : (final⁴ 1 100 1000 0 ≈ 1 over 4) × (final⁴ 0 100 1000 0 ≈ 25 over 48) × (final⁴ 1 199 1999 0 ≈ 397801 over 400000) × (final⁴ 1 5000 9000 700 ≈ whole 1)
    × (final⁴ 0 120 1600 700 ≈ whole 1)
unfolding final⁴ k_of_passengers ◌⊛◌ ◌less◌over◌
finals = (record { cross = refl }, record { cross = refl }, record { cross = refl }, record { cross = refl }, record { cross = refl })

-- at 15 degrees an intermediate stage is not lost yet
stages : (intermediate⁴ 25 350 1500 ≈ 1 over 4) × (intermediate⁴ 5000 9000 0 ≈ whole 1) × (intermediate⁴ 5000 9000 1501 ≈ whole 0)
unfolding intermediate⁴ ◌⊛◌ ◌less◌over◌
stages = (record { cross = refl }, record { cross = refl }, record { cross = refl })

-- 5 m of lever, 299,999 t and 1,488,000 tm; a moment that is borne in full, one more than that, and a lever of 40 mm
moments : (s_mom 5000 299999 1488000 ≈ 1487995040 over 1488000000) × (s_mom 140 1000 100 ≈ whole 1) × (s_mom 140 1000 101 ≈ 100 over 101) × (s_mom 40 1000 1 ≈ whole 0)
    × (s_mom 5000 300000 1 ≈ whole 1)
unfolding s_mom ◌less◌over◌
moments = (record { cross = refl }, record { cross = refl }, record { cross = refl }, record { cross = refl }, record { cross = refl })

-- s-mom of a half, to the fourth; and the intermediate stage where it is the worse one
both_stages : (together⁴ (whole 1) (1 over 4) (1 over 2) ≈ 1 over 64) × (together⁴ (1 over 65) (1 over 4) (1 over 2) ≈ 1 over 65)
unfolding together⁴ lesser ◌≼?◌ ◌⊛◌ ◌less◌over◌
both_stages = (record { cross = refl }, record { cross = refl })

-- ---- the final stage
pub is_k_of_passengers : (e : ℕ) → Is (k_of_passengers e) (min 800 (1500 - e) ^ 2) 0 (800 ^ 2)
unfolding k_of_passengers
is_k_of_passengers e = is_factor_of_heel 700 800 e (lit< tt)

module _ (roro : ℕ) where
  pub lever_cap_positive : 0 < lever_cap roro
  lever_cap_positive = picked (λ n. 0 < n) (eqb roro 1) 200 120 (λ e. lit< tt) (λ e. lit< tt)

  pub range_cap_positive : 0 < range_cap roro
  range_cap_positive = picked (λ n. 0 < n) (eqb roro 1) 2000 1600 (λ e. lit< tt) (λ e. lit< tt)

  pub final_positive : 0 < lever_cap roro * range_cap roro * 800 ^ 2
  final_positive = mul-pos (mul-pos lever_cap_positive range_cap_positive) (lit< tt)

  module _ (g t e : ℕ) where
    pub is_final⁴ : Is (final⁴ roro g t e) (min g (lever_cap roro) * min t (range_cap roro) * min 800 (1500 - e) ^ 2) 0 (lever_cap roro * range_cap roro * 800 ^ 2)
    unfolding final⁴
    is_final⁴ = is_capped g (lever_cap roro) t (range_cap roro) lever_cap_positive range_cap_positive (is_k_of_passengers e)

    pub final⁴_not_negative : whole 0 ≼ final⁴ roro g t e
    final⁴_not_negative = portion_not_negative final_positive is_final⁴

    pub final⁴_at_most_one : final⁴ roro g t e ≼ whole 1
    final⁴_at_most_one =
        portion_at_most_one final_positive is_final⁴ (capped_at_most g (lever_cap roro) t (range_cap roro) (pow-le-pow_left (min-le_left 800 (1500 - e)) 2))

-- ---- an intermediate stage
module _ (g t e : ℕ) where
  pub is_intermediate⁴ : Is (intermediate⁴ g t e) (cond (ltb 1500 e) 0 (min g 50 * min t 700)) 0 (50 * 700)
  unfolding intermediate⁴
  is_intermediate⁴ =
      told (ltb 1500 e) (λ h. rw h (is_nothing (lit< tt))) (λ h. rw h (is_shifted _ 0 (omega arith) (is_⊛ (is_over (min g 50) {d = 50} (lit< tt)) (is_over (min t 700) {d = 700} (lit< tt)))))

  pub intermediate⁴_not_negative : whole 0 ≼ intermediate⁴ g t e
  intermediate⁴_not_negative = portion_not_negative (lit< tt) is_intermediate⁴

  pub intermediate⁴_at_most_one : intermediate⁴ g t e ≼ whole 1
  intermediate⁴_at_most_one = portion_at_most_one (lit< tt) is_intermediate⁴
      (picked (λ n. n ≤ 50 * 700) (ltb 1500 e) 0 (min g 50 * min t 700) (λ h. omega arith) (λ h. omega (arith, capped_at_most g 50 t 700 {n = 1} {d = 1} (omega arith))))

-- ---- s-mom

-- a portion of which no more than all counts: when it is all, and when it is nothing
module _ {f : Fraction} {n d : ℕ} (p : 0 < d) (h : Is f (min n d) 0 d) where
  all_of_it : (f ≈ whole 1) ↔ (d ≤ n)
  all_of_it = (
    λ e. omega (arith, numerators_same e h (is_one p)),
    λ l. same p (is_shifted d 0 (omega arith) h) (is_one p),
  )

  none_of_it : (f ≈ whole 0) ↔ (n ≡ 0)
  none_of_it = (
    λ e. omega (arith, numerators_same e h (is_nothing p)),
    λ l. same p (is_shifted 0 0 (omega arith) h) (is_nothing p),
  )

module _ (g Δ : ℕ) {M : ℕ} (p : 0 < M) where
  some_moment : 0 < 1000 * M
  some_moment = omega arith

  pub is_s_mom : Is (s_mom g Δ M) (min ((g - 40) * Δ) (1000 * M)) 0 (1000 * M)
  unfolding s_mom
  is_s_mom = is_over (min ((g - 40) * Δ) (1000 * M)) some_moment

  pub s_mom_not_negative : whole 0 ≼ s_mom g Δ M
  s_mom_not_negative = portion_not_negative some_moment is_s_mom

  pub s_mom_at_most_one : s_mom g Δ M ≼ whole 1
  s_mom_at_most_one = portion_at_most_one some_moment is_s_mom (min-le_right ((g - 40) * Δ) (1000 * M))

  -- the moment is borne in full
  pub s_mom_one : (s_mom g Δ M ≈ whole 1) ↔ (1000 * M ≤ (g - 40) * Δ)
  s_mom_one = all_of_it some_moment is_s_mom

  no_product : (a b : ℕ) → a * b ≡ 0 → (a ≡ 0) ⊎ (b ≡ 0)
  no_product a b e = split a 0 (λ l. inl (omega arith)) (λ l. split b 0 (λ m. inr (omega arith)) (λ m. absurd (omega (arith, mul-pos l m))))

  -- none of it is
  pub s_mom_nothing : (s_mom g Δ M ≈ whole 0) ↔ ((g ≤ 40) ⊎ (Δ ≡ 0))
  s_mom_nothing = (
    λ e. ⊎_elim (λ z. inl (omega arith)) (λ z. inr z) (no_product (g - 40) Δ ((none_of_it some_moment is_s_mom).0 e)),
    λ c. (none_of_it some_moment is_s_mom).1 (⊎_elim (λ l. let z : g - 40 ≡ 0 = omega arith in rw z (zero-mul Δ)) (λ z. rw z (mul-zero (g - 40))) c),
  )

-- ---- together

-- the fourth power of a quotient, as it is written there
pub is_fourth : {m : Fraction} {n d : ℕ} → Is m n 0 d → Is (m ⊛ m ⊛ (m ⊛ m)) (n ^ 4) 0 (d ^ 4)
is_fourth {m} {n} {d} h = is_written (is_square (is_square h)) (twice n) refl (twice d)
  where
    twice : (n : ℕ) → (n ^ 2) ^ 2 ≡ n ^ 4
    twice = poly1 (λ n. [] ⊢ (n :^ 2) :^ 2 := n :^ 4) tt

module _ (int final mom : Fraction) where
  pub together⁴_not_negative : whole 0 ≼ int → whole 0 ≼ final → whole 0 ≼ mom → whole 0 ≼ together⁴ int final mom
  unfolding together⁴
  together⁴_not_negative i f m =
      let square = ⊛_not_negative m m in
      ordered int (final ⊛ (mom ⊛ mom ⊛ (mom ⊛ mom))) (λ l. rw (lesser_first l) i) (λ l. rw (lesser_second l) (⊛_not_negative f (⊛_not_negative square square)))

  pub together⁴_at_most_one : int ≼ whole 1 → together⁴ int final mom ≼ whole 1
  unfolding together⁴
  together⁴_at_most_one i =
      ordered int (final ⊛ (mom ⊛ mom ⊛ (mom ⊛ mom))) (λ l. rw (lesser_first l) i) (λ l. rw (lesser_second l) (≼_trans (≼_of_≺ l) i))
