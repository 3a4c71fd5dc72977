-- Survival: s⁴ as one quotient of whole numbers, between 0 and 1; nothing of it is left where an opening is immersed. Assumes nothing.
use Prim.Native.Nat.{ℕ, ◌+◌, ◌-◌, ◌*◌, ◌^◌, ◌≤◌, ◌<◌, min, zero-le}
use mathlib.Core.Bool.{true, false, cond, true≢false}
use mathlib.Core.Logic.{◌↔◌}
use mathlib.Core.Path.{◌≡◌, refl}
use native.Mathlib.Nat.{min-le_left, min-le_right, mul-pos, mul-le-mul, pow-le-pow_left}
use native.Mathlib.Omega.{arith}
use lib.Dec.{leb, lit<}
use lib.IntN.{ℤ, pos, negsuc}
use lib.Signed.{◌≤ℤ◌, ◌<ℤ◌, lt_z_yes, lt_z_no}
use borrow.Author.Tests.{le-ltb}
use Rattle.laws.specs.Fraction.{Fraction, ◌over◌, whole, Is, ◌≼◌, ◌⊛◌}
use Rattle.laws.proofs.Fraction.{is_over, is_nothing, is_one, is_shifted, is_⊛, below}
use Rattle.laws.proofs.FractionCompare.{is_square}
use Rattle.laws.proofs.FractionOrder.{is_chosen}
use Rattle.laws.proofs.Polynomial.{pow_two}
use Rattle.laws.proofs.Tests.{holds, proved, picked}
use Rattle.solas.specs.Survival.{k, s⁴, immersed, unless_immersed}
-- checked first, so that a definition that gives another number is refused there
use Rattle.solas.proofs.Values.{s⁴_capped, s⁴_heeled, openings}

-- ---- portions: n of d, which are from 0 to 1
module _ {f : Fraction} {n d : ℕ} (p : 0 < d) (h : Is f n 0 d) where
  pub portion_not_negative : whole 0 ≼ f
  portion_not_negative = below p (is_nothing p) h (omega arith)

  pub portion_at_most_one : n ≤ d → f ≼ whole 1
  portion_at_most_one l = below p h (is_one p) (omega arith)

-- the factor of a heel e, by what is left of its greater limit, and not more than the w from the lesser to that
pub is_factor_of_heel : (least w e : ℕ) → 0 < w →
    Is (cond (leb e least) (whole 1) (cond (leb (least + w) e) (whole 0) (((least + w - e) over w) ⊛ ((least + w - e) over w)))) (min w (least + w - e) ^ 2) 0 (w ^ 2)
is_factor_of_heel least w e p =
    let q : 0 < w ^ 2 = rw pow_two (mul-pos p p) in
    is_chosen e least (λ l. let m : min w (least + w - e) ≡ w = omega arith in rw m (is_one q))
    (λ l. is_chosen (least + w) e (λ u. let m : min w (least + w - e) ≡ 0 = omega arith in rw m (is_nothing q))
    (λ u. let m : min w (least + w - e) ≡ least + w - e = omega arith in rw m (is_square (is_over (least + w - e) p))))

-- lever and range, each with a cap, and another factor
module _ (g G t T : ℕ) {n d : ℕ} where
  pub is_capped : {q : Fraction} → 0 < G → 0 < T → Is q n 0 d → Is ((min g G over G) ⊛ (min t T over T) ⊛ q) (min g G * min t T * n) 0 (G * T * d)
  is_capped p q h = is_shifted _ 0 (omega arith) (is_⊛ (is_⊛ (is_over (min g G) p) (is_over (min t T) q)) h)

  pub capped_at_most : n ≤ d → min g G * min t T * n ≤ G * T * d
  capped_at_most l = mul-le-mul (mul-le-mul (min-le_right g G) (min-le_right t T)) l

-- ---- document 01's s⁴: k by what is left of 30 degrees, and not more than 5 of them
pub is_k : (e : ℕ) → Is (k e) (min 500 (3000 - e) ^ 2) 0 (500 ^ 2)
unfolding k
is_k e = is_factor_of_heel 2500 500 e (lit< tt)

pub is_s⁴ : (g t e : ℕ) → Is (s⁴ g t e) (min g 120 * min t 1600 * min 500 (3000 - e) ^ 2) 0 (120 * 1600 * 500 ^ 2)
unfolding s⁴
is_s⁴ g t e = is_capped g 120 t 1600 (lit< tt) (lit< tt) (is_k e)

pub s⁴_not_negative : (g t e : ℕ) → whole 0 ≼ s⁴ g t e
s⁴_not_negative g t e = portion_not_negative (lit< tt) (is_s⁴ g t e)

pub s⁴_at_most_one : (g t e : ℕ) → s⁴ g t e ≼ whole 1
s⁴_at_most_one g t e = portion_at_most_one (lit< tt) (is_s⁴ g t e) (capped_at_most g 120 t 1600 (pow-le-pow_left (min-le_left 500 (3000 - e)) 2))

-- ---- an opening o millimetres above the final waterline
pub immersed_below : (o : ℤ) → (immersed o ≡ true) ↔ (o <ℤ pos 0)
immersed_below o = (λ e. lt_z_yes (proved (immersed o) e), λ l. holds (immersed o) l.lt)

pub dry_not_below : (o : ℤ) → (immersed o ≡ false) ↔ (pos 0 ≤ℤ o)
dry_not_below (pos n) = (λ e. lt_z_no (rw e tt), λ l. le-ltb n 0 zero-le)
dry_not_below (negsuc n) = (λ e. absurd (true≢false e), λ l. absurd l.le)

-- and whatever fraction f
module _ (o : ℤ) (f : Fraction) where
  pub lost_if_immersed : immersed o ≡ true → unless_immersed o f ≡ whole 0
  unfolding unless_immersed
  lost_if_immersed e = rw e refl

  pub kept_if_dry : immersed o ≡ false → unless_immersed o f ≡ f
  unfolding unless_immersed
  kept_if_dry e = rw e refl

  -- what holds of nothing and of f holds either way
  pub either_way : (P : Fraction → Type 0) → P (whole 0) → P f → P (unless_immersed o f)
  unfolding unless_immersed
  either_way P lost kept = picked P (immersed o) (whole 0) f (λ e. lost) (λ e. kept)
