-- Fractions from 0 to 1: a product of two is one of them, and is one only where both are; what is capped is one from its cap on. Assumes nothing.
use Prim.Native.Nat.{ℕ, ◌≤◌, ◌<◌, min}
use mathlib.Core.List.{[], ◌∷◌}
use mathlib.Core.Logic.{◌↔◌}
use native.Mathlib.Omega.{arith}
use Rattle.laws.specs.Fraction.{Fraction, ◌over◌, whole, ◌≈◌, ◌≼◌, ◌⊛◌}
use Rattle.laws.proofs.Fraction.{is_over, is_one, is_shifted, same, numerators_same, ≈_trans, ⊛-≈, ≼_of_≈, ≼_trans, ≈_sym}
use Rattle.laws.proofs.FractionCompare.{⊛_keeps, ⊛_not_negative, ≈_of_both}
use Rattle.laws.proofs.FractionRing.{⊛_comm}
use Rattle.laws.proofs.FractionTerm.{number, parts, first, ◌⊛ᵗ◌, agree}
use Rattle.survival.specs.Survival.{root, Sensible, fourth_power}

pub one_times : (f : Fraction) → whole 1 ⊛ f ≈ f
one_times f = agree {ρ = parts (f ∷ [])} (number 1 1 tt ⊛ᵗ first) first tt

-- ---- a product is at most either factor
module _ {f g : Fraction} (h : Sensible (root f)) (k : Sensible (root g)) where
  product_below : f ⊛ g ≼ g
  product_below = ≼_trans (⊛_keeps k.0 h.1) (≼_of_≈ (one_times g))

  pub product_sensible : Sensible (root (f ⊛ g))
  product_sensible = (⊛_not_negative h.0 k.0, ≼_trans product_below k.1)

  second_one : f ⊛ g ≈ whole 1 → g ≈ whole 1
  second_one e = ≈_of_both k.1 (≼_trans (≼_of_≈ (≈_sym e)) product_below)

pub product_below_first : {f g : Fraction} → Sensible (root f) → Sensible (root g) → f ⊛ g ≼ f
product_below_first {f} {g} h k = ≼_trans (≼_of_≈ (⊛_comm f g)) (product_below k h)

pub product_one : {f g : Fraction} → Sensible (root f) → Sensible (root g) → (f ⊛ g ≈ whole 1) ↔ ((f ≈ whole 1) × (g ≈ whole 1))
product_one {f} {g} h k = (
  λ e. (second_one k h (≈_trans (⊛_comm g f) e), second_one h k e),
  λ p. ≈_trans (⊛-≈ p.0 p.1) (one_times (whole 1)),
)

pub fourth_power_sensible : {f : Fraction} → Sensible (root f) → Sensible (root (fourth_power f))
fourth_power_sensible h = let square = product_sensible h h in product_sensible square square

pub fourth_power_one : {f : Fraction} → Sensible (root f) → (fourth_power f ≈ whole 1) ↔ (f ≈ whole 1)
fourth_power_one h =
    let square = product_sensible h h in
    (λ e. ((product_one h h).0 ((product_one square square).0 e).0).0, λ e. let two = (product_one h h).1 (e, e) in (product_one square square).1 (two, two))

-- ---- n of d, and no more than all of them
pub capped_one : (n : ℕ) {d : ℕ} → 0 < d → (min n d over d ≈ whole 1) ↔ (d ≤ n)
capped_one n {d} p = (
  λ e. omega (arith, numerators_same e (is_over (min n d) p) (is_one p)),
  λ l. same p (is_shifted d 0 (omega arith) (is_over (min n d) p)) (is_one p),
)
