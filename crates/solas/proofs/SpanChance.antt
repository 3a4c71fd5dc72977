-- The chance of damage within a span is above 0 wherever the span has a length. Assumes nothing.
use Prim.Native.Nat.{ℕ, ◌+◌, ◌-◌, ◌*◌, ◌^◌, ◌≤◌, ◌<◌}
use mathlib.Core.List.{[], ◌∷◌}
use native.Mathlib.Nat.{mul-pos, one-le-pow}
use native.Mathlib.Omega.{arith}
use lib.Dec.{lit<}
use Rattle.laws.specs.Fraction.{◌less◌over◌, whole, ◌≺◌}
use Rattle.laws.proofs.Choice.{chosen}
use Rattle.laws.proofs.Polynomial.{C, ◌:+◌, ◌:*◌, ◌:^◌, ◌:≤◌, ◌:<◌, ◌⊲◌, ◌⊢◌, poly2}
use Rattle.laws.proofs.Fraction.{is_over, is_less_over}
use Rattle.laws.proofs.FractionOrder.{above_0, sum_above_0, product_above_0}
use Rattle.solas.specs.Span.{Touch, neither, one, both, touch, p, PAt, P}

-- ---- each band

band_above : (a b : ℕ) {d : ℕ} → 0 < d → b < a → whole 0 ≺ (a less b over d)
band_above a b p l = above_0 p (is_less_over a b p) l

first_above : (x L : ℕ) → 33 * x ≤ 5 * L → 0 < x ^ 2 * L → 1089 * x ^ 3 < 550 * x ^ 2 * L
first_above = poly2 (λ x L. (C 33 :* x :^ 2 ⊲ C 33 :* x :≤ C 5 :* L) ∷ (C 385 ⊲ C 0 :< x :^ 2 :* L) ∷ [] ⊢ C 1089 :* x :^ 3 :< C 550 :* x :^ 2 :* L) tt

second_above : (x L : ℕ) → 33 * x ≤ 10 * L → 5 * L < 33 * x → 0 < L ^ 2 → 1000 * L ^ 3 + 35937 * x ^ 3 < 19800 * x * L ^ 2 + 32670 * x ^ 2 * L
second_above =
    poly2 (λ x L. (C 1089 :* x :^ 2 ⊲ C 33 :* x :≤ C 10 :* L) ∷ (C 600 :* L :^ 2 ⊲ C 5 :* L :< C 33 :* x) ∷ (C 600 ⊲ C 0 :< L :^ 2) ∷ []
    ⊢ C 1000 :* L :^ 3 :+ C 35937 :* x :^ 3 :< C 19800 :* x :* L :^ 2 :+ C 32670 :* x :^ 2 :* L) tt

inner_above : (L x : ℕ) → 0 < L → 0 < x → whole 0 ≺ p L x
unfolding p
inner_above L x p q =
    let cube : 0 < L ^ 3 = one-le-pow 3 L p in
    chosen (λ f. whole 0 ≺ f) (33 * x) (5 * L) (λ l. band_above _ _ (mul-pos (lit< tt) cube) (first_above x L l (mul-pos (one-le-pow 2 x q) p)))
    (λ l. chosen (λ f. whole 0 ≺ f) (33 * x) (10 * L) (λ k. band_above _ _ (mul-pos (lit< tt) cube) (second_above x L k l (one-le-pow 2 L p)))
    (λ k. band_above _ _ (mul-pos (lit< tt) p) (omega arith)))

-- ---- P, by the ends that the span touches
touched_above : (t : Touch) (L x : ℕ) → 0 < L → 0 < x → whole 0 ≺ PAt t L x
touched_above neither L x p q = inner_above L x p q
touched_above one L x p q = product_above_0 (sum_above_0 (inner_above L x p q) (above_0 p (is_over x p) q)) (above_0 (lit< tt) (is_over 1 {d = 2} (lit< tt)) (lit< tt))
touched_above both L x p q = above_0 (lit< tt) (is_over 1 {d = 1} (lit< tt)) (lit< tt)

pub P_above : (L aft fwd : ℕ) → 0 < L → aft < fwd → whole 0 ≺ P L aft fwd
unfolding P
P_above L aft fwd p h = touched_above (touch L aft fwd) L (fwd - aft) p (omega arith)
