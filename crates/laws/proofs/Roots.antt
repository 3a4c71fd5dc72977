-- Fourth roots without roots: a bound of the fourth power is a bound of the number. Assumes nothing.
use Prim.Native.Nat.{ℕ, suc, ◌*◌, ◌^◌, ◌≤◌, ◌<◌}
use mathlib.Core.List.{[], ◌∷◌}
use mathlib.Core.Logic.{◌↔◌}
use native.Mathlib.Nat.{lt_of_not-le, not-le_of_lt, le_of_mul-le-mul_right, pow-le-pow_left, pow-lt-pow_left, suc-ne-zero}
use native.Mathlib.Omega.{by_contra}
use Rattle.laws.proofs.Polynomial.{◌:*◌, ◌:^◌, ◌:≤◌, ◌⊲◌, ◌⊢◌, poly6}

-- powers with the exponent k + 1 keep the order, both ways
pub powers_ordered : (k x y : ℕ) → (x ^ suc k ≤ y ^ suc k) ↔ (x ≤ y)
powers_ordered k x y = (λ h. by_contra x y (λ l. not-le_of_lt (pow-lt-pow_left l (suc-ne-zero k)) h), λ h. pow-le-pow_left h (suc k))

pub powers_strict : (k x y : ℕ) → (x ^ suc k < y ^ suc k) ↔ (x < y)
powers_strict k x y = (λ h. lt_of_not-le (λ l. not-le_of_lt h (pow-le-pow_left l (suc k))), λ h. pow-lt-pow_left h (suc-ne-zero k))

-- x/D is not above the fourth root of N/M, and r/R is not below it
pub root_below : (x D N M r R : ℕ) → 0 < M → x ^ 4 * M ≤ N * D ^ 4 → N * R ^ 4 ≤ r ^ 4 * M → x * R ≤ r * D
root_below x D N M r R p h k =
    (powers_ordered 3 (x * R) (r * D)).0
    (le_of_mul-le-mul_right
    (poly6 (λ x D N M r R. (R :^ 4 ⊲ x :^ 4 :* M :≤ N :* D :^ 4) ∷ (D :^ 4 ⊲ N :* R :^ 4 :≤ r :^ 4 :* M) ∷ [] ⊢ (x :* R) :^ 4 :* M :≤ (r :* D) :^ 4 :* M) tt x D N M r R h k)
    p)

-- x/D is not below the fourth root of N/M, and r/R is not above it
pub root_above : (x D N M r R : ℕ) → 0 < M → N * D ^ 4 ≤ x ^ 4 * M → r ^ 4 * M ≤ N * R ^ 4 → r * D ≤ x * R
root_above x D N M r R p h k = root_below r R N M x D p k h
