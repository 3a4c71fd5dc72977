-- Sums of fractions over one denominator. Assumes nothing.
use Prim.Native.Nat.{ℕ, zero, suc, ◌<◌}
use native.Mathlib.Omega.{arith}
use Rattle.laws.specs.Fraction.{Fraction, Is, up_to}
use Rattle.laws.specs.Sums.{sum_below}
use Rattle.laws.proofs.Fraction.{is_nothing, is_⊹}

pub is_up_to : {f : ℕ → Fraction} {a b : ℕ → ℕ} {d : ℕ} (n : ℕ) → 0 < d → ((i : ℕ) → i < n → Is (f i) (a i) (b i) d) → Is (up_to f n) (sum_below a n) (sum_below b n) d
unfolding up_to
is_up_to zero p h = is_nothing p
is_up_to (suc n) p h = is_⊹ (is_up_to n p (λ i k. h i (omega arith))) (h n (omega arith))
