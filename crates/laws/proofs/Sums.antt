-- Sums over a list, and over the numbers below n: addition, order, parts. Assumes nothing.
use Prim.Native.Nat.{ℕ, zero, suc, ◌+◌, ◌*◌, ◌/◌, ◌%◌, ◌≤◌, ◌<◌, zero-le}
use mathlib.Core.Path.{◌≡◌, refl, ◌∙◌, ap₂}
use mathlib.Core.List.{List, [], ◌∷◌, ◌++◌}
use mathlib.Core.Logic.{◌↔◌}
use native.Mathlib.Nat.{add-zero, add-suc, le_dest, le-add_right, zero-mul, suc-mul}
use native.Mathlib.Omega.{arith}
use lib.Arith.{digits_div, digits_mod}
use Rattle.laws.specs.Sums.{sum_of, sum_below}

-- ---- over a list

module _ {A : Type 0} where
  pub sum_of_append : (f : A → ℕ) (xs ys : List A) → sum_of f (xs ++ ys) ≡ sum_of f xs + sum_of f ys
  sum_of_append f [] ys = omega arith
  sum_of_append f (x ∷ xs) ys = omega (arith, sum_of_append f xs ys)

-- ---- over the numbers below n

pub sum_below_same : (f g : ℕ → ℕ) (n : ℕ) → ((i : ℕ) → i < n → f i ≡ g i) → sum_below f n ≡ sum_below g n
sum_below_same f g zero h = refl
sum_below_same f g (suc n) h = omega (arith, sum_below_same f g n (λ i k. h i (omega arith)), h n (omega arith))

pub sum_below_add : (f g : ℕ → ℕ) (n : ℕ) → sum_below (λ i. f i + g i) n ≡ sum_below f n + sum_below g n
sum_below_add f g zero = refl
sum_below_add f g (suc n) = omega (arith, sum_below_add f g n)

pub sum_below_constant : (k n : ℕ) → sum_below (λ i. k) n ≡ n * k
sum_below_constant k zero = omega arith
sum_below_constant k (suc n) = omega (arith, sum_below_constant k n)

-- split at a place
pub sum_below_split : (f : ℕ → ℕ) (m n : ℕ) → sum_below f (m + n) ≡ sum_below f m + sum_below (λ i. f (m + i)) n
sum_below_split f m zero = rw (add-zero m) (omega arith)
sum_below_split f m (suc n) = rw (add-suc m n) (omega (arith, sum_below_split f m n))

pub sum_below_longer : (f : ℕ → ℕ) {m n : ℕ} → m ≤ n → sum_below f m ≤ sum_below f n
sum_below_longer f {m} {n} h = let (d, e) = le_dest h in rw (← e, sum_below_split f m d) (le-add_right _ _)

-- what lies between two places
pub sum_below_between : (f : ℕ → ℕ) (a i n : ℕ) → a ≤ i → i < n → sum_below f a + f i ≤ sum_below f n
sum_below_between f a i n h k = omega (arith, sum_below_longer f h, sum_below_longer f {m = suc i} {n = n} k)

pub place_not_above : (f : ℕ → ℕ) (i n : ℕ) → i < n → f i ≤ sum_below f n
place_not_above f i n h = omega (arith, sum_below_between f 0 i n zero-le h)

pub sum_below_zero : (f : ℕ → ℕ) (n : ℕ) → (sum_below f n ≡ 0) ↔ ((i : ℕ) → i < n → f i ≡ 0)
sum_below_zero f n = (λ e i h. omega (arith, place_not_above f i n h), λ h. sum_below_same f (λ i. 0) n h ∙ sum_below_constant 0 n ∙ omega arith)

-- a double sum as one sum over the pairs' numbers
pub sum_below_pairs : (f : ℕ → ℕ → ℕ) (n m : ℕ) → sum_below (λ k. f (k / m) (k % m)) (n * m) ≡ sum_below (λ i. sum_below (λ j. f i j) m) n
sum_below_pairs f zero m = rw (zero-mul m) refl
sum_below_pairs f (suc n) m =
    rw (suc-mul n m, sum_below_split (λ k. f (k / m) (k % m)) (n * m) m)
    (ap₂ ◌+◌ (sum_below_pairs f n m) (sum_below_same _ _ m (λ j h. ap₂ f (digits_div n h) (digits_mod n h))))
