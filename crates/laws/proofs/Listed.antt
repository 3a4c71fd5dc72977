-- The sum over a strictly rising list of numbers below n is at most the sum over all of them, and the same exactly when no number
-- that counts is left out. Assumes nothing.
use Prim.Native.Nat.{ℕ, suc, ◌+◌, ◌≤◌, ◌<◌, zero-le}
use mathlib.Core.Path.{◌≡◌, sym, ◌∙◌}
use mathlib.Core.List.Memᴰ
use mathlib.Core.List.{List, [], ◌∷◌, Memᴰ}
use mathlib.Core.Logic.{◌↔◌, ⊎_elim}
use native.Mathlib.Nat.{eq-or-lt_of_le, le_dest}
use native.Mathlib.Omega.{arith, sub_cases}
use Rattle.laws.specs.Lists.{Rising}
use Rattle.laws.specs.Sums.{sum_of, sum_below}
use Rattle.laws.proofs.Sums.{sum_below_longer, sum_below_between, sum_below_split, sum_below_zero}

pub rising_from : (a n i : ℕ) (xs : List ℕ) → Rising a n xs → Memᴰ i xs → a ≤ i
rising_from a n i [] r m = elim m [ ]
rising_from a n i (x ∷ xs) r (Memᴰ.head e) = omega arith
rising_from a n i (x ∷ xs) r (Memᴰ.tail m) = omega (arith, rising_from (suc x) n i xs r.2 m)

module _ (f : ℕ → ℕ) (n : ℕ) where
  not_above_from : (a : ℕ) (xs : List ℕ) → a ≤ n → Rising a n xs → sum_below f a + sum_of f xs ≤ sum_below f n
  not_above_from a [] h r = omega (arith, sum_below_longer f h)
  not_above_from a (x ∷ xs) h r = omega (arith, not_above_from (suc x) xs r.1 r.2, sum_below_longer f r.0)

  -- nothing counts between a and b
  level : (a b : ℕ) → a ≤ b → ((i : ℕ) → a ≤ i → i < b → 0 < f i → ⊥) → sum_below f b ≡ sum_below f a
  level a b h none =
      let (d, e) = le_dest h in
      let rest : sum_below (λ i. f (a + i)) d ≡ 0 = (sum_below_zero (λ i. f (a + i)) d).1 (λ i k. omega (arith, none (a + i) (omega arith) (omega arith))) in
      rw (← e) (omega (arith, sum_below_split f a d))

  all_counted : (a : ℕ) (xs : List ℕ) → a ≤ n → Rising a n xs → ((i : ℕ) → a ≤ i → i < n → 0 < f i → Memᴰ i xs) → sum_below f n ≡ sum_below f a + sum_of f xs
  all_counted a [] h r listed = omega (arith, level a n h (λ i k l p. Memᴰ.not-nil (listed i k l p)))
  all_counted a (x ∷ xs) h r listed = omega (arith, all_counted (suc x) xs r.1 r.2 later, level a x r.0 before)
    where
      later : (i : ℕ) → suc x ≤ i → i < n → 0 < f i → Memᴰ i xs
      later i k l p = ⊎_elim (λ (e : i ≡ x). absurd (omega arith)) (λ m. m) (Memᴰ.cases_cons (listed i (omega arith) l p))

      before : (i : ℕ) → a ≤ i → i < x → 0 < f i → ⊥
      before i k l p = ⊎_elim (λ (e : i ≡ x). omega arith) (λ m. omega (arith, rising_from (suc x) n i xs r.2 m)) (Memᴰ.cases_cons (listed i k (omega arith) p))

  none_left_out : (a : ℕ) (xs : List ℕ) → a ≤ n → Rising a n xs → sum_below f n ≡ sum_below f a + sum_of f xs → (i : ℕ) → a ≤ i → i < n → 0 < f i → Memᴰ i xs
  none_left_out a [] h r e i k l p = absurd (omega (arith, sum_below_between f a i n k l))
  none_left_out a (x ∷ xs) h r e i k l p =
      let rest = not_above_from (suc x) xs r.1 r.2 in
      let gap = sum_below_longer f r.0 in
      sub_cases i x (Memᴰ i (x ∷ xs))
      (λ q _. ⊎_elim (λ (e : x ≡ i). Memᴰ.head (sym e)) (λ (q : x < i). Memᴰ.tail (none_left_out (suc x) xs r.1 r.2 (omega arith) i q l p)) (eq-or-lt_of_le q))
      (λ q _. ⊎_elim (λ (e : i ≡ x). Memᴰ.head e) (λ (q : i < x). absurd (omega (arith, sum_below_between f a i x k q))) (eq-or-lt_of_le q))

  pub listed_not_above : (xs : List ℕ) → Rising 0 n xs → sum_of f xs ≤ sum_below f n
  listed_not_above xs r = omega (arith, not_above_from 0 xs zero-le r)

  pub listed_equal : (xs : List ℕ) → Rising 0 n xs → (sum_of f xs ≡ sum_below f n) ↔ ((i : ℕ) → i < n → 0 < f i → Memᴰ i xs)
  listed_equal xs r = (λ e i l p. none_left_out 0 xs zero-le r (sym e ∙ omega arith) i zero-le l p, λ h. omega (arith, all_counted 0 xs zero-le r (λ i k l p. h i l p)))
