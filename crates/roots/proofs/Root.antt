-- What holds of the fourth roots, rounded down and up: each is one number, and those of a fraction are those of its quotient. Assumes nothing.
use mathlib.Core.Path.{◌≡◌}
use Prim.Native.Nat.{ℕ, ◌+◌, ◌*◌, ◌/◌, ◌^◌, ◌≤◌, ◌<◌}
use native.Mathlib.Nat.{lt_of_not-le, lt_of_le_of_lt, le_antisymm, le_trans, le-div_iff_mul-le}
use native.Mathlib.Omega.{arith}
use lib.Dec.{lit<}
use Rattle.laws.specs.Rounding.{ceil}
use Rattle.laws.proofs.Roots.{powers_ordered, powers_strict}
use Rattle.laws.proofs.Rounding.{ceil_least}
use Rattle.roots.specs.Root.{RootDown, RootUp}

within_of_fourth : {s t : ℕ} → s ^ 4 ≤ t ^ 4 → s ≤ t
within_of_fourth {s} {t} = (powers_ordered 3 s t).0

below_of_fourth : {s t : ℕ} → s ^ 4 < t ^ 4 → s < t
below_of_fourth {s} {t} = (powers_strict 3 s t).0

-- ---- rounded down: n lies between the fourth powers of s and of the next number

pub down_between : {n s : ℕ} → s ^ 4 ≤ n → n < (s + 1) ^ 4 → RootDown n s
down_between {n} {s} low high =
    record { within = low; greatest = λ t h. let below : t < s + 1 = below_of_fourth (omega arith) in omega arith }

-- ---- the fourth power of a number

-- 64 bits hold that of every root, and of the next number
pub fits : (s : ℕ) → s ≤ 10001 → s ^ 4 < 2 ^ 64
fits s h = lt_of_le_of_lt ((powers_ordered 3 s 10001).1 h) (lit< tt)

-- that of 0 is above no number
pub positive : (n s : ℕ) → n < s ^ 4 → 0 < s
positive n s h = below_of_fourth {s = 0} (omega arith)

-- and that of a number above k is above that of k
pub fourth_at_most : {n s : ℕ} (k : ℕ) → n ≤ k ^ 4 → s ^ 4 ≤ n → s ≤ k
fourth_at_most k h p = within_of_fourth (le_trans p h)

pub below_next : {n s : ℕ} → RootDown n s → n < (s + 1) ^ 4
below_next {n} {s} p = lt_of_not-le (λ g. omega (arith, p.greatest (s + 1) g))

pub down_unique : {n s t : ℕ} → RootDown n s → RootDown n t → s ≡ t
down_unique {n} {s} {t} p q = le_antisymm (q.greatest s p.within) (p.greatest t q.within)

-- ---- rounded up: the root rounded down where that is exact, and else the next number

pub up_exact : {n s : ℕ} → s ^ 4 ≡ n → RootUp n s
up_exact {n} {s} e = record { reaches = omega arith; least = λ t h. within_of_fourth (omega arith) }

pub up_next : (n s : ℕ) → s ^ 4 ≤ n → n ≤ (s + 1) ^ 4 → (s ^ 4 ≡ n → ⊥) → RootUp n (s + 1)
up_next n s p q e =
    let low : s ^ 4 < n = omega (arith, p) in
    record { reaches = q; least = λ t h. let above : s < t = below_of_fourth (omega arith) in omega arith }

pub up_unique : {n s t : ℕ} → RootUp n s → RootUp n t → s ≡ t
up_unique {n} {s} {t} p q = le_antisymm (p.least t q.reaches) (q.least s p.reaches)

-- ---- the roots of a fraction n/d are those of its quotient, rounded the same way

pub down_of_fraction : {n d s : ℕ} → 0 < d → RootDown (n / d) s → (s ^ 4 * d ≤ n) × ((t : ℕ) → t ^ 4 * d ≤ n → t ≤ s)
down_of_fraction hd p = ((le-div_iff_mul-le hd).0 p.within, λ t h. p.greatest t ((le-div_iff_mul-le hd).1 h))

pub up_of_fraction : (n : ℕ) {d s : ℕ} → 0 < d → RootUp (ceil n d) s → (n ≤ s ^ 4 * d) × ((t : ℕ) → n ≤ t ^ 4 * d → s ≤ t)
up_of_fraction n {d} {s} hd p =
    ((ceil_least n d (s ^ 4) hd).0 p.reaches, λ t h. p.least t ((ceil_least n d (t ^ 4) hd).1 h))
