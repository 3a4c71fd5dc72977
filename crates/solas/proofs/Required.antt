-- The required index of cargo ships and of passenger ships: R as a quotient of whole numbers, and its bounds. Assumes nothing.
use Prim.Native.Nat.{ℕ, ◌+◌, ◌*◌, ◌≤◌, ◌<◌}
use native.Mathlib.Nat.{mul-pos}
use native.Mathlib.Omega.{arith}
use lib.Dec.{lit<}
use borrow.Author.Tests.{lt-ltb, le-ltb, le-leb, lt-leb}
use Rattle.laws.specs.Fraction.{whole, Is, ◌≺◌}
use Rattle.laws.proofs.Choice.{split}
use Rattle.laws.proofs.Fraction.{is_over, is_whole, strictly_below_across}
use Rattle.solas.specs.Index.{R, passenger_R, R2020}
-- checked first, so that a definition that gives another number is refused there
use Rattle.solas.proofs.Values.{R_8000, passengers_1500_200, bands_of_2020}

pub is_R_long : {L : ℕ} → 10000 < L → Is (R L) (L + 2400) 0 (L + 15200)
unfolding R
is_R_long {L} p = rw (lt-ltb 10000 L p) (is_over (L + 2400) {d = L + 15200} (omega arith))

pub is_R_short : {L : ℕ} → L ≤ 10000 → Is (R L) (L * (L + 2400)) 0 (L * (L + 2400) + 128000000)
unfolding R
is_R_short {L} p = rw (le-ltb 10000 L p) (is_over (L * (L + 2400)) {d = L * (L + 2400) + 128000000} (omega arith))

pub R_positive : {L : ℕ} → 0 < L → whole 0 ≺ R L
R_positive {L} p =
    let none = is_whole 0 {d = 1} (lit< tt) in
    split L 10000 (λ q. strictly_below_across none (is_R_short q) (omega (arith, mul-pos p p))) (λ q. strictly_below_across none (is_R_long q) (omega arith))

-- ---- passenger ships
pub is_passenger_R : (L n : ℕ) → Is (passenger_R L n) (L + 250 * n + 1022500) 0 (L + 250 * n + 1522500)
unfolding passenger_R
is_passenger_R L n = is_over (L + 250 * n + 1022500) {d = L + 250 * n + 1522500} (omega arith)

pub passenger_R_positive : (L n : ℕ) → whole 0 ≺ passenger_R L n
passenger_R_positive L n = strictly_below_across (is_whole 0 {d = 1} (lit< tt)) (is_passenger_R L n) (omega arith)

pub passenger_R_below_one : (L n : ℕ) → passenger_R L n ≺ whole 1
passenger_R_below_one L n = strictly_below_across (is_passenger_R L n) (is_whole 1 {d = 1} (lit< tt)) (omega arith)

-- ---- by the rule of 2020, band by band
pub is_R2020_few : {n : ℕ} → n < 400 → Is (R2020 n) 722 0 1000
unfolding R2020
is_R2020_few {n} p = rw (lt-ltb n 400 p) (is_over 722 {d = 1000} (lit< tt))

pub is_R2020_some : {n : ℕ} → 400 ≤ n → n ≤ 1350 → Is (R2020 n) (5000 * n + 25363817) 0 37900000
unfolding R2020
is_R2020_some {n} p q = rw (le-ltb n 400 p, le-leb n 1350 q) (is_over (5000 * n + 25363817) {d = 37900000} (lit< tt))

pub is_R2020_many : {n : ℕ} → 1350 < n → Is (R2020 n) (769 * n + 3318000) 0 (800 * (n + 5000))
unfolding R2020
is_R2020_many {n} p = rw (le-ltb n 400 (omega arith), lt-leb n 1350 p) (is_over (769 * n + 3318000) {d = 800 * (n + 5000)} (omega arith))

-- what is so in each band is so of all persons
pub by_bands : (P : ℕ → Type 0) → ((n : ℕ) → n < 400 → P n) → ((n : ℕ) → 400 ≤ n → n ≤ 1350 → P n) → ((n : ℕ) → 1350 < n → P n) → (n : ℕ) → P n
by_bands P few some many n = split 400 n (λ p. split n 1350 (some n p) (many n)) (few n)

pub R2020_positive : (n : ℕ) → whole 0 ≺ R2020 n
R2020_positive =
    let none = is_whole 0 {d = 1} (lit< tt) in
    by_bands (λ n. whole 0 ≺ R2020 n) (λ n p. strictly_below_across none (is_R2020_few p) (omega arith)) (λ n p q. strictly_below_across none (is_R2020_some p q) (omega arith))
    (λ n p. strictly_below_across none (is_R2020_many p) (omega arith))

pub R2020_below_one : (n : ℕ) → R2020 n ≺ whole 1
R2020_below_one =
    let all = is_whole 1 {d = 1} (lit< tt) in
    by_bands (λ n. R2020 n ≺ whole 1) (λ n p. strictly_below_across (is_R2020_few p) all (omega arith)) (λ n p q. strictly_below_across (is_R2020_some p q) all (omega arith))
    (λ n p. strictly_below_across (is_R2020_many p) all (omega arith))
