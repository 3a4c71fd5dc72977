-- The required index of either ship type, by either rule, and the partial mark, by numerator and denominator; and what an end that reaches a mark tells. Assumes nothing.
use Prim.Native.Nat.{ℕ, zero, suc, ◌+◌, ◌*◌, ◌^◌, ◌≤◌, ◌<◌}
use mathlib.Core.Bool.{Bool, true, ◌&&◌}
use mathlib.Core.List.{List, [], ◌∷◌}
use mathlib.Core.Logic.{◌↔◌}
use mathlib.Core.Path.{◌≡◌, refl, ◌∙◌}
use native.Mathlib.Nat.{mul-le-mul, mul-le-mul_left, mul-le-mul_right, le_trans}
use native.Mathlib.Omega.{arith}
use lib.Dec.{leb, ltb, lit<}
use borrow.Author.Tests.{lt-ltb, le-ltb, le-leb, lt-leb}
use Rattle.laws.specs.Fraction.{Fraction, ◌over◌}
use Rattle.solas.specs.Index.{R, partial_mark, passenger_R, R2020, passenger_mark}
use Rattle.laws.proofs.Choice.{split}
use Rattle.laws.proofs.Tests.{both, same_test, picked}
use Rattle.numbers.specs.Ratio.{ratio_of, Proper}
use Rattle.verdicts.specs.Verdict.{reaches, all_reach}
use Rattle.records.specs.declared.Ends.{Ends}
use Rattle.records.specs.declared.Ratio.{Ratio}
use Rattle.records.specs.Ends.{at}
use Rattle.std.specs.Bool.{IsTrue}
use Rattle.std.specs.List.{All}
use Rattle.numbers.proofs.Ratios.{same_ratio, ratio_over, ratio_product, over_plain, product_plain}

abbrev Plain : Fraction → Type 0
Plain f = f.down ≡ 0

-- ---- R of a cargo ship
pub required_long : (L : ℕ) → 10000 < L → ratio_of (R L) ≡ record { num = L + 2400; den = L + 15200 }
unfolding R
required_long L h = rw (lt-ltb 10000 L h) (ratio_over (L + 2400) {d = L + 15200} (omega arith))

pub required_short : (L : ℕ) → L ≤ 10000 → ratio_of (R L) ≡ record { num = L * (L + 2400); den = L * (L + 2400) + 128000000 }
unfolding R
required_short L h = rw (le-ltb 10000 L h) (ratio_over (L * (L + 2400)) {d = L * (L + 2400) + 128000000} (omega arith))

-- ---- of a passenger ship, by the earlier rule
pub passenger_required_lem : (L n : ℕ) → ratio_of (passenger_R L n) ≡ record { num = L + 250 * n + 1022500; den = L + 250 * n + 1522500 }
unfolding passenger_R
passenger_required_lem L n = ratio_over (L + 250 * n + 1022500) {d = L + 250 * n + 1522500} (omega arith)

-- ---- and by that of 2020
pub few_aboard : (n : ℕ) → n < 400 → ratio_of (R2020 n) ≡ record { num = 722; den = 1000 }
unfolding R2020
few_aboard n h = rw (lt-ltb n 400 h) (ratio_over 722 (lit< tt))

pub more_aboard : (n : ℕ) → 400 ≤ n → n ≤ 1350 → ratio_of (R2020 n) ≡ record { num = 5000 * n + 25363817; den = 37900000 }
unfolding R2020
more_aboard n l h = rw (le-ltb n 400 l, le-leb n 1350 h) (ratio_over (5000 * n + 25363817) (lit< tt))

pub most_aboard : (n : ℕ) → 1350 < n → ratio_of (R2020 n) ≡ record { num = 769 * n + 3318000; den = 800 * (n + 5000) }
unfolding R2020
most_aboard n h = rw (le-ltb n 400 (omega arith), lt-leb n 1350 h) (ratio_over (769 * n + 3318000) {d = 800 * (n + 5000)} (omega arith))

-- ---- each is written with no minus
pub required_plain : (L : ℕ) → (R L).down ≡ 0
unfolding R
required_plain L = picked Plain (ltb 10000 L) _ _ (λ e. over_plain (L + 2400) (L + 15200)) (λ e. over_plain (L * (L + 2400)) (L * (L + 2400) + 128000000))

pub passenger_plain : (L n : ℕ) → (passenger_R L n).down ≡ 0
unfolding passenger_R
passenger_plain L n = over_plain (L + 250 * n + 1022500) (L + 250 * n + 1522500)

pub rule_plain : (n : ℕ) → (R2020 n).down ≡ 0
unfolding R2020
rule_plain n =
    picked Plain (ltb n 400) _ _ (λ e. over_plain 722 1000)
    (λ e. picked Plain (leb n 1350) _ _ (λ e. over_plain (5000 * n + 25363817) 37900000) (λ e. over_plain (769 * n + 3318000) (800 * (n + 5000))))

-- ---- from 0 to 1, of so few parts that ten times as many can be compared
abbrev pub Few : Ratio → Type 0
Few r = (0 < r.den) × (r.num ≤ r.den) × (r.den ≤ 10 ^ 9)

pub short_square : (L : ℕ) → L ≤ 10000 → L * (L + 2400) ≤ 124000000
short_square L h = let m : L + 2400 ≤ 12400 = omega arith in mul-le-mul h m

pub required_few : {L : ℕ} → L ≤ 10 ^ 6 → Few (ratio_of (R L))
required_few {L} h = split L 10000 (λ l. rw (required_short L l) (omega (arith, short_square L l))) (λ l. rw (required_long L l) (omega arith))

pub passenger_few : {L n : ℕ} → (L ≤ 10 ^ 6) × (n ≤ 10 ^ 6) → Few (ratio_of (passenger_R L n))
passenger_few {L} {n} h = rw (passenger_required_lem L n) (omega (arith, h.0, h.1))

pub rule_few : {n : ℕ} → n ≤ 10 ^ 6 → Few (ratio_of (R2020 n))
rule_few {n} h =
    split n 1350
    (λ l. split n 399 (λ f. rw (few_aboard n (omega arith)) (omega arith)) (λ f. rw (more_aboard n (omega arith) l) (omega arith)))
    (λ l. rw (most_aboard n l) (omega arith))

-- ---- half of R, and nine tenths of it
pub mark_half : (L : ℕ) → ratio_of (partial_mark L) ≡ record { num = (ratio_of (R L)).num; den = (ratio_of (R L)).den * 2 }
unfolding partial_mark
mark_half L =
    let half : ratio_of (1 over 2) ≡ record { num = 1; den = 2 } = ratio_over 1 (lit< tt) in
    ratio_product (R L) (1 over 2) (required_plain L) (over_plain 1 2) ∙ rw half (same_ratio (omega arith) refl)

pub half_plain : (L : ℕ) → (partial_mark L).down ≡ 0
unfolding partial_mark
half_plain L = product_plain (R L) (1 over 2) (required_plain L) (over_plain 1 2)

module _ (r : Fraction) (plain : r.down ≡ 0) where
  pub mark_nine_tenths : ratio_of (passenger_mark r) ≡ record { num = (ratio_of r).num * 9; den = (ratio_of r).den * 10 }
  unfolding passenger_mark
  mark_nine_tenths =
      let tenths : ratio_of (9 over 10) ≡ record { num = 9; den = 10 } = ratio_over 9 (lit< tt) in
      ratio_product (9 over 10) r (over_plain 9 10) plain ∙ rw tenths (same_ratio (omega arith) (omega arith))

  pub nine_tenths_plain : (passenger_mark r).down ≡ 0
  unfolding passenger_mark
  nine_tenths_plain = product_plain (9 over 10) r (over_plain 9 10) plain

-- ---- an end of a whole or more reaches every mark
pub whole_reaches : {end : ℕ} {mark : Ratio} → Proper (10 ^ 9) mark → 10 ^ 9 ≤ end → reaches end mark ≡ true
unfolding reaches
whole_reaches {end} {mark} p h =
    le-leb (10 ^ 9 * mark.num) (end * mark.den) (le_trans (mul-le-mul_left (10 ^ 9) p.at_most_one) (mul-le-mul_right mark.den h))

pub below_whole_fits : {end : ℕ} {mark : Ratio} → Proper (10 ^ 9) mark → end < 10 ^ 9 → end * mark.den < 2 ^ 64
below_whole_fits {end} {mark} p h = omega (arith, mul-le-mul_right mark.den h, p.narrow)

-- ---- A's end and those of the three partial indices reach their marks
four_hold : (a b c d : Bool) → (a && b && c && d) ≡ true → (a ≡ true) × (b ≡ true) × (c ≡ true) × (d ≡ true)
four_hold a b c d t = let r = both (a && b && c) d t in let q = both (a && b) c r.0 in let p = both a b q.0 in (p.0, p.1, q.1, r.1)

each_reaches : (mark : Ratio) (a b c : ℕ) → reaches a mark ≡ true → reaches b mark ≡ true → reaches c mark ≡ true → All (λ e. IsTrue (reaches e mark)) (a ∷ b ∷ c ∷ [])
each_reaches mark a b c p q r zero d l = p
each_reaches mark a b c p q r (suc zero) d l = q
each_reaches mark a b c p q r (suc (suc zero)) d l = r
each_reaches mark a b c p q r (suc (suc (suc k))) d l = absurd (omega arith)

pub all_reached : {reached : Bool} (end : Ends → ℕ) (index : Ends) (partials : List Ends) (required mark : Ratio) {ends : List ℕ} →
    ends ≡ end (at partials 0) ∷ end (at partials 1) ∷ end (at partials 2) ∷ [] →
    (IsTrue reached ↔ (IsTrue (reaches (end index) required) × All (λ e. IsTrue (reaches e mark)) ends)) → reached ≡ all_reach end index partials required mark
unfolding all_reach
all_reached {reached} end index partials required mark {ends} e h =
    same_test reached (all_reach end index partials required mark)
    (λ t. let (a, each) = rw e at (h.0 t) in rw (a, each 0 0 (lit< tt), each 1 0 (lit< tt), each 2 0 (lit< tt)) refl)
    (λ t. let (a, p, q, r) = four_hold _ _ _ _ t in h.1 (a, rw e (each_reaches mark _ _ _ p q r)))
