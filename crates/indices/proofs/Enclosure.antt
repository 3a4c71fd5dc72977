-- The ends enclose: what a row adds, the partial indices and A, for every list of survivals. Assumes nothing.
use Prim.Native.Nat.{ℕ, ◌+◌, ◌*◌, ◌/◌, ◌^◌, ◌≤◌, ◌<◌}
use mathlib.Core.List.{[], ◌∷◌}
use mathlib.Core.Path.{refl}
use native.Mathlib.Nat.{mul-pos, le_of_mul-le-mul_right, mul-le-mul_right, div-mul-le_self}
use native.Mathlib.Omega.{arith}
use lib.Dec.{lit<}
use Rattle.laws.specs.Fraction.{Fraction, den, whole, Is, ◌≈◌, ◌≼◌, ◌⊹◌, ◌⊛◌}
use Rattle.laws.specs.Rounding.{ceil}
use Rattle.laws.proofs.Fraction.{positive, is_over, is_self, is_nothing, is_⊹, is_⊛, same, ≼_of_≈, ≼_trans, ≈_sym, ⊹-≼, is_written, below_across}
use Rattle.laws.proofs.Rounding.{ceil_lower}
use Rattle.laws.proofs.FractionCompare.{across_below, is_times, ⊛_rises, times_rises}
use Rattle.numbers.specs.Figures.{billionths}
use Rattle.solas.specs.Index.{attained}
use Rattle.numbers.specs.Ratio.{ratio_of}
use Rattle.survival.specs.Survival.{ends, ten_thousandths}
use Rattle.indices.specs.Index.{scale, adds_of, attained_of}
use Rattle.indices.specs.Exact.{RowAt, Sound, weight, row_ends, partial_ends}
use Rattle.indices.specs.Promises.{NoMoreThanUpper, NoLessThanLower, AttainedNoMore, AttainedNoLess}
use Rattle.numbers.proofs.Ratios.{ratio_positive, is_ratio}
use Rattle.survival.proofs.Bounds.{not_above_top, not_below_bottom}
-- checked first, so that a definition that gives another number is refused there
use Rattle.indices.proofs.Values.{one_file}

-- ---- over numbers: a share (a - b)/d, a v, a survival n/e
upper_crossed : (a b d hi v n e top u : ℕ) → a * 10 ^ 9 ≤ hi * d + b * 10 ^ 9 → n * 10 ^ 4 ≤ top * e → hi * v * top ≤ u * scale →
    a * v * n * 10 ^ 9 ≤ u * (d * 916500 * e) + b * v * n * 10 ^ 9
upper_crossed a b d hi v n e top u h k m =
    le_of_mul-le-mul_right {m = a * v * n * 10 ^ 9} {n = u * (d * 916500 * e) + b * v * n * 10 ^ 9} {k = 10 ^ 4}
    (omega (arith, mul-le-mul_right (v * n) h, mul-le-mul_right (hi * d * v) k, mul-le-mul_right (d * e) m)) (lit< tt)

lower_crossed : (a b d lo v n e bottom l : ℕ) → lo * d + b * 10 ^ 9 ≤ a * 10 ^ 9 → bottom * e ≤ n * 10 ^ 4 → l * scale ≤ lo * v * bottom →
    l * (d * 916500 * e) + b * v * n * 10 ^ 9 ≤ a * v * n * 10 ^ 9
lower_crossed a b d lo v n e bottom l h k m =
    le_of_mul-le-mul_right {m = l * (d * 916500 * e) + b * v * n * 10 ^ 9} {n = a * v * n * 10 ^ 9} {k = 10 ^ 4}
    (omega (arith, mul-le-mul_right (v * n) h, mul-le-mul_right (lo * d * v) k, mul-le-mul_right (d * e) m)) (lit< tt)

-- ---- one row
module _ (r : RowAt) {x : Fraction} (h : Sound r) (p : whole 0 ≼ x) where
  is_weighted : Is (weight r ⊛ x) (r.share.up * r.v * (ratio_of x).num) (r.share.down * r.v * (ratio_of x).num) (den r.share * 916500 * (ratio_of x).den)
  is_weighted =
      is_written (is_⊛ (is_⊛ (is_self r.share) (is_over r.v {d = 916500} (lit< tt))) (is_ratio p)) (omega arith) (omega arith) refl

  weighted_positive : 0 < den r.share * 916500 * (ratio_of x).den
  weighted_positive = mul-pos (mul-pos (positive r.share) (lit< tt)) (ratio_positive x)

  pub row_upper : x ≼ ten_thousandths (ends r.factor).top → weight r ⊛ x ≼ billionths (row_ends r).upper
  unfolding adds_of
  row_upper k =
      let hi = r.share_ends.upper in
      let top = (ends r.factor).top in
      let share = across_below (is_self r.share) (is_over hi {d = 10 ^ 9} (lit< tt)) h.share.high in
      let survival = across_below (is_ratio p) (is_over top {d = 10 ^ 4} (lit< tt)) k in
      let u = ceil (hi * r.v * top) scale in
      below_across is_weighted (is_over u {d = 10 ^ 9} (lit< tt)) weighted_positive (lit< tt)
      (omega (
        arith,
        upper_crossed r.share.up r.share.down (den r.share) hi r.v (ratio_of x).num (ratio_of x).den top u
            (omega arith) (omega arith) (ceil_lower (hi * r.v * top) scale (lit< tt)),
      ))

  pub row_lower : ten_thousandths (ends r.factor).bottom ≼ x → billionths (row_ends r).lower ≼ weight r ⊛ x
  unfolding adds_of
  row_lower k =
      let lo = r.share_ends.lower in
      let bottom = (ends r.factor).bottom in
      let share = across_below (is_over lo {d = 10 ^ 9} (lit< tt)) (is_self r.share) h.share.low in
      let survival = across_below (is_over bottom {d = 10 ^ 4} (lit< tt)) (is_ratio p) k in
      let l = lo * r.v * bottom / scale in
      below_across (is_over l {d = 10 ^ 9} (lit< tt)) is_weighted (lit< tt) weighted_positive
      (omega (
        arith,
        lower_crossed r.share.up r.share.down (den r.share) lo r.v (ratio_of x).num (ratio_of x).den bottom l
            (omega arith) (omega arith) (div-mul-le_self (lo * r.v * bottom) scale),
      ))

-- ---- all rows
billionths_sum : (m n : ℕ) → billionths m ⊹ billionths n ≈ billionths (m + n)
billionths_sum m n = let p : 0 < 10 ^ 9 = lit< tt in same p (is_⊹ (is_over m p) (is_over n p)) (is_over (m + n) p)

pub billionths_none : whole 0 ≈ billionths 0
billionths_none = let p : 0 < 10 ^ 9 = lit< tt in same p (is_nothing p) (is_over 0 p)

pub no_more_than_upper : NoMoreThanUpper
no_more_than_upper (r ∷ rs) h [] k = elim k [ ]
no_more_than_upper [] h (x ∷ xs) k = elim k [ ]
no_more_than_upper [] h [] k = ≼_of_≈ billionths_none
no_more_than_upper (r ∷ rs) h (x ∷ xs) k =
    let row = row_upper r h.0 k.0.0 (not_above_top r.factor h.0.factor k.0.0 k.0.1) in
    ≼_trans (⊹-≼ row (no_more_than_upper rs h.1 xs k.1)) (≼_of_≈ (billionths_sum (row_ends r).upper (partial_ends rs).upper))

pub no_less_than_lower : NoLessThanLower
no_less_than_lower (r ∷ rs) h [] k = elim k [ ]
no_less_than_lower [] h (x ∷ xs) k = elim k [ ]
no_less_than_lower [] h [] k = ≼_of_≈ (≈_sym billionths_none)
no_less_than_lower (r ∷ rs) h (x ∷ xs) k =
    let row = row_lower r h.0 k.0.0 (not_below_bottom r.factor h.0.factor k.0.0 k.0.1) in
    ≼_trans (≼_of_≈ (≈_sym (billionths_sum (row_ends r).lower (partial_ends rs).lower))) (⊹-≼ row (no_less_than_lower rs h.1 xs k.1))

-- ---- A
pub attained_rises : {s p l s' p' l' : Fraction} → s ≼ s' → p ≼ p' → l ≼ l' → attained s p l ≼ attained s' p' l'
unfolding attained
attained_rises h k m = ⊛_rises 1 (lit< tt) (⊹-≼ (⊹-≼ (times_rises 2 h) (times_rises 2 k)) m)

module _ (s p l : ℕ) where
  is_attained : Is (attained (billionths s) (billionths p) (billionths l)) (2 * s + 2 * p + l) 0 (10 ^ 9 * 5)
  unfolding attained
  is_attained =
      let d : 0 < 10 ^ 9 = lit< tt in
      let sum = is_⊹ (is_⊹ (is_times 2 (is_over s d)) (is_times 2 (is_over p d))) (is_over l d) in
      is_written (is_⊛ sum (is_over 1 {d = 5} (lit< tt))) (omega arith) (omega arith) refl

  pub attained_upper : attained (billionths s) (billionths p) (billionths l) ≼ billionths (ceil (2 * s + 2 * p + l) 5)
  attained_upper = below_across is_attained (is_over (ceil (2 * s + 2 * p + l) 5) {d = 10 ^ 9} (lit< tt)) (lit< tt) (lit< tt) (omega (arith, ceil_lower (2 * s + 2 * p + l) 5 (lit< tt)))

  pub attained_lower : billionths ((2 * s + 2 * p + l) / 5) ≼ attained (billionths s) (billionths p) (billionths l)
  attained_lower = below_across (is_over ((2 * s + 2 * p + l) / 5) {d = 10 ^ 9} (lit< tt)) is_attained (lit< tt) (lit< tt) (omega (arith, div-mul-le_self (2 * s + 2 * p + l) 5))

pub attained_no_more : AttainedNoMore
unfolding attained_of
attained_no_more rs h xs k =
    ≼_trans (attained_rises (no_more_than_upper rs.deepest h.0 xs.deepest k.0) (no_more_than_upper rs.partial h.1 xs.partial k.1) (no_more_than_upper rs.light h.2 xs.light k.2))
    (attained_upper (partial_ends rs.deepest).upper (partial_ends rs.partial).upper (partial_ends rs.light).upper)

pub attained_no_less : AttainedNoLess
unfolding attained_of
attained_no_less rs h xs k =
    ≼_trans (attained_lower (partial_ends rs.deepest).lower (partial_ends rs.partial).lower (partial_ends rs.light).lower)
    (attained_rises (no_less_than_lower rs.deepest h.0 xs.deepest k.0) (no_less_than_lower rs.partial h.1 xs.partial k.1) (no_less_than_lower rs.light h.2 xs.light k.2))
