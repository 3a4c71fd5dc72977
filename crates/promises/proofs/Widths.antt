-- The ends of a case's partial indices and of A are in order and close: their rows' lower ends come to at most one, since the chances do. Assumes nothing.
use Prim.Native.Nat.{ℕ, ◌+◌, ◌*◌, ◌/◌, ◌^◌, ◌≤◌, ◌<◌}
use mathlib.Core.List.{List, [], ◌∷◌}
use native.Mathlib.Nat.{le_of_mul-le-mul_right, div-mul-le_self, mul-le-mul, mul-le-mul_right}
use native.Mathlib.Omega.{arith}
use lib.Dec.{lit<}
use Rattle.laws.specs.Lists.{Every}
use Rattle.laws.specs.Fraction.{Fraction, ◌over◌, whole, ◌≈◌, ◌≼◌, ◌⊛◌, total}
use Rattle.laws.specs.Rounding.{ceil}
use Rattle.laws.specs.Sums.{sum_of}
use Rattle.laws.proofs.Fraction.{is_over, is_nothing, is_one, is_⊹, is_⊛, is_shifted, same, numerators_below, ≼_of_≈, ≼_trans, ⊹-≼}
use Rattle.laws.proofs.Rounding.{ceil_lower}
use Rattle.laws.proofs.FractionCompare.{⊛_rises}
use Rattle.numbers.specs.Figures.{billionths, Between}
use Rattle.records.specs.declared.Ends.{Ends}
use Rattle.survival.specs.Survival.{ends}
use Rattle.indices.specs.Index.{scale, adds_of, attained_of, weighed}
use Rattle.indices.specs.Exact.{RowAt, Sound, weight, row_ends, partial_ends, Thrice, AtAll, partials_of}
use Rattle.indices.specs.Promises.{AtMostOne}
use Rattle.survival.proofs.Bounds.{ends_ordered}
use Rattle.promises.specs.Rows.{chances}

-- ---- in order

ends_hold : {e : Ends} {f : Fraction} → Between e f → e.lower ≤ e.upper
ends_hold {e} h =
    let p : 0 < 10 ^ 9 = lit< tt in
    omega (arith, numerators_below (≼_trans h.low h.high) (is_over e.lower p) (is_over e.upper p))

row_ordered : (r : RowAt) → Sound r → (row_ends r).lower ≤ (row_ends r).upper
unfolding adds_of
row_ordered r h =
    let e = r.share_ends in
    let s = ends r.factor in
    let products = mul-le-mul (mul-le-mul_right r.v (ends_hold h.share)) (ends_ordered r.factor h.factor) in
    le_of_mul-le-mul_right {m = e.lower * r.v * s.bottom / scale} {n = ceil (e.upper * r.v * s.top) scale} {k = scale}
    (omega (arith, products, div-mul-le_self (e.lower * r.v * s.bottom) scale, ceil_lower (e.upper * r.v * s.top) scale (lit< tt))) (lit< tt)

pub rows_ordered : (rs : List RowAt) → Every Sound rs → (partial_ends rs).lower ≤ (partial_ends rs).upper
rows_ordered [] h = omega arith
rows_ordered (r ∷ rs) h = omega (arith, row_ordered r h.0, rows_ordered rs h.1)

pub attained_ordered : (rs : Thrice (List RowAt)) → AtAll (Every Sound) rs → (attained_of (partials_of rs)).lower ≤ (attained_of (partials_of rs)).upper
unfolding attained_of
attained_ordered rs h =
    let low = weighed (λ e. e.lower) (partials_of rs) in
    let high = weighed (λ e. e.upper) (partials_of rs) in
    omega (arith, div-mul-le_self low 5, ceil_lower high 5 (lit< tt), rows_ordered rs.deepest h.0, rows_ordered rs.partial h.1, rows_ordered rs.light h.2)

-- ---- the lower ends come to at most one

abbrev fine : ℕ
fine = 10 ^ 9 * 916500

lower_weight : (r : RowAt) → Sound r → ((r.share_ends.lower * r.v) over fine) ≼ weight r
lower_weight r h =
    let lo = r.share_ends.lower in
    let same_weight : ((lo * r.v) over fine) ≈ billionths lo ⊛ (r.v over 916500) =
    same (lit< tt) (is_over (lo * r.v) {d = fine} (lit< tt)) (is_shifted (lo * r.v) 0 (omega arith) (is_⊛ (is_over lo {d = 10 ^ 9} (lit< tt)) (is_over r.v {d = 916500} (lit< tt)))) in
    ≼_trans (≼_of_≈ same_weight) (⊛_rises r.v (lit< tt) h.share.low)

lower_chances : (rs : List RowAt) → Every Sound rs → (sum_of (λ r. r.share_ends.lower * r.v) rs over fine) ≼ chances rs
unfolding chances total
lower_chances [] h = ≼_of_≈ (same (lit< tt) (is_over 0 {d = fine} (lit< tt)) (is_nothing (lit< tt)))
lower_chances (r ∷ rs) h =
    let own = r.share_ends.lower * r.v in
    let rest = sum_of (λ r. r.share_ends.lower * r.v) rs in
    ≼_trans (≼_of_≈ (same (lit< tt) (is_over (own + rest) {d = fine} (lit< tt)) (is_⊹ (is_over own {d = fine} (lit< tt)) (is_over rest {d = fine} (lit< tt)))))
    (⊹-≼ (lower_weight r h.0) (lower_chances rs h.1))

pub lower_at_most_one : (rs : List RowAt) → Every Sound rs → chances rs ≼ whole 1 → AtMostOne rs
lower_at_most_one rs h k =
    let n = sum_of (λ r. r.share_ends.lower * r.v) rs in
    omega (arith, numerators_below (≼_trans (lower_chances rs h) k) (is_over n {d = fine} (lit< tt)) (is_one {d = fine} (lit< tt)))
