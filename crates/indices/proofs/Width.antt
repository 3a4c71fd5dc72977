-- How wide the ends are: of what a row adds, of a partial index and of A. Assumes nothing.
use Prim.Native.Nat.{ℕ, zero, suc, ◌+◌, ◌*◌, ◌^◌, ◌≤◌}
use mathlib.Core.List.{List, [], ◌∷◌}
use native.Mathlib.Nat.{le_trans, div-mul-le_self, le_of_mul-le-mul_right, mul-le-mul, mul-le-mul_left, mul-le-mul_right}
use native.Mathlib.Omega.{arith}
use lib.Dec.{lit<}
use lib.ListN.{length}
use Rattle.laws.specs.Lists.{Every}
use Rattle.laws.specs.Sums.{sum_of}
use Rattle.laws.proofs.Rounding.{floor_upper, ceil_upper, ends_apart}
use Rattle.records.specs.declared.Ends.{Ends}
use Rattle.records.specs.Ends.{at}
use Rattle.survival.specs.Survival.{ends}
use Rattle.indices.specs.Index.{scale, adds_of, attained_of}
use Rattle.indices.specs.Exact.{RowAt, Close, row_ends, partial_ends, partials_of}
use Rattle.indices.specs.Promises.{AtMostOne, PartialWidth, PartialAtMost, AttainedWidth}
use Rattle.survival.proofs.Bounds.{ends_near, ends_ordered, ends_at_most}

-- ---- what a row adds: the two roundings come to less than two
pub adds_width : (share : Ends) (v bottom top : ℕ) →
    (adds_of share v bottom top).upper * scale + share.lower * v * bottom + 2 ≤ (adds_of share v bottom top).lower * scale + share.upper * v * top + 2 * scale
unfolding adds_of
adds_width share v bottom top =
    omega (arith, ceil_upper (share.upper * v * top) scale (lit< tt), floor_upper (share.lower * v * bottom) scale (lit< tt))

-- ends of a share that are w apart weigh w, and a survival that is rounded weighs the share once
products_apart : (lo hi w v bottom top : ℕ) → hi ≤ lo + w → v ≤ 916500 → top ≤ bottom + 1 → top ≤ 10 ^ 4 → hi * v * top ≤ lo * v * bottom + lo * v + w * scale
products_apart lo hi w v bottom top h k m t =
    omega (arith, mul-le-mul_right (v * top) h, mul-le-mul_left (lo * v) m, mul-le-mul_left w (mul-le-mul k t))

pub row_width : (w : ℕ) (r : RowAt) → Close w r → (row_ends r).upper * scale + 2 ≤ (row_ends r).lower * scale + r.share_ends.lower * r.v + (w + 2) * scale
row_width w r h =
    let share = r.share_ends in
    let s = ends r.factor in
    omega (
      arith,
      adds_width share r.v s.bottom s.top,
      products_apart share.lower share.upper w r.v s.bottom s.top h.near h.height (ends_near r.factor h.factor) (ends_at_most r.factor h.factor),
    )

-- ---- a partial index
rows_width : (w : ℕ) (rs : List RowAt) → Every (Close w) rs →
    (partial_ends rs).upper * scale ≤ (partial_ends rs).lower * scale + sum_of (λ r. r.share_ends.lower * r.v) rs + (w + 2) * length rs * scale
rows_width w [] h = omega arith
rows_width w (r ∷ rs) h = omega (arith, row_width w r h.0, rows_width w rs h.1)

pub partial_width : PartialWidth
partial_width w rs h k =
    le_of_mul-le-mul_right {m = (partial_ends rs).upper} {n = (partial_ends rs).lower + (100000 + (w + 2) * length rs)} {k = scale}
    (omega (arith, rows_width w rs h)) (lit< tt)

-- the lower end is at most one: what the row's share and v come to
rows_lower : (w : ℕ) (rs : List RowAt) → Every (Close w) rs → (partial_ends rs).lower * scale ≤ 10 ^ 4 * sum_of (λ r. r.share_ends.lower * r.v) rs
unfolding adds_of
rows_lower w [] h = omega arith
rows_lower w (r ∷ rs) h =
    let s = ends r.factor in
    let p = h.0.factor in
    let bottom : s.bottom ≤ 10 ^ 4 = le_trans (ends_ordered r.factor p) (ends_at_most r.factor p) in
    omega (arith, rows_lower w rs h.1, div-mul-le_self (r.share_ends.lower * r.v * s.bottom) scale, mul-le-mul_left (r.share_ends.lower * r.v) bottom)

pub partial_at_most : PartialAtMost
partial_at_most w rs h k =
    let low : (partial_ends rs).lower ≤ 10 ^ 9 = le_of_mul-le-mul_right {k = scale} (omega (arith, rows_lower w rs h)) (lit< tt) in
    (low, omega (arith, partial_width w rs h k))

-- ---- A: at most one further apart than the partial indices are
pub weighed_width : (k : ℕ) (t : List Ends) → ((i : ℕ) → (at t i).upper ≤ (at t i).lower + k) → (attained_of t).upper ≤ (attained_of t).lower + (k + 1)
unfolding attained_of
weighed_width k t h = ends_apart _ _ k 5 (lit< tt) (omega (arith, h 0, h 1, h 2))

pub attained_width : AttainedWidth
attained_width w n rs h k m =
    let wide = weighed_width (100000 + (w + 2) * n) (partials_of rs) each in omega arith
  where
    one : (r : List RowAt) → Every (Close w) r → AtMostOne r → length r ≤ n → (partial_ends r).upper ≤ (partial_ends r).lower + (100000 + (w + 2) * n)
    one r p q l = omega (arith, partial_width w r p q, mul-le-mul_left (w + 2) l)

    each : (i : ℕ) → (at (partials_of rs) i).upper ≤ (at (partials_of rs) i).lower + (100000 + (w + 2) * n)
    each zero = one rs.deepest h.0 k.0 m.0
    each (suc zero) = one rs.partial h.1 k.1 m.1
    each (suc (suc zero)) = one rs.light h.2 k.2 m.2
    each (suc (suc (suc i))) = omega arith
