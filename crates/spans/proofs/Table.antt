-- The span table: where a span stands in it, and that it is read there. Assumes nothing.
use mathlib.Core.Path.{◌≡◌, refl, ap, ◌∙◌}
use mathlib.Core.List.{List}
use mathlib.Core.Logic.{⊎_elim}
use Prim.Native.Nat.{ℕ, zero, suc, ◌+◌, ◌-◌, ◌*◌, ◌≤◌, ◌<◌}
use native.Mathlib.Nat.{add-zero, mul-le-mul, eq-or-lt_of_le}
use native.Mathlib.Omega.{arith}
use lib.ListN.{length, get_or, replicate, length-append, length-replicate, get_or-append}
use lib.Seq.{get_or-append-add}
use Rattle.records.specs.declared.Hull.{Hull}
use Rattle.spans.specs.Span.{span_ends}
use Rattle.spans.specs.Hull.{ship_of, Hulled}
use Rattle.spans.specs.Table.{span_at, numbers_of, joined, ending_with, spans_of, table_of, place_of, span_in}

-- ---- lists in turn

module _ (g : ℕ → List ℕ) where
  -- each one lies within those that are joined
  joined_within : (n j : ℕ) → j < n → length (joined g j) + length (g j) ≤ length (joined g n)
  unfolding joined
  joined_within zero j l = absurd (omega arith)
  joined_within (suc n) j l =
      rw length-append
      (⊎_elim
      (λ (e : suc j ≡ suc n). let f : j ≡ n = omega arith in rw f (omega arith))
      (λ (m : suc j < suc n). omega (arith, joined_within n j (omega arith)))
      (eq-or-lt_of_le l))

  joined_at : (n j k : ℕ) → j < n → k < length (g j) → get_or (joined g n) (length (joined g j) + k) 0 ≡ get_or (g j) k 0
  unfolding joined
  joined_at zero j k l h = absurd (omega arith)
  joined_at (suc n) j k l h =
      ⊎_elim
      (λ (e : suc j ≡ suc n). let f : j ≡ n = omega arith in rw f (get_or-append-add (joined g n) (g n) k 0))
      (λ (m : suc j < suc n).
      get_or-append (joined g n) (g n) 0 (length (joined g j) + k) (omega (arith, joined_within n j (omega arith)))
      ∙ joined_at n j k (omega arith) h)
      (eq-or-lt_of_le l)

-- ---- where a span stands

-- the numbers of the spans that end before zone e
pub place_few : {e : ℕ} → e ≤ 20 → 2 * (e - 1) * e ≤ 760
place_few {e} l = let m : e - 1 ≤ 19 = omega arith in omega (arith, mul-le-mul m l)

module _ (h : Hull) where
  length_ending : (j n : ℕ) → length (ending_with h j n) ≡ 4 * n
  unfolding ending_with joined
  length_ending j zero = refl
  length_ending j (suc n) = rw length-append (omega (arith, length_ending j n))

  pub length_spans : (n : ℕ) → length (spans_of h n) ≡ 2 * n * (n + 1)
  unfolding spans_of joined
  length_spans zero = refl
  length_spans (suc n) = rw length-append (omega (arith, length_spans n, length_ending n (n + 1)))

  -- the span from zone i to zone j, among those of n zones
  module _ (n i j : ℕ) (order : i ≤ j) (last : j < n) where
    pub span_inside : 2 * j * (j + 1) + 4 * i + 4 ≤ length (spans_of h n)
    unfolding spans_of
    span_inside = omega (arith, joined_within (λ j. ending_with h j (j + 1)) n j last, length_spans j, length_ending j (j + 1))

    span_number : (k : ℕ) → k < 4 → get_or (spans_of h n) (2 * j * (j + 1) + 4 * i + k) 0 ≡ get_or (numbers_of (span_at h i j)) k 0
    unfolding spans_of ending_with
    span_number k l =
        let p : 2 * j * (j + 1) + 4 * i + k ≡ length (spans_of h j) + (length (ending_with h j i) + k) = omega (arith, length_spans j, length_ending j i) in
        ap (λ z. get_or (spans_of h n) z 0) p
        ∙ joined_at (λ j. ending_with h j (j + 1)) n j (length (ending_with h j i) + k) last (omega (arith, length_ending j i, length_ending j (j + 1)))
        ∙ joined_at (λ i. numbers_of (span_at h i j)) (j + 1) i k (omega arith) l

-- ---- the table of a hull

module _ (h : Hull) (s : Hulled h) where
  pub spans_few : length (spans_of h h.zones) ≤ 840
  spans_few = omega (arith, length_spans h h.zones, mul-le-mul s.few s.few, s.few)

  pub table_long : length (table_of h) ≡ 840
  unfolding table_of
  table_long = rw (length-append, length-replicate) (omega (arith, spans_few))

  -- the zones from a to e
  module _ (a e : ℕ) (from : 1 ≤ a) (order : a ≤ e) (to : e ≤ h.zones) where
    number_read : (k : ℕ) → k < 4 → get_or (table_of h) (place_of a e + k) 0 ≡ get_or (numbers_of (span_at h (a - 1) (e - 1))) k 0
    unfolding table_of
    number_read k l =
        let f : e - 1 + 1 ≡ e = omega arith in
        let n = h.zones in
        let p : place_of a e + k ≡ 2 * (e - 1) * e + 4 * (a - 1) + k = omega arith in
        rw p
        (get_or-append (spans_of h n) (replicate (840 - length (spans_of h n)) 0) 0 (2 * (e - 1) * e + 4 * (a - 1) + k)
        (omega (arith, rw f at (span_inside h n (a - 1) (e - 1) (omega arith) (omega arith))))
        ∙ (rw f at (span_number h n (a - 1) (e - 1) (omega arith) (omega arith) k l)))

    pub span_read : span_in (table_of h) a e ≡ span_ends h.length ((ship_of h).aft a) ((ship_of h).fwd e)
    unfolding span_in span_at
    span_read =
        let f : e - 1 + 1 ≡ e = omega arith in
        let first : get_or (table_of h) (place_of a e) 0 ≡ (span_at h (a - 1) (e - 1)).inner.lower = rw (add-zero (place_of a e)) at (number_read 0 (omega arith)) in
        rw (first, number_read 1 (omega arith), number_read 2 (omega arith), number_read 3 (omega arith), f)
