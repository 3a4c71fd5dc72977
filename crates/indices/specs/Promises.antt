-- What is promised of the ends, for rows of whatever kind: document 01, "What a reader may rely on". Assumes nothing.
use Rattle.std.specs.Prelude.{ℕ, ◌+◌, ◌*◌, ◌^◌, ◌≤◌, ◌≡◌, List, map, length}
use Rattle.laws.specs.Lists.{Every}
use Rattle.laws.specs.Fraction.{Fraction, ◌≼◌}
use Rattle.laws.specs.Sums.{sum_of}
use Rattle.numbers.specs.Figures.{billionths}
use Rattle.indices.specs.Index.{partials, attained_of}
use Rattle.indices.specs.Exact.{RowAt, Sound, Close, NoneAbove, NoneBelow, weighted_sum, partial_ends, Thrice, AtAll, AtEach, partials_of, exact_A, Row, rows_at, row_trio}

-- ---- the ends enclose: "where no fourth power is above its row's s⁴, the fractions weighted by exact share and v sum to no more than the upper end"
abbrev pub NoMoreThanUpper : Type 0
NoMoreThanUpper = (rs : List RowAt) → Every Sound rs → (xs : List Fraction) → NoneAbove rs xs → weighted_sum rs xs ≼ billionths (partial_ends rs).upper

-- "where none is below, to no less than the lower"
abbrev pub NoLessThanLower : Type 0
NoLessThanLower = (rs : List RowAt) → Every Sound rs → (xs : List Fraction) → NoneBelow rs xs → billionths (partial_ends rs).lower ≼ weighted_sum rs xs

abbrev pub AttainedNoMore : Type 0
AttainedNoMore = (rs : Thrice (List RowAt)) → AtAll (Every Sound) rs → (xs : Thrice (List Fraction)) → AtEach NoneAbove rs xs → exact_A rs xs ≼ billionths (attained_of (partials_of rs)).upper

abbrev pub AttainedNoLess : Type 0
AttainedNoLess = (rs : Thrice (List RowAt)) → AtAll (Every Sound) rs → (xs : Thrice (List Fraction)) → AtEach NoneBelow rs xs → billionths (attained_of (partials_of rs)).lower ≼ exact_A rs xs

-- what the code sums row by row is what is said here draught by draught
abbrev pub SumsAreThese : Type 0
SumsAreThese = (rs : List Row) → partials (map row_trio rs) ≡ partials_of (rows_at rs)

-- ---- the ends are close, where those of each share are at most w apart and the lower ones, weighted by v, come to at most one
abbrev pub AtMostOne : List RowAt → Type 0
AtMostOne rs = sum_of (λ r. r.share_ends.lower * r.v) rs ≤ 10 ^ 9 * 916500

abbrev pub PartialWidth : Type 0
PartialWidth = (w : ℕ) (rs : List RowAt) → Every (Close w) rs → AtMostOne rs → (partial_ends rs).upper ≤ (partial_ends rs).lower + (100000 + (w + 2) * length rs)

-- so no end is much above one: four bytes hold it
abbrev pub PartialAtMost : Type 0
PartialAtMost = (w : ℕ) (rs : List RowAt) → Every (Close w) rs → AtMostOne rs → ((partial_ends rs).lower ≤ 10 ^ 9) × ((partial_ends rs).upper ≤ 10 ^ 9 + (100000 + (w + 2) * length rs))

-- A's are at most one further apart
abbrev pub AttainedWidth : Type 0
AttainedWidth = (w n : ℕ) (rs : Thrice (List RowAt)) → AtAll (Every (Close w)) rs → AtAll AtMostOne rs → AtAll (λ r. length r ≤ n) rs →
    (attained_of (partials_of rs)).upper ≤ (attained_of (partials_of rs)).lower + (100001 + (w + 2) * n)
