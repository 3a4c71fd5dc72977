-- The rows of a case with their exact figures: share, v and survival at each draught; the chances of the listed cases. Assumes nothing.
use Rattle.std.specs.Prelude.{ℕ, ◌/◌, ◌≡◌}
use mathlib.Core.List.{List, [], ◌∷◌, map, Memᴰ}
use Rattle.laws.specs.Fraction.{Fraction, whole, ◌≈◌, total}
use Rattle.records.specs.declared.Hull.{Hull}
use Rattle.records.specs.Results.{Results}
use Rattle.solas.specs.Share.{share, row_share}
use Rattle.solas.specs.Count.{Group}
use Rattle.solas.specs.Index.{draughts}
use Rattle.spans.specs.Hull.{ship_of}
use Rattle.heights.specs.Height.{row_vs}
use Rattle.survival.specs.Survival.{factors_of}
use Rattle.indices.specs.Exact as exact
use Rattle.indices.specs.Exact.{RowAt, weight, Thrice, rows_at}
use Rattle.casefile.specs.Record.{Row, Case}
use Rattle.rows.specs.declared.Standing.{Standing}
use Rattle.rows.specs.Standing.{nowhere, stands}
use Rattle.rows.specs.Work.{share_at}

-- ---- rows

-- a row that stands at y: its exact share and the ends of it, and at each draught its v and what its survival is exactly
abbrev pub exact_row : Hull → Standing → Results → exact.Row
exact_row h y results =
    record {
      share = row_share (ship_of h) y.head.first y.head.count y.before y.head.depth;
      share_ends = share_at h y;
      vs = row_vs y.below y.head.height (draughts h.deepest h.light);
      factors = factors_of y.head.kind results;
    }

-- the rows in turn, after one that stood at y
unfoldable pub exact_rows : Hull → Standing → List Row → List exact.Row
exact_rows h y [] = []
exact_rows h y (r ∷ rs) = let z = stands y r.head in exact_row h z r.results ∷ exact_rows h z rs

-- the rows of a case at each of the three draughts
unfoldable pub rows_of : Case → Thrice (List RowAt)
rows_of c = rows_at (exact_rows c.hull nowhere c.rows)

-- ---- chances

-- the exact chances of the listed cases at a draught, each its share times v, together
unfoldable pub chances : List RowAt → Fraction
chances rs = total (map weight rs)

-- a zone group's share, down to B/2
unfoldable pub group_share : Hull → ℕ → ℕ → Fraction
group_share h a n = share (ship_of h) a n (h.breadth / 2)

-- the group of n zones from zone a is listed: some row is of it
pub record Listed (c : Case) (a n : ℕ) : Type 0 where
  pub row : Row
  pub among : Memᴰ row c.rows
  pub first : row.head.first ≡ a
  pub count : row.head.count ≡ n

-- "every zone group of non-zero share is listed"
abbrev pub AllListed : Case → Type 0
AllListed c = (a n : ℕ) → Group (ship_of c.hull) a n → (group_share c.hull a n ≈ whole 0 → ⊥) → Listed c a n
