-- What each row of a case comes to: its share's ends, what it adds at the three draughts, and what its line is printed from. Assumes nothing.
use Rattle.std.specs.Prelude.{ℕ, List, [], ◌∷◌}
use Rattle.records.specs.declared.Hull.{Hull}
use Rattle.records.specs.declared.Ends.{Ends}
use Rattle.records.specs.Results.{Results}
use Rattle.solas.specs.Index.{draughts}
use Rattle.spans.specs.Hull.{ship_of}
use Rattle.chances.specs.declared.Sums.{Sums}
use Rattle.chances.specs.Share.{sums_of, row_ends}
use Rattle.heights.specs.Height.{row_vs}
use Rattle.survival.specs.Survival.{survivals_of}
use Rattle.indices.specs.Index.{row_adds}
use Rattle.printing.specs.Printed.{RowLine}
use Rattle.casefile.specs.Record.{Row}
use Rattle.rows.specs.declared.Standing.{Standing}
use Rattle.rows.specs.declared.Part.{Part}
use Rattle.rows.specs.Standing.{stands}

-- the share of the layer in which a row stands
unfoldable pub share_at : Hull → Standing → Ends
share_at h y = row_ends (ship_of h) y.head.first y.head.count y.before y.head.depth

-- what the row's group comes to, down to that layer
unfoldable pub sums_at : Hull → Standing → Sums
sums_at h y = sums_of (ship_of h) y.head.depth y.head.first y.head.count

abbrev pub part_at : Hull → Standing → Part
part_at h y = record { group = sums_at h y; share = share_at h y }

-- what the row there adds, with its results
unfoldable pub adds_at : Hull → Standing → Results → List Ends
adds_at h y rs = row_adds (share_at h y) (row_vs y.below y.head.height (draughts h.deepest h.light)) (survivals_of y.head.kind rs)

-- what its line is printed from
abbrev pub line_at : Hull → Standing → Results → RowLine
line_at h y rs = record { share = share_at h y; survivals = survivals_of y.head.kind rs }

-- the rows in turn, after one that stood at y
unfoldable pub shares_from : Hull → Standing → List Row → List Ends
shares_from h y [] = []
shares_from h y (r ∷ rs) = let z = stands y r.head in share_at h z ∷ shares_from h z rs

unfoldable pub adds_from : Hull → Standing → List Row → List (List Ends)
adds_from h y [] = []
adds_from h y (r ∷ rs) = let z = stands y r.head in adds_at h z r.results ∷ adds_from h z rs

unfoldable pub lines_from : Hull → Standing → List Row → List RowLine
lines_from h y [] = []
lines_from h y (r ∷ rs) = let z = stands y r.head in line_at h z r.results ∷ lines_from h z rs

-- "each row's share, lower then upper, in row order"
abbrev pub numbers : List Ends → List ℕ
numbers [] = []
numbers (e ∷ es) = e.lower ∷ e.upper ∷ numbers es
