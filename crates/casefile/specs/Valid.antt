-- Document 01, "The case file", with document 02's openings, second sets and passenger ships: which cases keep its limits and its order, said of records alone. Assumes nothing.
use Rattle.std.specs.Prelude.{ℕ, ◌/◌, ◌≤◌, ◌<◌, ◌≡◌, ◌⊎◌, List, [], ◌∷◌, pos, length, get_or, T}
use Rattle.laws.specs.Lists.{Every, last, Linked}
use Rattle.records.specs.declared.Hull.{Hull}
use Rattle.records.specs.declared.Finding.{Finding}
use Rattle.records.specs.declared.RowHead.{RowHead}
use Rattle.casefile.specs.Record.{Row, Case}
use Rattle.casefile.specs.Layout.{takes, places_of, result_count, flooding_count}
use Rattle.casefile.specs.Limits.{most_rows, sizes_fit, persons_fit, zones_fit, row_fits}
use Rattle.casefile.specs.Order.{top}

-- ---- the hull

-- the 21 places are 0, the inner bulkheads, Ls at the zone count, 0 after that
abbrev pub Placed : Hull → Type 0
Placed h = h.places ≡ places_of (λ k. get_or h.places k 0) h.zones h.length

-- a cargo ship, with no persons counted and no rule to choose, or a passenger ship
pub data ShipType (h : Hull) : Type 0 where
  cargo : h.kind ≡ 1 → h.lifeboats ≡ 0 → h.excess ≡ 0 → h.rule ≡ 0 → ShipType h
  passenger : h.kind ≡ 6 → ShipType h

pub record ValidHull (h : Hull) : Type 0 where
  pub type : ShipType h
  pub sizes : T (sizes_fit h)
  pub persons : T (persons_fit h)
  pub zones : T (zones_fit h)
  pub places : Placed h

-- ---- a row

-- kinds 02, 05 and 07 have lever, range, heel and opening, kind 03 a given survival; what a kind does not have is 0
pub data Formed (kind : ℕ) (r : Finding) : Type 0 where
  found : (kind ≡ 2) ⊎ ((kind ≡ 5) ⊎ (kind ≡ 7)) → r.given ≡ 0 → Formed kind r
  given : kind ≡ 3 → r.lever ≡ 0 → r.range ≡ 0 → r.heel ≡ 0 → r.opening ≡ pos 0 → Formed kind r

-- of the ship's type, within its limits, with the results of its kind
pub record ValidRow (h : Hull) (r : Row) : Type 0 where
  pub taken : T (takes h.kind r.head.kind)
  pub limits : T (row_fits h r)
  pub findings : length r.results.findings ≡ result_count r.head.kind
  pub formed : Every (Formed r.head.kind) r.results.findings
  pub floodings : length r.results.floodings ≡ flooding_count r.head.kind

-- ---- the order

abbrev pub SameGroup : RowHead → RowHead → Type 0
SameGroup r s = (s.first ≡ r.first) × (s.count ≡ r.count)

-- groups by a, then n
abbrev pub LaterGroup : RowHead → RowHead → Type 0
LaterGroup r s = (r.first < s.first) ⊎ ((s.first ≡ r.first) × (r.count < s.count))

abbrev pub AtTop : Hull → RowHead → Type 0
AtTop h r = top h ≤ r.height

abbrev pub BelowTop : Hull → RowHead → Type 0
BelowTop h r = r.height < top h

abbrev pub ClosesGroup : Hull → RowHead → Type 0
ClosesGroup h r = (r.depth ≡ h.breadth / 2) × AtTop h r

-- how row s may follow row r: higher in its layer, which r leaves open; in the next layer, after the top of its own; in a later group, after
-- the top of the layer at B/2
pub data Follows (h : Hull) (r s : RowHead) : Type 0 where
  higher : SameGroup r s → s.depth ≡ r.depth → r.height < s.height → BelowTop h r → Follows h r s
  deeper : SameGroup r s → r.depth < s.depth → AtTop h r → Follows h r s
  later : LaterGroup r s → ClosesGroup h r → Follows h r s

-- each row may follow the one before it, and the last closes its group
abbrev pub Ordered : Hull → List Row → Type 0
Ordered h [] = Unit {0}
Ordered h (r ∷ rs) = Linked (λ (x : Row) (y : Row). Follows h x.head y.head) r rs × ClosesGroup h (last r rs).head

-- ---- the case

pub record Valid (c : Case) : Type 0 where
  pub hull : ValidHull c.hull
  pub few : length c.rows ≤ most_rows
  pub rows : Every (ValidRow c.hull) c.rows
  pub order : Ordered c.hull c.rows
