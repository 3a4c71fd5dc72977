-- The exact shares and survivals that the promises speak of are those of SOLAS, row by row, of every accepted file: regulation 7-1's pi, and 7-2's s with its
-- openings, the least of two where a row has a second set, and a passenger ship's. Assumes nothing.
use Rattle.std.specs.Prelude.{ℕ, ◌+◌, ◌<◌, ◌≡◌, List, [], ◌∷◌, ◌⊎◌, get_or}
use Rattle.laws.specs.Fraction.{Fraction, ◌≈◌, lesser}
use Rattle.records.specs.declared.Finding.{Finding}
use Rattle.records.specs.declared.Flooding.{Flooding}
use Rattle.regulation.specs.Regulation.{IsRoot, under√, pi}
use Rattle.regulation.specs.RegulationIndex.{Numbers, fourth, Order, Least}
use Rattle.regulation.specs.OfSolasIndex.{FactorOf}
use Rattle.regulation.specs.OfSolasPassengers.{PassengerFactorOf}
use Rattle.spans.specs.Hull.{ship_of}
use Rattle.indices.specs.Exact as exact
use Rattle.indices.specs.Exact.{Each}
use Rattle.survival.specs.Survival.{Factor, root, given, nothing, still}
use Rattle.casefile.specs.Record.{Row, Case}
use Rattle.casefile.specs.Reading.{accepted, reading}
use Rattle.rows.specs.declared.Standing.{Standing}
use Rattle.rows.specs.Standing.{nowhere, standings}
use Rattle.promises.specs.Rows.{exact_rows}

-- √ is the root in the ship's Jk; a row stands in the layer from the one before it to its own b
abbrev pub SharesOfSolas : Type 0
SharesOfSolas = (f : List ℕ) (c : Case) → reading f ≡ accepted c → (√ : Fraction) → IsRoot √ (under√ c.hull.length) →
    Each (λ (y : Standing) (r : exact.Row). pi (ship_of c.hull) √ y.before y.head.depth y.head.first y.head.count ≈ r.share)
    (standings nowhere c.rows) (exact_rows c.hull nowhere c.rows)

module _ (N : Numbers) where
  -- s is what 7-2 gives for a result, be the openings which they may of which this one is the critical one
  abbrev pub Gives : Finding → N.Number → Type 0
  Gives f s = FactorOf N f.lever f.range f.heel f.opening s

  -- q is the fourth power of whatever that is
  abbrev pub FourthPowerOf : Finding → Fraction → Type 0
  FourthPowerOf f q = (s : N.Number) → Gives f s → N.◌≐◌ (fourth N s) (N.fraction q)

  -- a row's survival at a draught, from its result there and that of the second set: of kind 2 the fourth root of such a q, of kind 5 of the lesser of two, of
  -- kind 3 what was given
  abbrev pub SurvivalOfSolas : ℕ → Finding → Finding → Factor → Type 0
  SurvivalOfSolas kind f g (root q) =
      ((kind ≡ 2) × FourthPowerOf f q) ⊎ ((kind ≡ 5) × (a : Fraction) × (b : Fraction) × (q ≡ lesser a b) × FourthPowerOf f a × FourthPowerOf g b)
  SurvivalOfSolas kind f g (given n) = (kind ≡ 3) × (n ≡ f.given)

  -- the three of a cargo ship's row
  abbrev pub RowOfSolas : Row → exact.Row → Type 0
  RowOfSolas row r =
      (row.head.kind ≡ 7 → ⊥) → (j : ℕ) → j < 3 →
      SurvivalOfSolas row.head.kind (get_or row.results.findings j nothing) (get_or row.results.findings (3 + j) nothing) (get_or r.factors j (given 0))

-- among whatever numbers the roots are found
abbrev pub SurvivalsOfSolas : Type 1
SurvivalsOfSolas = (N : Numbers) (f : List ℕ) (c : Case) → reading f ≡ accepted c → Each (RowOfSolas N) c.rows (exact_rows c.hull nowhere c.rows)

-- 002, 2.7.7.3, where these numbers have an order: a row of two sets survives by s-min, the least of what 7-2 gives for either
module _ (N : Numbers) (O : Order N) where
  abbrev pub LeastOfSolas : Row → exact.Row → Type 0
  LeastOfSolas row r =
      row.head.kind ≡ 5 → (j : ℕ) → j < 3 → (q : Fraction) × (get_or r.factors j (given 0) ≡ root q)
      × ((s₁ s₂ s : N.Number) → Gives N (get_or row.results.findings j nothing) s₁ → Gives N (get_or row.results.findings (3 + j) nothing) s₂ → Least N O (s₁ ∷ s₂ ∷ []) s → N.◌≐◌ (fourth N s) (N.fraction q))

abbrev pub LeastSurvivalsOfSolas : Type 1
LeastSurvivalsOfSolas = (N : Numbers) (O : Order N) (f : List ℕ) (c : Case) → reading f ≡ accepted c → Each (LeastOfSolas N O) c.rows (exact_rows c.hull nowhere c.rows)

-- 002, 2.7.1.1: a passenger ship's row survives by the minimum of s-intermediate and of s-final times s-mom
module _ (N : Numbers) (O : Order N) where
  abbrev pub GivesPassengers : Finding → Flooding → N.Number → Type 0
  GivesPassengers f w s =
      PassengerFactorOf N O f.lever f.range f.heel f.opening w.lever w.range w.heel w.roro w.displacement w.moment s

  abbrev pub PassengerRowOfSolas : Row → exact.Row → Type 0
  PassengerRowOfSolas row r =
      row.head.kind ≡ 7 → (j : ℕ) → j < 3 → (q : Fraction) × (get_or r.factors j (given 0) ≡ root q)
      × ((s : N.Number) → GivesPassengers (get_or row.results.findings j nothing) (get_or row.results.floodings j still) s → N.◌≐◌ (fourth N s) (N.fraction q))

abbrev pub PassengerSurvivalsOfSolas : Type 1
PassengerSurvivalsOfSolas = (N : Numbers) (O : Order N) (f : List ℕ) (c : Case) → reading f ≡ accepted c → Each (PassengerRowOfSolas N O) c.rows (exact_rows c.hull nowhere c.rows)
