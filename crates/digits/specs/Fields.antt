-- Document 01, "One file in full": the ends of a figure and of the partial indices, by their low bytes, the high one first. Assumes nothing.
use Rattle.std.specs.Prelude.{ℕ, List, ◌++◌}
use Rattle.laws.specs.Bytes.{bytes}
use Rattle.records.specs.declared.Ends.{Ends}
use Rattle.records.specs.Ends.{at}

-- a figure's ends, lower and upper: four bytes each
unfoldable pub ends_field : ℕ → ℕ → List ℕ
ends_field lower upper = bytes 4 lower ++ bytes 4 upper

-- the ends of the partial index at draught j: 0 deepest, 1 partial, 2 light
unfoldable pub partial_field : List Ends → ℕ → List ℕ
partial_field t j = ends_field (at t j).lower (at t j).upper

-- the ends of As, Ap, Al
unfoldable pub partials_field : List Ends → List ℕ
partials_field t = partial_field t 0 ++ partial_field t 1 ++ partial_field t 2
