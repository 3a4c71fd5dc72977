-- A layer by the heights of its rows, from the lowest up: the v of each row, when the layer is complete, and what its rows share. Assumes nothing.
use Rattle.std.specs.Prelude.{ℕ, ◌<◌, ◌≤◌, ◌≡◌, List, [], ◌∷◌, map}
use Rattle.laws.specs.Lists.{last, Linked}
use Rattle.laws.specs.Sums.{sum}
use Rattle.solas.specs.Height.{row_v, top}
use Rattle.solas.specs.Index.{draughts}

-- the v of rows at the draught d, where the row below them is at H'
abbrev pub rows_v : ℕ → List ℕ → ℕ → List ℕ
rows_v H' [] d = []
rows_v H' (H ∷ Hs) d = row_v H' H d ∷ rows_v H Hs d

-- the v of a layer's rows: nothing is under the first
abbrev pub layer_v : List ℕ → ℕ → List ℕ
layer_v Hs d = rows_v 0 Hs d

-- a layer's heights, where the deepest draught is ds: they rise, and the last is at the top or above it
pub record Complete (ds : ℕ) (Hs : List ℕ) : Type 0 where
  pub rising : Linked ◌<◌ 0 Hs
  pub closed : top ds ≤ last 0 Hs

-- ---- the promise: they share the whole of v, at every draught and so at each of the three
abbrev pub LayersShareAll : Type 0
LayersShareAll = (ds d : ℕ) (Hs : List ℕ) → Complete ds Hs → d ≤ ds → sum (layer_v Hs d) ≡ 916500

abbrev pub LayersShareAllThrice : Type 0
LayersShareAllThrice = (ds dl : ℕ) (Hs : List ℕ) → Complete ds Hs → dl ≤ ds → map (λ d. sum (layer_v Hs d)) (draughts ds dl) ≡ 916500 ∷ 916500 ∷ 916500 ∷ []
