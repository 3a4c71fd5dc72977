-- The sums that the promises speak of are those of SOLAS: the partial indices and A of every accepted file in document 002's letters, with any
-- fractions in place of s, against the sums over its rows. Assumes nothing.
use Rattle.std.specs.Prelude.{ℕ, ◌≤◌, ◌≡◌, List, [], ◌∷◌, ◌++◌, map, length, take, drop}
use Rattle.laws.specs.Lists.{Every}
use Rattle.laws.specs.Fraction.{Fraction, ◌≈◌, ◌≼◌}
use Rattle.solas.specs.Ship.{Ship}
use Rattle.solas.specs.Height.{top}
use Rattle.solas.specs.Index.{dp}
use Rattle.regulation.specs.Regulation.{IsRoot, under√, pi}
use Rattle.regulation.specs.RegulationIndex as regulation
use Rattle.regulation.specs.RegulationIndex.{millimetres, Boundary, vm}
use Rattle.regulation.specs.RegulationSums.{Flooding, plain, partial_A}
use Rattle.regulation.specs.OfSolasSums.{boundaries, NoneNegative, NoneRises}
use Rattle.spans.specs.Hull.{ship_of}
use Rattle.indices.specs.Exact.{RowAt, weighted_sum, Thrice, AtAll, exact_A}
use Rattle.casefile.specs.Record.{Row, Case}
use Rattle.casefile.specs.Valid.{BelowTop}
use Rattle.casefile.specs.Groups.{Layer, Group, layer_rows, layer_head, Grouped}
use Rattle.casefile.specs.Reading.{accepted, reading}
use Rattle.promises.specs.Rows.{rows_of}

-- ---- a file's rows in the regulation's letters: each layer of a group is a flooding between two penetrations, with its rows' heights as boundaries

-- a layer, and the penetration of the layer before it in its group, going inward: 0, at the shell, for the first
pub record LayerAfter : Type 0 where
  pub before : ℕ
  pub layer : Layer

abbrev pub inward : ℕ → List Layer → List LayerAfter
inward b' [] = []
inward b' (l ∷ ls) = record { before = b'; layer = l } ∷ inward (layer_head l).depth ls

abbrev pub layers_of : List Group → List LayerAfter
layers_of [] = []
layers_of (g ∷ gs) = inward 0 (g.outer ∷ g.inner) ++ layers_of gs

abbrev pub heights : List Row → List ℕ
heights rs = map (λ (r : Row). r.head.height) rs

-- the first of the fractions are for the boundaries of the first layer, the others for the layers after it
module _ (s : Ship) (√ : Fraction) where
  abbrev pub floodings : List LayerAfter → List Fraction → List Flooding
  floodings [] xs = []
  floodings (y ∷ ys) xs =
      let k = layer_head y.layer in
      let rows = layer_rows y.layer in
      record { pi = pi s √ y.before k.depth k.first k.count; boundaries = boundaries (heights rows) (take (length rows) xs) }
      ∷ floodings ys (drop (length rows) xs)

-- what is asked of the fractions of each layer
abbrev pub EachLayer : (List Fraction → Type 0) → List LayerAfter → List Fraction → Type 0
EachLayer Such [] xs = Unit {0}
EachLayer Such (y ∷ ys) xs = let n = length (layer_rows y.layer) in Such (take n xs) × EachLayer Such ys (drop n xs)

-- ---- the sums

-- no row but a layer's last, which is at the top or above it, ends more than 12.5 m above the draught d
abbrev pub LowButTops : Case → ℕ → Type 0
LowButTops c d = Every (λ (r : Row). BelowTop c.hull r.head → r.head.height ≤ top d) c.rows

abbrev pub OneEach : Case → List Fraction → Type 0
OneEach c xs = length xs ≡ length c.rows

-- the partial draught in millimetres; and the three in metres, the partial one by the regulation's own formula
abbrev pub middle : Case → ℕ
middle c = dp c.hull.deepest c.hull.light

abbrev pub metres : Case → Thrice Fraction
metres c =
    let ds = millimetres c.hull.deepest in
    let dl = millimetres c.hull.light in
    record { deepest = ds; partial = regulation.dp ds dl; light = dl }

module _ (difference : Boundary → Boundary → Fraction → Fraction) (c : Case) (√ : Fraction) (q : Grouped c.hull c.rows) where
  -- 2.5.1: the partial index at the draught d, and A with its weights
  abbrev pub partial_at : Fraction → List Fraction → Fraction
  partial_at d xs = partial_A difference (floodings (ship_of c.hull) √ (layers_of q.groups) xs) d

  abbrev pub attained_in : Thrice (List Fraction) → Fraction
  attained_in xs =
      regulation.A (partial_at (metres c).deepest xs.deepest) (partial_at (metres c).partial xs.partial)
      (partial_at (metres c).light xs.light)

  -- at a draught of d millimetres or D metres, and for the case's rows there: the same where no row but a layer's last is so high; elsewhere the
  -- promises' sum is not above, for such fractions
  pub record Summed (Such : List Fraction → Type 0) (d : ℕ) (D : Fraction) (rows : List RowAt) : Type 0 where
    pub same : LowButTops c d → (xs : List Fraction) → OneEach c xs → partial_at D xs ≈ weighted_sum rows xs
    pub not_above : (xs : List Fraction) → OneEach c xs → Such xs → weighted_sum rows xs ≼ partial_at D xs

  pub record SummedUp (Such : List Fraction → Type 0) : Type 0 where
    pub deepest : Summed Such c.hull.deepest (metres c).deepest (rows_of c).deepest
    pub partial : Summed Such (middle c) (metres c).partial (rows_of c).partial
    pub light : Summed Such c.hull.light (metres c).light (rows_of c).light
    -- at the deepest draught no row but a layer's last is so high
    pub same_at_deepest : (xs : List Fraction) → OneEach c xs → partial_at (metres c).deepest xs ≈ weighted_sum (rows_of c).deepest xs
    -- and where none is at the light draught, none is at any of the three
    pub attained_same : LowButTops c c.hull.light → (xs : Thrice (List Fraction)) → AtAll (OneEach c) xs → attained_in xs ≈ exact_A (rows_of c) xs
    pub attained_not_above : (xs : Thrice (List Fraction)) → AtAll (OneEach c) xs → AtAll Such xs → exact_A (rows_of c) xs ≼ attained_in xs

-- ---- the promises

-- an accepted file's rows are groups of layers, so that what follows is said of every one
abbrev pub GroupsAreThere : Type 0
GroupsAreThere = (f : List ℕ) (c : Case) → reading f ≡ accepted c → Grouped c.hull c.rows

-- √ is the root in the ship's Jk
abbrev pub OfEveryFile : ((c : Case) → Fraction → Grouped c.hull c.rows → Type 0) → Type 0
OfEveryFile Holds = (f : List ℕ) (c : Case) → reading f ≡ accepted c → (√ : Fraction) → IsRoot √ (under√ c.hull.length) →
    (q : Grouped c.hull c.rows) → Holds c √ q

-- differences of v are held between 0 and 1
abbrev pub SumsOfSolas : Type 0
SumsOfSolas = OfEveryFile (λ c √ q. SummedUp vm c √ q NoneNegative)

-- the same with plain differences, elsewhere for fractions that do not rise within a layer
abbrev pub PlainSumsOfSolas : Type 0
PlainSumsOfSolas = OfEveryFile (λ c √ q. SummedUp plain c √ q (EachLayer NoneRises (layers_of q.groups)))
