-- What the ends are held to: rows at one draught with their exact share and survival, and the sums over every list of survivals. Assumes nothing.
use Rattle.std.specs.Prelude.{ℕ, ◌+◌, ◌≤◌, List, [], ◌∷◌, map, get_or}
use Rattle.laws.specs.Fraction.{Fraction, ◌over◌, whole, ◌≼◌, ◌⊹◌, ◌⊛◌}
use Rattle.laws.specs.Sums.{sum_of}
use Rattle.numbers.specs.Figures.{Between}
use Rattle.records.specs.declared.Ends.{Ends}
use Rattle.solas.specs.Index.{attained}
use Rattle.survival.specs.Survival.{Factor, given, ends, Sensible, NotAbove, NotBelow}
use Rattle.indices.specs.Index.{adds_of, trio}

-- a row at one draught: its share, exact and in ends, its v, and what its survival is exactly
pub record RowAt : Type 0 where
  pub share : Fraction
  pub share_ends : Ends
  pub v : ℕ
  pub factor : Factor

pub record Sound (r : RowAt) : Type 0 where
  pub share : Between r.share_ends r.share
  pub factor : Sensible r.factor

-- the ends of the share are at most w billionths apart
pub record Close (w : ℕ) (r : RowAt) : Type 0 where
  pub near : r.share_ends.upper ≤ r.share_ends.lower + w
  pub height : r.v ≤ 916500
  pub factor : Sensible r.factor

-- one for each, in turn
abbrev pub Each : {A B : Type 0} → (A → B → Type 0) → List A → List B → Type 0
Each P [] [] = Unit {0}
Each P [] (y ∷ ys) = ⊥
Each P (x ∷ xs) [] = ⊥
Each P (x ∷ xs) (y ∷ ys) = P x y × Each P xs ys

-- "every list of fractions, none negative, one per row", of which none is above, or none below
abbrev pub NoneAbove : List RowAt → List Fraction → Type 0
NoneAbove rs xs = Each (λ r x. (whole 0 ≼ x) × NotAbove r.factor x) rs xs

abbrev pub NoneBelow : List RowAt → List Fraction → Type 0
NoneBelow rs xs = Each (λ r x. (whole 0 ≼ x) × NotBelow r.factor x) rs xs

-- "the fractions weighted by exact share and v"
abbrev pub weight : RowAt → Fraction
weight r = r.share ⊛ (r.v over 916500)

abbrev pub weighted_sum : List RowAt → List Fraction → Fraction
weighted_sum [] xs = whole 0
weighted_sum (r ∷ rs) [] = whole 0
weighted_sum (r ∷ rs) (x ∷ xs) = weight r ⊛ x ⊹ weighted_sum rs xs

-- what a row adds, and the ends of the partial index of such rows
abbrev pub row_ends : RowAt → Ends
row_ends r = adds_of r.share_ends r.v (ends r.factor).bottom (ends r.factor).top

abbrev pub partial_ends : List RowAt → Ends
partial_ends rs = record { lower = sum_of (λ r. (row_ends r).lower) rs; upper = sum_of (λ r. (row_ends r).upper) rs }

-- ---- at the three draughts
pub record Thrice (A : Type 0) : Type 0 where
  pub deepest : A
  pub partial : A
  pub light : A

abbrev pub AtAll : {A : Type 0} → (A → Type 0) → Thrice A → Type 0
AtAll P a = P a.deepest × P a.partial × P a.light

abbrev pub AtEach : {A B : Type 0} → (A → B → Type 0) → Thrice A → Thrice B → Type 0
AtEach P a b = P a.deepest b.deepest × P a.partial b.partial × P a.light b.light

abbrev pub partials_of : Thrice (List RowAt) → List Ends
partials_of rs = trio (partial_ends rs.deepest) (partial_ends rs.partial) (partial_ends rs.light)

-- A "with its own weights"
abbrev pub exact_A : Thrice (List RowAt) → Thrice (List Fraction) → Fraction
exact_A rs xs = attained (weighted_sum rs.deepest xs.deepest) (weighted_sum rs.partial xs.partial) (weighted_sum rs.light xs.light)

-- a row with its v and its survival at each, and what it adds
pub record Row : Type 0 where
  pub share : Fraction
  pub share_ends : Ends
  pub vs : List ℕ
  pub factors : List Factor

abbrev pub row_at : ℕ → Row → RowAt
row_at i r = record { share = r.share; share_ends = r.share_ends; v = get_or r.vs i 0; factor = get_or r.factors i (given 0) }

abbrev pub rows_at : List Row → Thrice (List RowAt)
rows_at rs = record { deepest = map (row_at 0) rs; partial = map (row_at 1) rs; light = map (row_at 2) rs }

abbrev pub row_trio : Row → List Ends
row_trio r = trio (row_ends (row_at 0 r)) (row_ends (row_at 1 r)) (row_ends (row_at 2 r))
