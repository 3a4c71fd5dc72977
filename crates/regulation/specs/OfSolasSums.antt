-- How the regulation's sum over the boundaries of a layer stands to document 01's, whatever fractions stand in place of s. Assumes nothing.
use Rattle.std.specs.Prelude.{ℕ, ◌≤◌, ◌≡◌, List, [], ◌∷◌, length}
use Rattle.laws.specs.Lists.{Every, Linked}
use Rattle.laws.specs.Fraction.{Fraction, ◌over◌, whole, ◌≈◌, ◌≼◌, ◌⊹◌, ◌⊛◌}
use Rattle.solas.specs.Height.{top}
use Rattle.solas.specs.Layers.{layer_v, Complete}
use Rattle.regulation.specs.RegulationIndex.{millimetres, Boundary, vm}
use Rattle.regulation.specs.RegulationSums.{BoundarySmin, plain, si}

-- a layer's boundaries: its heights in millimetres, from the lowest up, each with a fraction in place of smin
abbrev pub boundaries : List ℕ → List Fraction → List BoundarySmin
boundaries [] xs = []
boundaries (H ∷ Hs) [] = []
boundaries (H ∷ Hs) (x ∷ xs) = record { H = millimetres H; smin = x } ∷ boundaries Hs xs

-- document 01's sum over rows: v times a fraction each
abbrev pub v_sum : List ℕ → List Fraction → Fraction
v_sum [] xs = whole 0
v_sum (v ∷ vs) [] = whole 0
v_sum (v ∷ vs) (x ∷ xs) = (v over 916500) ⊛ x ⊹ v_sum vs xs

-- a complete layer at a draught, with a fraction for each of its heights
pub record LayerAt (ds d : ℕ) (Hs : List ℕ) (xs : List Fraction) : Type 0 where
  pub complete : Complete ds Hs
  pub afloat : d ≤ ds
  pub one_each : length xs ≡ length Hs

-- no height but the last is more than 12.5 m above the draught
abbrev pub LowButLast : ℕ → List ℕ → Type 0
LowButLast d Hs = Linked (λ H K. H ≤ top d) 0 Hs

abbrev pub NoneNegative : List Fraction → Type 0
NoneNegative xs = Every (λ x. whole 0 ≼ x) xs

-- none is above the one before it: so with smin, the least over all lesser extents
abbrev pub NoneRises : List Fraction → Type 0
NoneRises [] = Unit {0}
NoneRises (x ∷ xs) = Linked (λ f g. g ≼ f) x xs

module _ (difference : Boundary → Boundary → Fraction → Fraction) where
  -- the two sums are the same where no height but the last is so high
  abbrev pub SameWhereLow : Type 0
  SameWhereLow = (ds d : ℕ) (Hs : List ℕ) (xs : List Fraction) → LayerAt ds d Hs xs → LowButLast d Hs →
      si difference (boundaries Hs xs) (millimetres d) ≈ v_sum (layer_v Hs d) xs

  -- elsewhere document 01's is not above, for such fractions
  abbrev pub NotAboveFor : (List Fraction → Type 0) → Type 0
  NotAboveFor Such = (ds d : ℕ) (Hs : List ℕ) (xs : List Fraction) → LayerAt ds d Hs xs → Such xs →
      v_sum (layer_v Hs d) xs ≼ si difference (boundaries Hs xs) (millimetres d)

-- ---- the promises: with differences that are held between 0 and 1, and with plain ones
abbrev pub LayerSumsAre01's : Type 0
LayerSumsAre01's = SameWhereLow vm

abbrev pub LayerSumsNotAbove : Type 0
LayerSumsNotAbove = NotAboveFor vm NoneNegative

abbrev pub PlainLayerSumsAre01's : Type 0
PlainLayerSumsAre01's = SameWhereLow plain

abbrev pub PlainLayerSumsNotAbove : Type 0
PlainLayerSumsNotAbove = NotAboveFor plain NoneRises
