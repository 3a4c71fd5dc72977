-- The regulation's sum over the boundaries of a complete layer is document 01's where no height but the last is more than 12.5 m above the draught,
-- and elsewhere document 01's is not above. Assumes nothing.
use Prim.Native.Nat.{ℕ, ◌≤◌, ◌<◌}
use mathlib.Core.Path.{◌≡◌}
use mathlib.Core.List.{List, [], ◌∷◌}
use native.Mathlib.Omega.{arith}
use lib.ListN.{length}
use Rattle.laws.specs.Lists.{Every, last, Linked}
use Rattle.laws.specs.Fraction.{Fraction, ◌over◌, whole, ◌≈◌, ◌≼◌, ◌⊹◌, ◌⊛◌}
use Rattle.laws.proofs.Choice.{split}
use Rattle.laws.proofs.Every.{every_one, linked_any}
use Rattle.laws.proofs.Fraction.{≈_refl, ≈_sym, ≈_trans, ⊹-≈, ⊛-≈, ≼_of_≈, ≼_trans, ⊹-≼}
use Rattle.laws.proofs.FractionRing.{⊹_nothing}
use Rattle.laws.proofs.FractionCompare.{⊛_keeps, ≼_of_≺}
use Rattle.solas.specs.Height.{row_v, top}
use Rattle.solas.specs.Layers.{rows_v, layer_v}
use Rattle.regulation.specs.RegulationIndex.{millimetres, Boundary, uppermost, counted, vm}
use Rattle.regulation.specs.RegulationSums.{in_brackets, si}
use Rattle.regulation.specs.OfSolasIndex.{vm_of_row}
use Rattle.regulation.specs.OfSolasSums.{boundaries, v_sum, LayerAt, LayerSumsAre01's, LayerSumsNotAbove}
use Rattle.regulation.proofs.RegulationHeights.{not_above_none, row_is_01's, last_row_is_01's, rows_part_above}
-- checked first, so that a definition that gives another number is refused there
use Rattle.regulation.proofs.SumExamples.{decked}

-- ---- the same, or at most: what sums ask of it
pub record Ordering (R : Fraction → Fraction → Type 0) : Type 0 where
  pub of_same : {f g : Fraction} → f ≈ g → R f g
  pub follows : {f g h : Fraction} → R f g → R g h → R f h
  pub sums : {f f' g g' : Fraction} → R f f' → R g g' → R (f ⊹ g) (f' ⊹ g')

pub sameness : Ordering ◌≈◌
sameness = record { of_same = λ e. e; follows = ≈_trans; sums = ⊹-≈ }

pub at_most : Ordering ◌≼◌
at_most = record { of_same = ≼_of_≈; follows = ≼_trans; sums = ⊹-≼ }

-- ---- a layer's rows, from the row below them at H' on: what is so of each row is so of their sums
module _ (difference : Boundary → Boundary → Fraction → Fraction) {R : Fraction → Fraction → Type 0} (o : Ordering R) (ds d : ℕ) (K : ℕ → Type 0)
    (N : Fraction → Type 0)
    (inner : (H' H : ℕ) (x : Fraction) → H' < H → K H' → K H → N x →
    R ((row_v H' H d over 916500) ⊛ x)
    (difference (counted (millimetres H') (millimetres d)) (counted (millimetres H) (millimetres d)) (millimetres d) ⊛ x))
    (topmost : (H' H : ℕ) (x : Fraction) → top ds ≤ H → K H' → N x →
    R ((row_v H' H d over 916500) ⊛ x) (difference (counted (millimetres H') (millimetres d)) (uppermost (millimetres H)) (millimetres d) ⊛ x)) where
  from : (H' H : ℕ) (Hs : List ℕ) (xs : List Fraction) → Linked ◌<◌ H' (H ∷ Hs) → top ds ≤ last H Hs → Linked (λ F G. K F) H' (H ∷ Hs) →
      length xs ≡ length (H ∷ Hs) → Every N xs →
      R (v_sum (rows_v H' (H ∷ Hs) d) xs) (in_brackets difference (counted (millimetres H') (millimetres d)) (boundaries (H ∷ Hs) xs) (millimetres d))
  unfolding in_brackets
  from H' H [] [] up t k e n = absurd (omega (arith, e))
  from H' H [] (x ∷ []) up t k e n = o.follows (o.of_same (⊹_nothing _)) (topmost H' H x t k.0 n.0)
  from H' H [] (x ∷ y ∷ xs) up t k e n = absurd (omega (arith, e))
  from H' H (G ∷ Hs) [] up t k e n = absurd (omega (arith, e))
  from H' H (G ∷ Hs) (x ∷ []) up t k e n = absurd (omega (arith, e))
  from H' H (G ∷ Hs) (x ∷ y ∷ xs) up t k e n =
      o.sums (inner H' H x up.0 k.0 k.1.0 n.0) (from H G Hs (y ∷ xs) up.1 t k.1 (omega (arith, e)) n.1)

  pub layer_sums : (Hs : List ℕ) (xs : List Fraction) → LayerAt ds d Hs xs → Linked (λ F G. K F) 0 Hs → Every N xs →
      R (v_sum (layer_v Hs d) xs) (si difference (boundaries Hs xs) (millimetres d))
  unfolding si
  layer_sums [] xs l k n = absurd (omega (arith, l.complete.closed))
  layer_sums (H ∷ Hs) xs l k n =
      rw (not_above_none {H = 0} {d = d} (omega arith)) at (from 0 H Hs xs l.complete.rising l.complete.closed k l.one_each n)

-- ---- differences held between 0 and 1
pub layer_sums_are_01's : LayerSumsAre01's
layer_sums_are_01's ds d Hs xs l k =
    ≈_sym
    (layer_sums vm sameness ds d (λ H. H ≤ top d) (λ x. Unit {0}) (λ H' H x up k' k n. ⊛-≈ (≈_sym (row_is_01's H' H d (omega arith) k)) (≈_refl x))
    (λ H' H x t k n. ⊛-≈ (≈_sym (last_row_is_01's ds d H' H l.afloat t)) (≈_refl x)) Hs xs l k (every_one xs))

row_not_above : (H' H d : ℕ) → H' < H → row_v H' H d over 916500 ≼ vm_of_row H' H d
row_not_above H' H d up =
    split H (top d) (λ low. ≼_of_≈ (≈_sym (row_is_01's H' H d (omega arith) low)))
    (λ high. let parted = rows_part_above H' H d up high in split H' d (λ none. ≼_of_≈ (≈_sym (parted.alone none)))
    (λ some. ≼_of_≺ (parted.less some)))

pub layer_sums_not_above : LayerSumsNotAbove
layer_sums_not_above ds d Hs xs l n =
    layer_sums vm at_most ds d (λ H. Unit {0}) (λ x. whole 0 ≼ x) (λ H' H x up k' k n. ⊛_keeps n (row_not_above H' H d up))
    (λ H' H x t k n. ≼_of_≈ (⊛-≈ (≈_sym (last_row_is_01's ds d H' H l.afloat t)) (≈_refl x))) Hs xs l (linked_any 0 Hs) n
