-- The sums that the promises speak of are the regulation's, of every accepted file, at each draught and with A's weights. Assumes nothing.
use Prim.Native.Nat.{ℕ, ◌≤◌}
use mathlib.Core.Path.{◌≡◌}
use mathlib.Core.List.{List, map}
use native.Mathlib.Nat.{le_refl}
use native.Mathlib.Omega.{arith}
use lib.ListN.{length, get_or}
use Rattle.laws.specs.Lists.{Every}
use Rattle.laws.specs.Fraction.{Fraction, whole, ◌≈◌, ◌≼◌, ◌⊛◌}
use Rattle.laws.proofs.Every.{every_one}
use Rattle.laws.proofs.Fraction.{≈_refl, ≈_sym, ≈_trans, ⊹-≈, ⊛-≈, ≼_of_≈, ≼_trans}
use Rattle.records.specs.declared.Hull.{Hull}
use Rattle.solas.specs.Ship.{Ship}
use Rattle.solas.specs.Height.{row_v}
use Rattle.solas.specs.Index.{draughts, attained}
use Rattle.solas.proofs.Height.{dp_below_deepest}
use Rattle.regulation.specs.Regulation.{IsRoot, under√}
use Rattle.regulation.specs.RegulationIndex.{millimetres, Boundary, vm}
use Rattle.regulation.specs.RegulationSums.{Flooding, plain, d_A}
use Rattle.regulation.specs.OfSolasSums.{NoneNegative, NoneRises, SameWhereLow, NotAboveFor}
use Rattle.regulation.proofs.RegulationIndices.{draught_is_01's, attained_is_01's}
use Rattle.regulation.proofs.SameDraught.{vm_same, plain_same, partial_same}
use Rattle.regulation.proofs.RegulationSums.{sameness, at_most, layer_sums_are_01's, layer_sums_not_above}
use Rattle.regulation.proofs.PlainSums.{plain_layer_sums_are_01's, plain_layer_sums_not_above}
use Rattle.spans.specs.Hull.{ship_of}
use Rattle.heights.specs.Height.{row_vs}
use Rattle.indices.specs.Exact.{weighted_sum, row_at}
use Rattle.indices.proofs.Enclosure.{attained_rises}
use Rattle.casefile.specs.Record.{Case}
use Rattle.casefile.specs.Valid.{Valid}
use Rattle.casefile.specs.Groups.{layer_rows, Grouped}
use Rattle.casefile.proofs.Groups.{into_groups}
use Rattle.casefile.proofs.Soundness.{sound}
use Rattle.rows.specs.Standing.{nowhere}
use Rattle.promises.specs.Rows.{exact_rows, rows_of}
use Rattle.promises.specs.Sums.{layers_of, heights, floodings, EachLayer, LowButTops, OneEach, middle, metres, partial_at, Summed, SummedUp, GroupsAreThere, SumsOfSolas, PlainSumsOfSolas}
use Rattle.promises.proofs.Chances as chances
use Rattle.promises.proofs.CutLists.{Low, heights_low, low_at_deepest, low_at_middle, each_layer}
use Rattle.promises.proofs.OneLayer.{at_draught, share_times, share_times_below}
use Rattle.promises.proofs.CaseSums.{of_rows}

-- ---- A
attained_same : {s p l s' p' l' : Fraction} → s ≈ s' → p ≈ p' → l ≈ l' → attained s p l ≈ attained s' p' l'
unfolding attained
attained_same s p l = ⊛-≈ (⊹-≈ (⊹-≈ (⊛-≈ (≈_refl (whole 2)) s) (⊛-≈ (≈_refl (whole 2)) p)) l) (≈_refl _)

-- ---- of a valid case
module _ (c : Case) (v : Valid c) (√ : Fraction) (root : IsRoot √ (under√ c.hull.length)) where
  abbrev h : Hull
  h = c.hull

  abbrev s : Ship
  s = ship_of h

  module _ (q : Grouped h c.rows) (i d : ℕ) (afloat : d ≤ h.deepest)
      (v-is : (H' H : ℕ) → get_or (row_vs H' H (draughts h.deepest h.light)) i 0 ≡ row_v H' H d) where
    -- ---- by what is so of each layer, at a draught of D metres, which is d in millimetres
    module _ (difference : Boundary → Boundary → Fraction → Fraction) (Such C : List Fraction → Type 0)
        (each : (xs : List Fraction) → Such xs → EachLayer C (layers_of q.groups) xs)
        (low : SameWhereLow difference) (any : NotAboveFor difference C)
        (D : Fraction) (there : (xs : List Fraction) → partial_at difference c √ q (millimetres d) xs ≈ partial_at difference c √ q D xs) where
      same_at : LowButTops c d → (xs : List Fraction) → OneEach c xs →
          partial_at difference c √ q D xs ≈ weighted_sum (map (row_at i) (exact_rows h nowhere c.rows)) xs
      unfolding d_A
      same_at k xs n =
          ≈_trans (≈_sym (there xs)) (≈_sym
          (of_rows c v √ q i d v-is sameness difference (Low h d) (Every (λ x. Unit {0}))
          (λ l ys y m e. share_times c v √ root (Low h d) l y
          (≈_sym (low h.deepest d (heights (layer_rows l.layer)) ys (at_draught c v √ root (Low h d) l y d afloat ys m)
          (omega arith, heights_low h d l.layer.lowest l.layer.above y.fits.below y.rows))))
          k xs n (each_layer (λ x. Unit {0}) (layers_of q.groups) xs (every_one xs))))

      not_above_at : (xs : List Fraction) → OneEach c xs → Such xs →
          weighted_sum (map (row_at i) (exact_rows h nowhere c.rows)) xs ≼ partial_at difference c √ q D xs
      unfolding d_A
      not_above_at xs n e =
          ≼_trans (of_rows c v √ q i d v-is at_most difference (λ r. Unit {0}) C
          (λ l ys y m e. share_times_below c v √ root (λ r. Unit {0}) l y
          (any h.deepest d (heights (layer_rows l.layer)) ys (at_draught c v √ root (λ r. Unit {0}) l y d afloat ys m) e))
          (every_one c.rows) xs n (each xs e))
          (≼_of_≈ (there xs))

      summed : Summed difference c √ q Such d D (map (row_at i) (exact_rows h nowhere c.rows))
      summed = record { same = same_at; not_above = not_above_at }

  -- ---- the three draughts, and A
  -- the partial draught by the regulation's formula is document 01's
  middle_is : (metres c).partial ≈ millimetres (middle c)
  middle_is = draught_is_01's h.deepest h.light (chances.sizes c v).lighter (chances.sizes c v).fifths

  module _ (q : Grouped h c.rows) (difference : Boundary → Boundary → Fraction → Fraction)
      (agrees : (d d' : Fraction) → d ≈ d' → (before m : Boundary) → difference before m d ≈ difference before m d') (Such C : List Fraction → Type 0)
      (each : (xs : List Fraction) → Such xs → EachLayer C (layers_of q.groups) xs) (low : SameWhereLow difference)
      (any : NotAboveFor difference C) where
    summed_up : SummedUp difference c √ q Such
    unfolding rows_of
    summed_up =
        let floods : List Fraction → List Flooding = floodings s √ (layers_of q.groups) in
        let at_deepest_lem = summed q 0 h.deepest (le_refl h.deepest) (chances.v_first c v) difference Such C each low any (metres c).deepest
        (λ xs. ≈_refl _) in
        let at_middle = summed q 1 (middle c) (dp_below_deepest (chances.sizes c v).lighter) (chances.v_second c v) difference Such C each low any
        (metres c).partial
        (λ xs. partial_same (≈_sym middle_is) difference (agrees (millimetres (middle c)) (metres c).partial (≈_sym middle_is)) (floods xs)) in
        let at_light_lem = summed q 2 h.light (chances.sizes c v).lighter (chances.v_third c v) difference Such C each low any (metres c).light
        (λ xs. ≈_refl _) in
        record {
          deepest = at_deepest_lem;
          partial = at_middle;
          light = at_light_lem;
          same_at_deepest = at_deepest_lem.same (low_at_deepest c);
          attained_same = λ k xs n. ≈_trans (attained_is_01's _ _ _)
              (attained_same (at_deepest_lem.same (low_at_deepest c) xs.deepest n.0) (at_middle.same (low_at_middle c k) xs.partial n.1)
              (at_light_lem.same k xs.light n.2));
          attained_not_above =
              λ xs n e. ≼_trans (attained_rises (at_deepest_lem.not_above xs.deepest n.0 e.0) (at_middle.not_above xs.partial n.1 e.1)
              (at_light_lem.not_above xs.light n.2 e.2))
              (≼_of_≈ (≈_sym (attained_is_01's _ _ _)));
        }

pub groups_are_there : GroupsAreThere
groups_are_there f c e = into_groups c.hull c.rows (sound f c e).1.order

pub sums_of_solas : SumsOfSolas
sums_of_solas f c e √ root q =
    summed_up c (sound f c e).1 √ root q vm (λ d d' e. vm_same e) NoneNegative NoneNegative
    (λ xs n. each_layer (λ x. whole 0 ≼ x) (layers_of q.groups) xs n) layer_sums_are_01's layer_sums_not_above

pub plain_sums_of_solas : PlainSumsOfSolas
plain_sums_of_solas f c e √ root q =
    summed_up c (sound f c e).1 √ root q plain (λ d d' e. plain_same e) (EachLayer NoneRises (layers_of q.groups)) NoneRises
    (λ xs n. n) plain_layer_sums_are_01's plain_layer_sums_not_above
