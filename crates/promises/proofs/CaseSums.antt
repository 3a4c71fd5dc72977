-- The sum over a valid case's rows is that over its layers in turn: what is so of each layer's term is so of the sum. Assumes nothing.
use Prim.Native.Nat.{ℕ}
use mathlib.Core.Path.{◌≡◌, sym, ◌∙◌, ap, subst}
use mathlib.Core.List.{List, [], ◌∷◌, ◌++◌}
use lib.ListN.{length, get_or}
use Rattle.laws.specs.Lists.{Every}
use Rattle.laws.specs.Fraction.{Fraction, whole, total}
use Rattle.laws.proofs.Every.{every_both}
use Rattle.laws.proofs.Fraction.{≈_refl}
use Rattle.records.specs.declared.Hull.{Hull}
use Rattle.solas.specs.Ship.{Ship}
use Rattle.solas.specs.Height.{row_v}
use Rattle.solas.specs.Index.{draughts}
use Rattle.regulation.specs.RegulationIndex.{millimetres, Boundary}
use Rattle.regulation.specs.RegulationSums.{partial_A}
use Rattle.regulation.proofs.RegulationSums.{Ordering}
use Rattle.spans.specs.Hull.{ship_of}
use Rattle.heights.specs.Height.{row_vs}
use Rattle.indices.specs.Exact.{weighted_sum}
use Rattle.casefile.specs.Record.{Row, Case}
use Rattle.casefile.specs.Valid.{ValidRow, Valid}
use Rattle.casefile.specs.Groups.{Group, layer_rows, all_rows, group_head, GroupFits, GroupsRise, Grouped}
use Rattle.rows.specs.Standing.{nowhere}
use Rattle.promises.specs.Rows.{exact_rows}
use Rattle.promises.specs.Sums.{LayerAfter, inward, layers_of, floodings, EachLayer, OneEach}
use Rattle.promises.proofs.LayerRows.{from}
use Rattle.promises.proofs.LayerSums.{Sits, rows_in, in_letters, in_rows, layers_sum}
use Rattle.promises.proofs.CaseLayers.{rows_are, all_sit, in_turn, first_begins}

module _ (c : Case) (v : Valid c) (√ : Fraction) where
  abbrev h : Hull
  h = c.hull

  abbrev s : Ship
  s = ship_of h

  module _ (q : Grouped h c.rows) (i d : ℕ)
      (v-is : (H' H : ℕ) → get_or (row_vs H' H (draughts h.deepest h.light)) i 0 ≡ row_v H' H d) where
    module _ {R : Fraction → Fraction → Type 0} (o : Ordering R) (difference : Boundary → Boundary → Fraction → Fraction) (K : Row → Type 0)
        (C : List Fraction → Type 0)
        (term : (l : LayerAfter) (ys : List Fraction) → Sits h K l → length ys ≡ length (layer_rows l.layer) → C ys →
        R (in_rows h √ i d v-is o difference K C l ys) (in_letters h √ i d v-is o difference K C l ys)) where
      of_groups : (gs : List Group) → Every (GroupFits h) gs → GroupsRise gs → Every (λ (r : Row). ValidRow h r × K r) (all_rows gs) →
          (xs : List Fraction) → length xs ≡ length (rows_in (layers_of gs)) →
          EachLayer C (layers_of gs) xs →
          R (weighted_sum (from h i d v-is o nowhere (rows_in (layers_of gs))) xs) (partial_A difference (floodings s √ (layers_of gs) xs) (millimetres d))
      unfolding exact_rows partial_A total
      of_groups [] f up k xs n e = o.of_same (≈_refl (whole 0))
      of_groups (g ∷ gs) f up k xs n e =
          layers_sum h √ i d v-is o difference K C term nowhere (record { before = 0; layer = g.outer })
          (inward (group_head g).depth g.inner ++ layers_of gs) xs (first_begins h K g gs k) (all_sit h K (g ∷ gs) f k) (in_turn h K g gs f up) n e

      pub of_rows : Every K c.rows → (xs : List Fraction) → OneEach c xs → EachLayer C (layers_of q.groups) xs →
          R (weighted_sum (from h i d v-is o nowhere c.rows) xs) (partial_A difference (floodings s √ (layers_of q.groups) xs) (millimetres d))
      of_rows k xs n e =
          let rows : rows_in (layers_of q.groups) ≡ c.rows = rows_are q.groups ∙ q.rows in
          let fine = subst (Every (λ (r : Row). ValidRow h r × K r)) (sym q.rows) (every_both (ValidRow h) K c.rows v.rows k) in
          subst (λ rs. R (weighted_sum (from h i d v-is o nowhere rs) xs)
          (partial_A difference (floodings s √ (layers_of q.groups) xs) (millimetres d))) rows
          (of_groups q.groups q.fit q.order fine xs (n ∙ ap length (sym rows)) e)
