-- The sum over rows in layers, with a fraction each, is the layers' shares times the sums of their rows' v; what is so of each of these terms is
-- so of the sum. Assumes nothing.
use Prim.Native.Nat.{ℕ, suc, ◌≤◌, ◌<◌}
use mathlib.Core.Path.{◌≡◌, refl}
use mathlib.Core.List.{List, [], ◌∷◌, ◌++◌}
use native.Mathlib.Omega.{arith}
use lib.ListN.{length, get_or, take, drop, length-append, length-drop}
use lib.Seq.{length-take-le}
use Rattle.laws.specs.Lists.{Every, last, Linked}
use Rattle.laws.specs.Fraction.{Fraction, whole, ◌⊹◌, ◌⊛◌, total}
use Rattle.laws.proofs.Fraction.{≈_refl}
use Rattle.records.specs.declared.Hull.{Hull}
use Rattle.records.specs.declared.RowHead.{RowHead}
use Rattle.solas.specs.Height.{row_v}
use Rattle.solas.specs.Layers.{layer_v}
use Rattle.solas.specs.Index.{draughts}
use Rattle.regulation.specs.Regulation.{pi}
use Rattle.regulation.specs.RegulationIndex.{millimetres, Boundary}
use Rattle.regulation.specs.RegulationSums.{d_A, partial_A}
use Rattle.regulation.specs.OfSolasSums.{boundaries, v_sum}
use Rattle.regulation.proofs.RegulationSums.{Ordering}
use Rattle.spans.specs.Hull.{ship_of}
use Rattle.heights.specs.Height.{row_vs}
use Rattle.indices.specs.Exact.{weighted_sum}
use Rattle.casefile.specs.Record.{Row}
use Rattle.casefile.specs.Valid.{ValidRow}
use Rattle.casefile.specs.Groups.{layer_rows, layer_head, LayerFits}
use Rattle.rows.specs.declared.Standing.{Standing}
use Rattle.rows.specs.Standing.{stands}
use Rattle.promises.specs.Rows.{exact_rows}
use Rattle.promises.specs.Sums.{LayerAfter, heights, floodings, EachLayer}
use Rattle.promises.proofs.LayerRows.{from, share_of, rows_up}

-- ---- layers in turn

abbrev pub rows_in : List LayerAfter → List Row
rows_in [] = []
rows_in (l ∷ ls) = layer_rows l.layer ++ rows_in ls

abbrev pub top_of : LayerAfter → Row
top_of l = last l.layer.lowest l.layer.above

-- the layer's lowest row, after one that stood at y, has no row below it, and the layer before it is that which is said
abbrev pub Begins : Standing → LayerAfter → Type 0
Begins y l = record { head = layer_head l.layer; before = l.before; below = 0 } ≡ stands y (layer_head l.layer)

-- so it does after whatever has this head
abbrev pub Next : RowHead → LayerAfter → Type 0
Next k l = (z : Standing) → z.head ≡ k → Begins z l

-- what is asked of a layer and of its rows
pub record Sits (h : Hull) (K : Row → Type 0) (l : LayerAfter) : Type 0 where
  pub fits : LayerFits h l.layer
  pub deeper : l.before < (layer_head l.layer).depth
  pub rows : Every (λ (r : Row). ValidRow h r × K r) (layer_rows l.layer)

module _ (h : Hull) (√ : Fraction) (i d : ℕ) (v-is : (H' H : ℕ) → get_or (row_vs H' H (draughts h.deepest h.light)) i 0 ≡ row_v H' H d)
    {R : Fraction → Fraction → Type 0} (o : Ordering R)
    (difference : Boundary → Boundary → Fraction → Fraction) (K : Row → Type 0) (C : List Fraction → Type 0) where
  -- one layer in the regulation's letters, and as the rows have it
  abbrev pub in_letters : LayerAfter → List Fraction → Fraction
  in_letters l ys =
      let k = layer_head l.layer in
      let Hs = heights (layer_rows l.layer) in
      d_A difference (record { pi = pi (ship_of h) √ l.before k.depth k.first k.count; boundaries = boundaries Hs ys }) (millimetres d)

  abbrev pub in_rows : LayerAfter → List Fraction → Fraction
  in_rows l ys = share_of h i d v-is o (layer_head l.layer) l.before ⊛ v_sum (layer_v (heights (layer_rows l.layer)) d) ys

  module _ (term : (l : LayerAfter) (ys : List Fraction) → Sits h K l → length ys ≡ length (layer_rows l.layer) → C ys →
      R (in_rows l ys) (in_letters l ys)) where
    with_layer : (y : Standing) (l : LayerAfter) (rest : List Row) (xs : List Fraction) (U : Fraction) → Begins y l → Sits h K l →
        length xs ≡ length (layer_rows l.layer ++ rest) →
        C (take (length (layer_rows l.layer)) xs) →
        ((z : Standing) → z.head ≡ (top_of l).head → R (weighted_sum (from h i d v-is o z rest) (drop (length (layer_rows l.layer)) xs)) U) →
        R (weighted_sum (from h i d v-is o y (layer_rows l.layer ++ rest)) xs) (in_letters l (take (length (layer_rows l.layer)) xs) ⊹ U)
    with_layer y l rest xs U b s e c t =
        let n : suc (length l.layer.above) ≤ length xs = omega (arith, e, length-append (layer_rows l.layer) rest) in
        o.follows (rows_up h i d v-is o (layer_head l.layer) l.before rest U y 0 l.layer.lowest l.layer.above xs b ((refl, refl), refl)
        s.fits.one n t)
        (o.sums (term l (take (length (layer_rows l.layer)) xs) s (length-take-le (length (layer_rows l.layer)) xs n) c) (o.of_same (≈_refl U)))

    pub layers_sum : (y : Standing) (l : LayerAfter) (ls : List LayerAfter) (xs : List Fraction) → Begins y l → Every (Sits h K) (l ∷ ls) →
        Linked (λ (a : LayerAfter) (b : LayerAfter). Next (top_of a).head b) l ls →
        length xs ≡ length (rows_in (l ∷ ls)) → EachLayer C (l ∷ ls) xs →
        R (weighted_sum (from h i d v-is o y (rows_in (l ∷ ls))) xs) (partial_A difference (floodings (ship_of h) √ (l ∷ ls) xs) (millimetres d))
    unfolding partial_A total exact_rows
    layers_sum y l [] xs b s k e c = with_layer y l [] xs (whole 0) b s.0 e c.0 (λ z t. o.of_same (≈_refl (whole 0)))
    layers_sum y l (m ∷ ls) xs b s k e c =
        let n = length (layer_rows l.layer) in
        let rest : length (drop n xs) ≡ length (rows_in (m ∷ ls)) =
        omega (arith, length-drop n xs, e, length-append (layer_rows l.layer) (rows_in (m ∷ ls))) in
        with_layer y l (rows_in (m ∷ ls)) xs (partial_A difference (floodings (ship_of h) √ (m ∷ ls) (drop n xs)) (millimetres d)) b s.0 e c.0
        (λ z t. layers_sum z m ls (drop n xs) (k.0 z t) s.1 k.1 rest c.1)
