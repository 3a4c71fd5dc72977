-- The sum over a layer's rows, with a fraction each, is its share times the sum of their v; what is so of the rows after them is so of the sum.
-- Assumes nothing.
use Prim.Native.Nat.{ℕ, suc, ◌≤◌}
use mathlib.Core.Path.{◌≡◌, refl, sym, subst}
use mathlib.Core.List.{List, [], ◌∷◌, ◌++◌, map}
use native.Mathlib.Omega.{arith}
use lib.ListN.{length, get_or, take, drop}
use Rattle.laws.specs.Lists.{Every, last}
use Rattle.laws.specs.Fraction.{Fraction, ◌over◌, whole, ◌≈◌, ◌⊹◌, ◌⊛◌}
use Rattle.laws.proofs.Fraction.{≈_refl, ≈_sym}
use Rattle.laws.proofs.FractionTerm.{number, parts, first, second, third, fourth, ◌⊹ᵗ◌, ◌⊛ᵗ◌, agree}
use Rattle.laws.proofs.FractionRing.{⊹_assoc}
use Rattle.records.specs.declared.Hull.{Hull}
use Rattle.records.specs.declared.RowHead.{RowHead}
use Rattle.solas.specs.Share.{row_share}
use Rattle.solas.specs.Height.{row_v}
use Rattle.solas.specs.Layers.{rows_v}
use Rattle.solas.specs.Index.{draughts}
use Rattle.regulation.specs.OfSolasSums.{v_sum}
use Rattle.regulation.proofs.RegulationSums.{Ordering}
use Rattle.spans.specs.Hull.{ship_of}
use Rattle.heights.specs.Height.{row_vs}
use Rattle.indices.specs.Exact.{RowAt, weight, weighted_sum, row_at}
use Rattle.casefile.specs.Record.{Row}
use Rattle.casefile.specs.Order.{same_group}
use Rattle.casefile.specs.Groups.{SameLayer}
use Rattle.casefile.proofs.Groups.{same_layer_lem}
use Rattle.casefile.proofs.Order.{is_same}
use Rattle.rows.specs.declared.Standing.{Standing}
use Rattle.rows.specs.Standing.{stands}
use Rattle.rows.proofs.Stands.{in_layer_lem, head_is}
use Rattle.promises.specs.Rows.{exact_row, exact_rows}
use Rattle.promises.specs.Sums.{heights}
-- checked first, so that a sentence that is not so is refused at a number
use Rattle.promises.proofs.WitnessSums.{same}

-- ---- fractions
spread : (s v x w : Fraction) → s ⊛ v ⊛ x ⊹ s ⊛ w ≈ s ⊛ (v ⊛ x ⊹ w)
spread s v x w = agree {ρ = parts (s ∷ v ∷ x ∷ w ∷ [])} (first ⊛ᵗ second ⊛ᵗ third ⊹ᵗ first ⊛ᵗ fourth) (first ⊛ᵗ (second ⊛ᵗ third ⊹ᵗ fourth)) tt

none_more : (s u : Fraction) → u ≈ s ⊛ whole 0 ⊹ u
none_more s u = agree {ρ = parts (s ∷ u ∷ [])} second (first ⊛ᵗ number 0 1 tt ⊹ᵗ second) tt

module _ {R : Fraction → Fraction → Type 0} (o : Ordering R) where
  one_more : (s v x w u : Fraction) {t : Fraction} → R t (s ⊛ w ⊹ u) → R (s ⊛ v ⊛ x ⊹ t) (s ⊛ (v ⊛ x ⊹ w) ⊹ u)
  one_more s v x w u r =
      o.follows (o.sums (o.of_same (≈_refl (s ⊛ v ⊛ x))) r)
      (o.follows (o.of_same (≈_sym (⊹_assoc (s ⊛ v ⊛ x) (s ⊛ w) u))) (o.sums (o.of_same (spread s v x w)) (o.of_same (≈_refl u))))

-- ---- rows at one of the draughts
module _ (h : Hull) (i d : ℕ) (v-is : (H' H : ℕ) → get_or (row_vs H' H (draughts h.deepest h.light)) i 0 ≡ row_v H' H d)
    {R : Fraction → Fraction → Type 0} (o : Ordering R) where
  -- the rows in turn, after one that stood at y
  abbrev pub from : Standing → List Row → List RowAt
  from y rs = map (row_at i) (exact_rows h y rs)

  -- a layer's share, by the head of one of its rows and the penetration before
  abbrev pub share_of : RowHead → ℕ → Fraction
  share_of k b' = row_share (ship_of h) k.first k.count b' k.depth

  -- the rows of a layer from r on, where the row below it is at u, and then rows whose sum comes to U
  module _ (k : RowHead) (b' : ℕ) (rest : List Row) (U : Fraction) where
    abbrev InLayer : Row → Type 0
    InLayer r = SameLayer k r.head

    weight_is : (z : Standing) (u : ℕ) (r : Row) → record { head = r.head; before = b'; below = u } ≡ z → InLayer r →
        weight (row_at i (exact_row h z r.results)) ≡ share_of k b' ⊛ (row_v u r.head.height d over 916500)
    weight_is z u r e ((a, n), b) = rw (← e, a, n, b, v-is u r.head.height) refl

    row : (z : Standing) (u : ℕ) (r : Row) (rs : List Row) (x : Fraction) (xs : List Fraction) (w : Fraction) →
        record { head = r.head; before = b'; below = u } ≡ z → InLayer r →
        R (weighted_sum (from z rs) xs) (share_of k b' ⊛ w ⊹ U) →
        R (weighted_sum (row_at i (exact_row h z r.results) ∷ from z rs) (x ∷ xs))
        (share_of k b' ⊛ ((row_v u r.head.height d over 916500) ⊛ x ⊹ w) ⊹ U)
    row z u r rs x xs w e s t =
        let W = share_of k b' ⊛ ((row_v u r.head.height d over 916500) ⊛ x ⊹ w) ⊹ U in
        subst (λ f. R (f ⊛ x ⊹ weighted_sum (from z rs) xs) W) (sym (weight_is z u r e s))
        (one_more o (share_of k b') (row_v u r.head.height d over 916500) x w U t)

    pub rows_up : (y : Standing) (u : ℕ) (r : Row) (above : List Row) (xs : List Fraction) →
        record { head = r.head; before = b'; below = u } ≡ stands y r.head → InLayer r → Every InLayer above →
        suc (length above) ≤ length xs →
        ((z : Standing) → z.head ≡ (last r above).head → R (weighted_sum (from z rest) (drop (suc (length above)) xs)) U) →
        R (weighted_sum (from y (r ∷ above ++ rest)) xs) (share_of k b' ⊛ v_sum (rows_v u (heights (r ∷ above)) d) (take (suc (length above)) xs) ⊹ U)
    unfolding exact_rows same_group
    rows_up y u r above [] e s ss l t = absurd (omega (arith, l))
    rows_up y u r [] (x ∷ xs) e s ss l t =
        row (stands y r.head) u r rest x xs (whole 0) e s
        (o.follows (t (stands y r.head) (head_is y r.head)) (o.of_same (none_more (share_of k b') U)))
    rows_up y u r (p ∷ above) (x ∷ xs) e s ss l t =
        let z = stands y r.head in
        let (g, b) = same_layer_lem k r.head p.head s ss.0 in
        let e' : record { head = p.head; before = b'; below = r.head.height } ≡ stands z p.head =
        subst (λ z. record { head = p.head; before = b'; below = r.head.height } ≡ stands z p.head) e
        (in_layer_lem (record { head = r.head; before = b'; below = u }) p.head (is_same r.head p.head g) b) in
        row z u r (p ∷ above ++ rest) x xs (v_sum (rows_v r.head.height (heights (p ∷ above)) d) (take (suc (length above)) xs)) e s
        (rows_up z r.head.height p above xs e' ss.0 ss.1 (omega (arith, l)) t)
