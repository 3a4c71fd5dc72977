-- The order of rows: refusals 8 and 9 say no where a row may follow the row before it, and nowhere else. Assumes nothing.
use Prim.Native.Nat.{◌/◌, ◌<◌}
use mathlib.Core.Path.{◌≡◌, refl, sym}
use mathlib.Core.Bool.{Bool, true, false, not, ◌&&◌, ◌||◌, and-false}
use mathlib.Core.Logic.{inl, inr, ⊎_elim}
use native.Mathlib.Nat.{eq-or-lt_of_le}
use native.Mathlib.Omega.{arith}
use lib.Dec.{leb, ltb, eqb}
use borrow.Author.Tests.{leb-true, leb-false, ltb-false, eqb-true, eqb-false, not-false, le-leb, lt-leb, le-ltb, eq-eqb, ne_eqb}
use Rattle.laws.proofs.Tests.{both, neither}
use Rattle.records.specs.declared.Hull.{Hull}
use Rattle.records.specs.declared.RowHead.{RowHead}
use Rattle.casefile.specs.Order.{at_top, closes_group, is_some, same_group, same_layer, earlier_group, out_of_order, leaves_open, ends_open}
use Rattle.casefile.specs.Valid.{SameGroup, LaterGroup, AtTop, BelowTop, ClosesGroup, Follows, higher, deeper, later}
-- checked first, so that a definition that reads a worked file otherwise is refused there
use Rattle.casefile.proofs.Examples.{printed_accepted}

-- ---- the top and the last layer

module _ (h : Hull) (r : RowHead) where
  at_top_lem : at_top h r ≡ true → AtTop h r
  unfolding at_top
  at_top_lem e = leb-true _ _ e

  below_top : at_top h r ≡ false → BelowTop h r
  unfolding at_top
  below_top e = leb-false _ _ e

  is_top : AtTop h r → at_top h r ≡ true
  unfolding at_top
  is_top t = le-leb _ _ t

  no_top : BelowTop h r → at_top h r ≡ false
  unfolding at_top
  no_top t = lt-leb _ _ t

  pub closes : closes_group h r ≡ true → ClosesGroup h r
  unfolding closes_group
  closes e = let (d, t) = both (eqb r.depth (h.breadth / 2)) (at_top h r) e in (eqb-true r.depth (h.breadth / 2) d, at_top_lem t)

  pub is_closed : ClosesGroup h r → closes_group h r ≡ true
  unfolding closes_group
  is_closed (d, t) = rw (eq-eqb r.depth (h.breadth / 2) d, is_top t) refl

  pub end_closes : is_some r ≡ true → ends_open h r ≡ false → ClosesGroup h r
  unfolding ends_open
  end_closes s e = closes (not-false (closes_group h r) (rw s at e))

  pub end_closed : ClosesGroup h r → ends_open h r ≡ false
  unfolding ends_open
  end_closed c = rw (is_closed c) (and-false (is_some r))

-- ---- the groups

module _ (b r : RowHead) where
  pub same_group_lem : same_group b r ≡ true → SameGroup b r
  unfolding same_group
  same_group_lem e =
      let (a, n) = both (eqb r.first b.first) (eqb r.count b.count) e in
      (eqb-true r.first b.first a, eqb-true r.count b.count n)

  pub is_same : SameGroup b r → same_group b r ≡ true
  unfolding same_group
  is_same (a, n) = rw (eq-eqb r.first b.first a, eq-eqb r.count b.count n) refl

  later_group : same_group b r ≡ false → earlier_group b r ≡ false → LaterGroup b r
  unfolding same_group earlier_group
  later_group s e =
      let (a, n) = neither (ltb r.first b.first) (eqb r.first b.first && ltb r.count b.count) e in
      ⊎_elim
      (λ (q : b.first ≡ r.first).
      let t : eqb r.first b.first ≡ true = eq-eqb r.first b.first (sym q) in
      let u : eqb r.count b.count ≡ false = rw t at s in
      let w : ltb r.count b.count ≡ false = rw t at n in
      let c : r.count ≡ b.count → ⊥ = eqb-false r.count b.count u in
      inr (sym q, omega (arith, ltb-false r.count b.count w)))
      (λ (q : b.first < r.first). inl q)
      (eq-or-lt_of_le (ltb-false r.first b.first a))

  pub not_same : LaterGroup b r → same_group b r ≡ false
  unfolding same_group
  not_same (inl a) = rw (ne_eqb r.first b.first (λ e. omega arith)) refl
  not_same (inr (a, n)) = rw (eq-eqb r.first b.first a, ne_eqb r.count b.count (λ e. omega arith)) refl

  not_earlier : LaterGroup b r → earlier_group b r ≡ false
  unfolding earlier_group
  not_earlier (inl a) = rw (le-ltb r.first b.first (omega arith), ne_eqb r.first b.first (λ e. omega arith)) refl
  not_earlier (inr (a, n)) = rw (le-ltb r.first b.first (omega arith), eq-eqb r.first b.first a, le-ltb r.count b.count (omega arith)) refl

  own_not_earlier : SameGroup b r → earlier_group b r ≡ false
  unfolding earlier_group
  own_not_earlier (a, n) = rw (le-ltb r.first b.first (omega arith), eq-eqb r.first b.first a, le-ltb r.count b.count (omega arith)) refl

-- ---- a row after another

module _ (h : Hull) (b r : RowHead) where
  not_out : is_some b ≡ true → out_of_order h b r ≡ false →
      (earlier_group b r ≡ false) × ((same_group b r && ltb r.depth b.depth) ≡ false) × ((same_layer b r && (leb r.height b.height || at_top h b)) ≡ false)
  unfolding out_of_order
  not_out s e =
      let (x, l) = neither (earlier_group b r || (same_group b r && ltb r.depth b.depth)) (same_layer b r && (leb r.height b.height || at_top h b)) (rw s at e) in
      let (g, d) = neither (earlier_group b r) (same_group b r && ltb r.depth b.depth) x in
      (g, d, l)

  not_open : is_some b ≡ true → leaves_open h b r ≡ false →
      ((not (same_group b r) && not (closes_group h b)) ≡ false) × ((same_group b r && not (same_layer b r) && not (at_top h b)) ≡ false)
  unfolding leaves_open
  not_open s e = neither (not (same_group b r) && not (closes_group h b)) (same_group b r && not (same_layer b r) && not (at_top h b)) (rw s at e)

  -- in its group
  in_group : same_group b r ≡ true → (same_group b r && ltb r.depth b.depth) ≡ false → (same_layer b r && (leb r.height b.height || at_top h b)) ≡ false →
      (same_group b r && not (same_layer b r) && not (at_top h b)) ≡ false → Follows h b r
  unfolding same_layer
  in_group g d l o = by_depth (eqb r.depth b.depth) refl
    where
      by_depth : (t : Bool) → eqb r.depth b.depth ≡ t → Follows h b r
      by_depth true e =
          let (up, top) = neither (leb r.height b.height) (at_top h b) (rw (g, e) at l) in
          higher (same_group_lem b r g) (eqb-true r.depth b.depth e) (leb-false r.height b.height up) (below_top h b top)
      by_depth false e =
          let n : r.depth ≡ b.depth → ⊥ = eqb-false r.depth b.depth e in
          deeper (same_group_lem b r g) (omega (arith, ltb-false r.depth b.depth (rw g at d))) (at_top_lem h b (not-false (at_top h b) (rw (g, e) at o)))

  pub follows : is_some b ≡ true → out_of_order h b r ≡ false → leaves_open h b r ≡ false → Follows h b r
  follows s e o = by_group (same_group b r) refl (not_out s e) (not_open s o)
    where
      by_group : (t : Bool) → same_group b r ≡ t →
          (earlier_group b r ≡ false) × ((same_group b r && ltb r.depth b.depth) ≡ false) × ((same_layer b r && (leb r.height b.height || at_top h b)) ≡ false) →
          ((not (same_group b r) && not (closes_group h b)) ≡ false) × ((same_group b r && not (same_layer b r) && not (at_top h b)) ≡ false) → Follows h b r
      by_group true g (x, d, l) (y, z) = in_group g d l z
      by_group false g (x, d, l) (y, z) = later (later_group b r g x) (closes h b (not-false (closes_group h b) (rw g at y)))

  -- ---- and the other way

  pub in_order : Follows h b r → out_of_order h b r ≡ false
  unfolding out_of_order same_layer
  in_order (higher g d up low) =
      rw (own_not_earlier b r g, is_same b r g, le-ltb r.depth b.depth (omega arith), eq-eqb r.depth b.depth d, lt-leb r.height b.height up, no_top h b low) (and-false (is_some b))
  in_order (deeper g d top) =
      rw (own_not_earlier b r g, is_same b r g, le-ltb r.depth b.depth (omega arith), ne_eqb r.depth b.depth (λ e. omega arith)) (and-false (is_some b))
  in_order (later g c) = rw (not_earlier b r g, not_same b r g) (and-false (is_some b))

  pub none_open : Follows h b r → leaves_open h b r ≡ false
  unfolding leaves_open same_layer
  none_open (higher g d up low) = rw (is_same b r g, eq-eqb r.depth b.depth d) (and-false (is_some b))
  none_open (deeper g d top) = rw (is_same b r g, ne_eqb r.depth b.depth (λ e. omega arith), is_top h b top) (and-false (is_some b))
  none_open (later g c) = rw (not_same b r g, is_closed h b c) (and-false (is_some b))

-- the first row follows none
module _ (h : Hull) (b : RowHead) (e : b.kind ≡ 0) where
  pub first_in_order : (r : RowHead) → out_of_order h b r ≡ false
  unfolding out_of_order
  first_in_order r = rw e refl

  pub first_none_open : (r : RowHead) → leaves_open h b r ≡ false
  unfolding leaves_open
  first_none_open r = rw e refl

  pub none_to_close : ends_open h b ≡ false
  unfolding ends_open
  none_to_close = rw e refl
