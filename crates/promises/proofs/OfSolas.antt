-- Each row of an accepted file stands in a layer that goes deeper, so that its exact share is the regulation's. Assumes nothing.
use Prim.Native.Nat.{◌≤◌, ◌<◌}
use mathlib.Core.Path.{◌≡◌, refl, subst}
use mathlib.Core.Bool.{false}
use mathlib.Core.List.{List, [], ◌∷◌}
use native.Mathlib.Omega.{arith}
use borrow.Author.Tests.{ne_eqb}
use Rattle.laws.specs.Fraction.{Fraction, ◌≈◌}
use Rattle.records.specs.declared.Hull.{Hull}
use Rattle.regulation.specs.Regulation.{IsRoot, under√, pi}
use Rattle.regulation.proofs.RegulationShares.{shares_are_the_regulation's}
use Rattle.spans.specs.Hull.{ship_of, Hulled}
use Rattle.spans.proofs.Places.{ship_sound}
use Rattle.indices.specs.Exact as exact
use Rattle.indices.specs.Exact.{Each}
use Rattle.casefile.specs.Record.{Row}
use Rattle.casefile.specs.Order.{same_group}
use Rattle.casefile.specs.Valid.{Follows, higher, deeper, later, Ordered}
use Rattle.casefile.proofs.Order.{is_same, not_same}
use Rattle.casefile.proofs.Groups.{After, after_linked}
use Rattle.casefile.proofs.Soundness.{sound}
use Rattle.rows.specs.declared.Standing.{Standing}
use Rattle.rows.specs.Standing.{nowhere, stands, standings}
use Rattle.rows.specs.Running.{Follow}
use Rattle.rows.proofs.Stands.{in_group, in_layer_lem, in_next_layer, in_new_group, head_is}
use Rattle.answers.proofs.ValidCase.{hulled, rows_follow}
use Rattle.promises.specs.Rows.{exact_rows}
use Rattle.promises.specs.OfSolas.{SharesOfSolas}

abbrev Deeper : Standing → Type 0
Deeper y = y.before < y.head.depth

module _ (h : Hull) (k : Hulled h) (√ : Fraction) (root : IsRoot √ (under√ h.length)) where
  next_deeper : (y : Standing) (r : Row) → Follows h y.head r.head → Deeper y → 1 ≤ r.head.depth → Deeper (stands y r.head)
  unfolding same_group
  next_deeper y r (higher g same up below) d s = subst Deeper (in_layer_lem y r.head (is_same y.head r.head g) same) (omega (arith, d, same))
  next_deeper y r (deeper g down top) d s = subst Deeper (in_next_layer y r.head (is_same y.head r.head g) (λ e. omega (arith, down, e))) down
  next_deeper y r (later l c) d s = subst Deeper (in_new_group y r.head (not_same y.head r.head l)) s

  abbrev Alike : Standing → exact.Row → Type 0
  Alike y r = pi (ship_of h) √ y.before y.head.depth y.head.first y.head.count ≈ r.share

  rows_alike : (y : Standing) (rs : List Row) → Deeper y → After h y.head rs → Follow h y rs → Each Alike (standings y rs) (exact_rows h y rs)
  unfolding standings exact_rows
  rows_alike y [] d a w = tt
  rows_alike y (r ∷ rs) d a w =
      let z = stands y r.head in
      let st = w.0 in
      let some : 1 ≤ r.head.depth = rw (head_is y r.head) at st.some in
      let down : Deeper z = next_deeper y r a.0 d some in (
        shares_are_the_regulation's (ship_of h) (ship_sound k) √ root z.head.first z.head.count z.before z.head.depth st.group.from st.group.fits down st.within,
        rows_alike z rs down (rw (head_is y r.head) a.1) w.2,
      )

  all_alike : (rs : List Row) → Ordered h rs → Follow h nowhere rs → Each Alike (standings nowhere rs) (exact_rows h nowhere rs)
  unfolding standings exact_rows
  all_alike [] o w = tt
  all_alike (r ∷ rs) o w =
      let z = stands nowhere r.head in
      let st = w.0 in
      let from : 1 ≤ r.head.first = rw (head_is nowhere r.head) at st.group.from in
      let some : 1 ≤ r.head.depth = rw (head_is nowhere r.head) at st.some in
      let first : in_group nowhere r.head ≡ false = rw (ne_eqb r.head.first 0 (λ e. omega (arith, from, e))) refl in
      let down : Deeper z = subst Deeper (in_new_group nowhere r.head first) some in (
        shares_are_the_regulation's (ship_of h) (ship_sound k) √ root z.head.first z.head.count z.before z.head.depth st.group.from st.group.fits down st.within,
        rows_alike z rs down (rw (head_is nowhere r.head) (after_linked h r rs o.0 o.1)) w.2,
      )

pub shares_of_solas : SharesOfSolas
shares_of_solas f c e √ root =
    let v = (sound f c e).1 in
    all_alike c.hull (hulled c.hull v.hull) √ root c.rows v.order (rows_follow c v)
