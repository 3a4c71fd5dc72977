-- What the rows of a case weigh at a draught, in whole numbers: each listed group weighs what it gives down to B/2, times the whole of v. Assumes nothing.
use Prim.Native.Nat.{ℕ, ◌+◌, ◌*◌, ◌/◌, ◌≤◌, zero-le}
use mathlib.Core.Path.{◌≡◌, refl, ◌∙◌, ap}
use mathlib.Core.Bool.{false, cond}
use mathlib.Core.List.{List, [], ◌∷◌}
use native.Mathlib.Omega.{arith}
use borrow.Author.Tests.{ne_eqb}
use Rattle.laws.specs.Sums.{sum_of}
use Rattle.records.specs.declared.Hull.{Hull}
use Rattle.records.specs.declared.RowHead.{RowHead}
use Rattle.solas.specs.Ship.{Ship, Sound}
use Rattle.solas.specs.Count.{Group}
use Rattle.solas.specs.Height.{v_at, row_v}
use Rattle.solas.proofs.Height.{v_at_top, v_at_waterline, row_adds_lem}
use Rattle.spans.specs.Hull.{ship_of}
use Rattle.casefile.specs.Record.{Row}
use Rattle.casefile.specs.Order.{same_group}
use Rattle.casefile.specs.Valid.{SameGroup, LaterGroup, ClosesGroup, Follows, higher, deeper, later, Ordered}
use Rattle.casefile.proofs.Order.{is_same, not_same}
use Rattle.casefile.proofs.Groups.{After, after_linked}
use Rattle.rows.specs.declared.Standing.{Standing}
use Rattle.rows.specs.Standing.{nowhere, stands}
use Rattle.rows.specs.Running.{Stood, Follow}
use Rattle.rows.proofs.Stands.{in_group, in_layer_lem, in_next_layer, in_new_group, head_is}
use Rattle.promises.proofs.Numerators.{gives, layers_add, no_layer}

-- ---- the groups of rows in turn, by the head of each one's first row

abbrev pub later_groups : RowHead → List Row → List RowHead
later_groups b [] = []
later_groups b (r ∷ rs) = let rest = later_groups r.head rs in cond (same_group b r.head) rest (r.head ∷ rest)

abbrev pub groups_in : List Row → List RowHead
groups_in [] = []
groups_in (r ∷ rs) = r.head ∷ later_groups r.head rs

-- ---- the rows at a draught, each at its standing
module _ (h : Hull) (sound : Sound (ship_of h)) (d : ℕ) (afloat : d ≤ h.deepest) where
  abbrev s : Ship
  s = ship_of h

  -- a row at a standing
  abbrev layer_gives : Standing → ℕ
  layer_gives y = gives s y.head.first y.head.count y.before y.head.depth

  abbrev weighs : Standing → ℕ
  weighs y = layer_gives y * row_v y.below y.head.height d

  unfoldable pub rows_weigh : Standing → List Row → ℕ
  rows_weigh y [] = 0
  rows_weigh y (r ∷ rs) = let z = stands y r.head in weighs z + rows_weigh z rs

  -- a whole group
  abbrev pub group_gives : RowHead → ℕ
  group_gives k = gives s k.first k.count 0 (h.breadth / 2)

  -- what the rows of a standing's group weigh up to it
  so_far : Standing → ℕ
  so_far y = gives s y.head.first y.head.count 0 y.before * 916500 + layer_gives y * v_at y.head.height d

  -- ---- at the end of a layer
  module _ (y : Standing) (st : Stood h y) (top : h.deepest + 12500 ≤ y.head.height) where
    layer_full : so_far y ≡ gives s y.head.first y.head.count 0 y.head.depth * 916500
    unfolding so_far
    layer_full =
        rw (v_at_top {ds = h.deepest} {H = y.head.height} {d = d} top afloat)
        (omega (arith, layers_add s sound y.head.first y.head.count st.group 0 y.before y.head.depth zero-le st.deeper st.within))

    group_full : y.head.depth ≡ h.breadth / 2 → so_far y ≡ 916500 * group_gives y.head
    group_full e = layer_full ∙ rw e (omega arith)

  -- ---- the first row of a layer
  fresh : (H : ℕ) → row_v 0 H d ≡ v_at H d
  fresh H = omega (arith, row_adds_lem {H' = 0} {H = H} d zero-le, v_at_waterline {H = 0} {d = d} zero-le)

  -- the groups that rows after y list, with y's own
  abbrev from_group : Standing → List Row → ℕ
  from_group y rs = 916500 * (group_gives y.head + sum_of group_gives (later_groups y.head rs))

  -- ---- one row more: higher in its layer, in the next layer, in a later group
  module _ (y : Standing) (st : Stood h y) (r : Row) (rs : List Row) where
    after_higher : (z : Standing) → record { head = r.head; before = y.before; below = y.head.height } ≡ z → SameGroup y.head r.head → r.head.depth ≡ y.head.depth →
        y.head.height ≤ r.head.height → so_far z + rows_weigh z rs ≡ from_group z rs → so_far y + (weighs z + rows_weigh z rs) ≡ from_group y (r ∷ rs)
    unfolding so_far
    after_higher z e (a, n) same up ih =
        let told = is_same y.head r.head (a, n) in
        let v = row_adds_lem {H' = y.head.height} {H = r.head.height} d up in
        rw (told, ← e, a, n, same) (omega (arith, ap (λ t. layer_gives y * t) v, rw (← e, a, n, same) at ih))

    after_deeper : (z : Standing) → record { head = r.head; before = y.head.depth; below = 0 } ≡ z → SameGroup y.head r.head →
        h.deepest + 12500 ≤ y.head.height → so_far z + rows_weigh z rs ≡ from_group z rs → so_far y + (weighs z + rows_weigh z rs) ≡ from_group y (r ∷ rs)
    unfolding so_far
    after_deeper z e (a, n) top ih =
        let told = is_same y.head r.head (a, n) in
        rw (told, layer_full y st top, ← e, a, n, fresh r.head.height) (omega (arith, rw (← e, a, n) at ih))

    after_later : (z : Standing) → record { head = r.head; before = 0; below = 0 } ≡ z → Group s r.head.first r.head.count → LaterGroup y.head r.head → ClosesGroup h y.head →
        so_far z + rows_weigh z rs ≡ from_group z rs → so_far y + (weighs z + rows_weigh z rs) ≡ from_group y (r ∷ rs)
    unfolding so_far
    after_later z e g l (deep, top) ih =
        let told = not_same y.head r.head l in
        rw (told, group_full y st top deep, ← e, fresh r.head.height)
        (omega (arith, rw (← e, no_layer s sound r.head.first r.head.count g) at ih))

    one_more : Follows h y.head r.head → Stood h (stands y r.head) → so_far (stands y r.head) + rows_weigh (stands y r.head) rs ≡ from_group (stands y r.head) rs →
        so_far y + rows_weigh y (r ∷ rs) ≡ from_group y (r ∷ rs)
    unfolding rows_weigh same_group
    one_more (higher g same up below) sz ih =
        after_higher (stands y r.head) (in_layer_lem y r.head (is_same y.head r.head g) same) g same (omega (arith, up)) ih
    one_more (deeper g down top) sz ih =
        after_deeper (stands y r.head) (in_next_layer y r.head (is_same y.head r.head g) (λ e. omega (arith, down, e))) g top ih
    one_more (later l closes) sz ih =
        after_later (stands y r.head) (in_new_group y r.head (not_same y.head r.head l)) (rw (head_is y r.head) at sz.group) l closes ih

  -- ---- all rows
  all_weigh : (y : Standing) (rs : List Row) → Stood h y → After h y.head rs → Follow h y rs → so_far y + rows_weigh y rs ≡ from_group y rs
  unfolding rows_weigh
  all_weigh y [] st a w = omega (arith, group_full y st a.1 a.0)
  all_weigh y (r ∷ rs) st a w =
      let z = stands y r.head in
      one_more y st r rs a.0 w.0 (all_weigh z rs w.0 (rw (head_is y r.head) a.1) w.2)

  -- from the first on
  first_weighs : (r : Row) (rs : List Row) (z : Standing) → record { head = r.head; before = 0; below = 0 } ≡ z → Group s r.head.first r.head.count →
      so_far z + rows_weigh z rs ≡ from_group z rs → weighs z + rows_weigh z rs ≡ 916500 * sum_of group_gives (groups_in (r ∷ rs))
  unfolding so_far
  first_weighs r rs z e g h =
      rw (← e, fresh r.head.height) (omega (arith, rw (← e, no_layer s sound r.head.first r.head.count g) at h))

  pub case_weighs : (rs : List Row) → Ordered h rs → Follow h nowhere rs → rows_weigh nowhere rs ≡ 916500 * sum_of group_gives (groups_in rs)
  unfolding rows_weigh
  case_weighs [] o w = omega arith
  case_weighs (r ∷ rs) o w =
      let z = stands nowhere r.head in
      let g : Group s r.head.first r.head.count = rw (head_is nowhere r.head) at w.0.group in
      let first : in_group nowhere r.head ≡ false = rw (ne_eqb r.head.first 0 (λ e. omega (arith, g.from, e))) refl in
      first_weighs r rs z (in_new_group nowhere r.head first) g (all_weigh z rs w.0 (rw (head_is nowhere r.head) (after_linked h r rs o.0 o.1)) w.2)
