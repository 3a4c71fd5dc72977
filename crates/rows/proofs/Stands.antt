-- Where a row stands after another: in its layer, in a later layer of its group, or in another group. Assumes nothing.
use mathlib.Core.Path.{◌≡◌, refl}
use mathlib.Core.Bool.{Bool, true, false, cond, ◌&&◌}
use lib.Dec.{eqb}
use borrow.Author.Tests.{eq-eqb, ne_eqb}
use Rattle.records.specs.declared.RowHead.{RowHead}
use Rattle.casefile.specs.Order.{same_group, same_layer}
use Rattle.rows.specs.declared.Standing.{Standing}
use Rattle.rows.specs.Standing.{stands}

-- ---- the three ways to stand

module _ (y : Standing) (r : RowHead) where
  abbrev pub in_group : Bool
  in_group = eqb r.first y.head.first && eqb r.count y.head.count

  pub in_layer_lem : in_group ≡ true → r.depth ≡ y.head.depth → record { head = r; before = y.before; below = y.head.height } ≡ stands y r
  unfolding stands same_layer same_group
  in_layer_lem g d = rw (g, eq-eqb r.depth y.head.depth d) refl

  pub in_next_layer : in_group ≡ true → (r.depth ≡ y.head.depth → ⊥) → record { head = r; before = y.head.depth; below = 0 } ≡ stands y r
  unfolding stands same_layer same_group
  in_next_layer g d = rw (g, ne_eqb r.depth y.head.depth d) refl

  pub in_new_group : in_group ≡ false → record { head = r; before = 0; below = 0 } ≡ stands y r
  unfolding stands same_layer same_group
  in_new_group g = rw g refl

  pub head_is : (stands y r).head ≡ r
  unfolding stands
  head_is = by (same_layer y.head r) (same_group y.head r)
    where
      by : (s t : Bool) →
          (cond {A = Standing} s (record { head = r; before = y.before; below = y.head.height }) (cond t (record { head = r; before = y.head.depth; below = 0 }) (record { head = r; before = 0; below = 0 }))).head ≡ r
      by true t = refl
      by false true = refl
      by false false = refl
