-- The part of a row: what its group comes to down to its layer, and its share; one for all rows of a layer. Assumes nothing.
use Prim.Native.Nat.{ℕ, ◌≤◌}
use mathlib.Core.Path.{◌≡◌, refl, sym, ◌∙◌, ap}
use mathlib.Core.Bool.{Bool, true, false, ◌&&◌}
use lib.Dec.{eqb}
use borrow.Author.Tests.{eqb-true, eqb-false}
use Rattle.laws.proofs.Tests.{both}
use Rattle.records.specs.declared.Hull.{Hull}
use Rattle.records.specs.declared.Ends.{Ends}
use Rattle.spans.specs.Hull.{ship_of}
use Rattle.chances.specs.declared.Sums.{Sums}
use Rattle.chances.specs.Share.{sums_of, nothing, row_of, row_ends}
use Rattle.groups.proofs.Group.{no_sums}
use Rattle.casefile.specs.Order.{same_group, same_layer}
use Rattle.rows.specs.declared.Standing.{Standing}
use Rattle.rows.specs.declared.Part.{Part}
use Rattle.rows.specs.Standing.{stands}
use Rattle.rows.specs.Work.{share_at, sums_at, part_at}
use Rattle.rows.proofs.Stands.{in_group, in_layer_lem, in_next_layer, in_new_group}

-- as the code tests it
pub other_layer : (y z : Standing) → (eqb z.head.first y.head.first && eqb z.head.count y.head.count && eqb z.head.depth y.head.depth) ≡ false → same_layer y.head z.head ≡ false
unfolding same_layer same_group
other_layer y z e = e

module _ (h : Hull) (z : Standing) where
  abbrev down_to : ℕ → Sums
  down_to b = sums_of (ship_of h) b z.head.first z.head.count

  by_sums : {before now : Sums} {share : Ends} → before ≡ down_to z.before → now ≡ down_to z.head.depth → share ≡ row_of before now → record { group = now; share = share } ≡ part_at h z
  unfolding sums_at share_at row_ends
  by_sums e f g = rw (g, e, f) refl

  -- in its group's first layer
  pub first_part : {now : Sums} {share : Ends} → z.before ≡ 0 → now ≡ down_to z.head.depth → share ≡ row_of nothing now → record { group = now; share = share } ≡ part_at h z
  first_part e f g = by_sums (rw e (no_sums (ship_of h) z.head.first z.head.count)) f g

  module _ (y : Standing) (after : z ≡ stands y z.head) where
    same_group_lem : in_group y z.head ≡ true → (z.head.first ≡ y.head.first) × (z.head.count ≡ y.head.count)
    same_group_lem g =
        let (a, n) = both (eqb z.head.first y.head.first) (eqb z.head.count y.head.count) g in
        (eqb-true z.head.first y.head.first a, eqb-true z.head.count y.head.count n)

    -- in a later layer: what the group came to at the row before is what it comes to down to the layer before
    group_before : {group : Sums} → group ≡ sums_at h y → same_layer y.head z.head ≡ false → (z.before ≡ 0 → ⊥) → group ≡ down_to z.before
    unfolding sums_at same_layer same_group
    group_before {group} e apart some = by (in_group y z.head) refl
      where
        by : (g : Bool) → in_group y z.head ≡ g → group ≡ down_to z.before
        by true g =
            let deeper : eqb z.head.depth y.head.depth ≡ false = rw g at apart in
            let before : z.before ≡ y.head.depth = ap (λ x. x.before) (after ∙ sym (in_next_layer y z.head g (eqb-false z.head.depth y.head.depth deeper))) in
            e ∙ rw (before, (same_group_lem g).0, (same_group_lem g).1) refl
        by false g = absurd (some (ap (λ x. x.before) (after ∙ sym (in_new_group y z.head g))))

    pub later_part : {group now : Sums} {share : Ends} → group ≡ sums_at h y → same_layer y.head z.head ≡ false → (z.before ≡ 0 → ⊥) → now ≡ down_to z.head.depth →
        share ≡ row_of group now → record { group = now; share = share } ≡ part_at h z
    later_part e apart some f g = by_sums (group_before e apart some) f g

    -- in the same layer
    pub one_part : {part : Part} → part ≡ part_at h y →
        (eqb z.head.first y.head.first && eqb z.head.count y.head.count && eqb z.head.depth y.head.depth) ≡ true → part ≡ part_at h z
    unfolding share_at sums_at
    one_part e t =
        let (g, d) = both (in_group y z.head) (eqb z.head.depth y.head.depth) t in
        let depth : z.head.depth ≡ y.head.depth = eqb-true z.head.depth y.head.depth d in
        let before : z.before ≡ y.before = ap (λ x. x.before) (after ∙ sym (in_layer_lem y z.head g depth)) in
        e ∙ rw ((same_group_lem g).0, (same_group_lem g).1, depth, before) refl
