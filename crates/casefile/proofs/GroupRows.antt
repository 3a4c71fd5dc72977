-- The rows of groups that fit and rise are in order; and so the order in rows is the order in words. Assumes nothing.
use Prim.Native.Nat.{◌<◌}
use mathlib.Core.Path.{refl, ◌∙◌}
use mathlib.Core.List.{List, [], ◌∷◌, ◌++◌, append_assoc}
use native.Mathlib.Omega.{arith}
use Rattle.laws.specs.Lists.{Every, last, Linked}
use Rattle.laws.proofs.Every.{every_map, last_has}
use Rattle.records.specs.declared.Hull.{Hull}
use Rattle.records.specs.declared.RowHead.{RowHead}
use Rattle.casefile.specs.Record.{Row}
use Rattle.casefile.specs.Valid.{SameGroup, LaterGroup, BelowTop, ClosesGroup, higher, deeper, later, Ordered}
use Rattle.casefile.specs.Groups.{Layer, Group, rows_of_layers, all_rows, layer_head, group_head, SameLayer, LayerFits, GroupFits, GroupsRise, OrderInWords}
use Rattle.casefile.proofs.Groups.{After, linked_after, same_group_lem, same_layer_lem, later_of, into_groups}

-- the row that a layer ends with
abbrev top_row : Layer → Row
top_row l = last l.lowest l.above

module _ (h : Hull) where
  -- through a layer to what comes after it
  through_layer : (k : RowHead) (r : Row) (above rest : List Row) → SameLayer k r.head → Every (λ (x : Row). SameLayer k x.head) above →
      Linked (λ (x : Row) (y : Row). x.head.height < y.head.height) r above → Linked (λ (x : Row) (y : Row). BelowTop h x.head) r above →
      After h (last r above).head rest → After h r.head (above ++ rest)
  through_layer k r [] rest s one up low a = a
  through_layer k r (x ∷ above) rest s one up low a =
      let t : SameLayer r.head x.head = same_layer_lem k r.head x.head s one.0 in
      (higher t.0 t.1 up.0 low.0, through_layer k x above rest one.0 one.1 up.1 low.1 a)

  module _ (l : Layer) (f : LayerFits h l) where
    top_same : SameLayer (layer_head l) (top_row l).head
    top_same = last_has (λ (x : Row). SameLayer (layer_head l) x.head) l.lowest l.above ((refl, refl), refl) f.one

    over_layer : (rest : List Row) → After h (top_row l).head rest → After h (layer_head l) (l.above ++ rest)
    over_layer rest a = through_layer (layer_head l) l.lowest l.above rest ((refl, refl), refl) f.one f.rises f.below a

  -- through the layers of a group
  over_layers : (l : Layer) (ls : List Layer) (rest : List Row) → LayerFits h l → Every (LayerFits h) ls → Every (λ (m : Layer). SameGroup (layer_head l) (layer_head m)) ls →
      Linked (λ (k : Layer) (m : Layer). (layer_head k).depth < (layer_head m).depth) l ls → After h (top_row (last l ls)).head rest →
      After h (layer_head l) (l.above ++ (rows_of_layers ls ++ rest))
  over_layers l [] rest f fs one d a = over_layer l f rest a
  over_layers l (m ∷ ls) rest f fs one d a =
      let t : SameLayer (layer_head l) (top_row l).head = top_same l f in
      let s : SameGroup (top_row l).head (layer_head m) = same_group_lem (layer_head l) (top_row l).head (layer_head m) t.0 one.0 in
      let others : Every (λ (x : Layer). SameGroup (layer_head m) (layer_head x)) ls =
      every_map (λ (x : Layer). SameGroup (layer_head l) (layer_head x)) (λ (x : Layer). SameGroup (layer_head m) (layer_head x)) (λ x e. same_group_lem (layer_head l) (layer_head m) (layer_head x) one.0 e) ls one.1 in
      over_layer l f (rows_of_layers (m ∷ ls) ++ rest)
      (deeper s (omega (arith, t.1, d.0)) f.ends, rw (append_assoc m.above (rows_of_layers ls) rest) (over_layers m ls rest fs.0 fs.1 others d.1 a))

  module _ (g : Group) (f : GroupFits h g) where
    abbrev innermost : Layer
    innermost = last g.outer g.inner

    inner_fits : LayerFits h innermost
    inner_fits = last_has (LayerFits h) g.outer g.inner f.first f.others

    closes : ClosesGroup h (top_row innermost).head
    closes = ((top_same innermost inner_fits).1 ∙ f.ends, inner_fits.ends)

    of_group : SameGroup (group_head g) (top_row innermost).head
    of_group =
        let (a, n) = last_has (λ (l : Layer). SameGroup (group_head g) (layer_head l)) g.outer g.inner (refl, refl) f.one in
        let (b, m) = (top_same innermost inner_fits).0 in
        (b ∙ a, m ∙ n)

  -- through the groups
  over_groups_lem : (g : Group) (gs : List Group) → GroupFits h g → Every (GroupFits h) gs → Linked (λ (x : Group) (y : Group). LaterGroup (group_head x) (group_head y)) g gs →
      After h (group_head g) (g.outer.above ++ (rows_of_layers g.inner ++ all_rows gs))
  over_groups_lem g [] f fs o = over_layers g.outer g.inner [] f.first f.others f.one f.rises (closes g f)
  over_groups_lem g (k ∷ gs) f fs o =
      over_layers g.outer g.inner (all_rows (k ∷ gs)) f.first f.others f.one f.rises (
        later (later_of (group_head g) (top_row (innermost g f)).head (group_head k) (of_group g f) o.0) (closes g f),
        rw (append_assoc k.outer.above (rows_of_layers k.inner) (all_rows gs)) (over_groups_lem k gs fs.0 fs.1 o.1),
      )

  in_order : (gs : List Group) → Every (GroupFits h) gs → GroupsRise gs → Ordered h (all_rows gs)
  in_order [] f o = tt
  in_order (g ∷ gs) f o =
      linked_after h g.outer.lowest (g.outer.above ++ rows_of_layers g.inner ++ all_rows gs)
      (rw (append_assoc g.outer.above (rows_of_layers g.inner) (all_rows gs)) (over_groups_lem g gs f.0 f.1 o))

pub order_in_words : OrderInWords
order_in_words h rs = (λ o. into_groups h rs o, λ q. rw q.rows at (in_order h q.groups q.fit q.order))
