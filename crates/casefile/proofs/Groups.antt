-- Rows in order are groups of layers, and such groups are in order. Assumes nothing.
use Prim.Native.Nat.{◌/◌, ◌<◌}
use mathlib.Core.Path.{◌≡◌, refl, sym, ◌∙◌, ap}
use mathlib.Core.List.{List, [], ◌∷◌}
use mathlib.Core.Logic.{inl, inr}
use native.Mathlib.Omega.{arith}
use Rattle.laws.specs.Lists.{Every, last, Linked}
use Rattle.laws.proofs.Every.{every_map}
use Rattle.records.specs.declared.Hull.{Hull}
use Rattle.records.specs.declared.RowHead.{RowHead}
use Rattle.casefile.specs.Record.{Row}
use Rattle.casefile.specs.Valid.{SameGroup, LaterGroup, AtTop, BelowTop, ClosesGroup, Follows, higher, deeper, later, Ordered}
use Rattle.casefile.specs.Groups.{Layer, Group, layer_rows, all_rows, layer_head, group_head, SameLayer, GroupFits, Grouped}

-- ---- rows after a row

-- each may follow the one before it, and the last closes its group
abbrev pub After : Hull → RowHead → List Row → Type 0
After h b [] = ClosesGroup h b
After h b (r ∷ rs) = Follows h b r.head × After h r.head rs

module _ (h : Hull) where
  pub after_linked : (r : Row) (rs : List Row) → Linked (λ (x : Row) (y : Row). Follows h x.head y.head) r rs → ClosesGroup h (last r rs).head → After h r.head rs
  after_linked r [] l c = c
  after_linked r (x ∷ rs) l c = (l.0, after_linked x rs l.1 c)

  pub linked_after : (r : Row) (rs : List Row) → After h r.head rs → Linked (λ (x : Row) (y : Row). Follows h x.head y.head) r rs × ClosesGroup h (last r rs).head
  linked_after r [] c = (tt, c)
  linked_after r (x ∷ rs) a = let (l, c) = linked_after x rs a.1 in ((a.0, l), c)

-- ---- one group, one layer, from different rows of it

pub same_group_lem : (k r x : RowHead) → SameGroup k r → SameGroup k x → SameGroup r x
same_group_lem k r x (a, n) (b, m) = (b ∙ sym a, m ∙ sym n)

on_group : (r k x : RowHead) → SameGroup r k → SameGroup k x → SameGroup r x
on_group r k x (a, n) (b, m) = (b ∙ a, m ∙ n)

pub same_layer_lem : (k r x : RowHead) → SameLayer k r → SameLayer k x → SameLayer r x
same_layer_lem k r x (g, d) (j, e) = (same_group_lem k r x g j, e ∙ sym d)

on_layer : (r k x : RowHead) → SameLayer r k → SameLayer k x → SameLayer r x
on_layer r k x (g, d) (j, e) = (on_group r k x g j, e ∙ d)

later_than : (r k x : RowHead) → SameGroup r k → LaterGroup k x → LaterGroup r x
later_than r k x (a, n) (inl l) = inl (omega arith)
later_than r k x (a, n) (inr (b, m)) = inr (b ∙ a, omega arith)

pub later_of : (k r x : RowHead) → SameGroup k r → LaterGroup k x → LaterGroup r x
later_of k r x (a, n) (inl l) = inl (omega arith)
later_of k r x (a, n) (inr (b, m)) = inr (b ∙ sym a, omega arith)

-- ---- rows into groups

-- a row before a group: higher in its outermost layer, in a layer further out, or in a group of its own
module _ (h : Hull) (r : Row) (g : Group) (f : GroupFits h g) where
  under : SameLayer r.head (group_head g) → r.head.height < (group_head g).height → BelowTop h r.head → GroupFits h (record { outer = record { lowest = r; above = layer_rows g.outer }; inner = g.inner })
  under s up low = record {
    first = record {
      one = (s, every_map (λ (x : Row). SameLayer (group_head g) x.head) (λ (x : Row). SameLayer r.head x.head) (λ x t. on_layer r.head (group_head g) x.head s t) g.outer.above f.first.one);
      rises = (up, f.first.rises);
      below = (low, f.first.below);
      ends = f.first.ends;
    };
    others = f.others;
    one = every_map (λ (l : Layer). SameGroup (group_head g) (layer_head l)) (λ (l : Layer). SameGroup r.head (layer_head l)) (λ l t. on_group r.head (group_head g) (layer_head l) s.0 t) g.inner f.one;
    rises = rising g.inner f.rises;
    ends = ending g.inner f.ends;
  }
    where
      outer : Layer
      outer = record { lowest = r; above = layer_rows g.outer }

      rising : (ls : List Layer) → Linked (λ (k : Layer) (l : Layer). (layer_head k).depth < (layer_head l).depth) g.outer ls → Linked (λ (k : Layer) (l : Layer). (layer_head k).depth < (layer_head l).depth) outer ls
      rising [] u = tt
      rising (l ∷ ls) u = (omega (arith, s.1, u.0), u.1)

      ending : (ls : List Layer) → (layer_head (last g.outer ls)).depth ≡ h.breadth / 2 → (layer_head (last outer ls)).depth ≡ h.breadth / 2
      ending [] e = sym s.1 ∙ e
      ending (l ∷ ls) e = e

  outside : SameGroup r.head (group_head g) → r.head.depth < (group_head g).depth → AtTop h r.head → GroupFits h (record { outer = record { lowest = r; above = [] }; inner = g.outer ∷ g.inner })
  outside s d top = record {
    first = record { one = tt; rises = tt; below = tt; ends = top };
    others = (f.first, f.others);
    one = (s, every_map (λ (l : Layer). SameGroup (group_head g) (layer_head l)) (λ (l : Layer). SameGroup r.head (layer_head l)) (λ l t. on_group r.head (group_head g) (layer_head l) s t) g.inner f.one);
    rises = (d, f.rises);
    ends = f.ends;
  }

alone : (h : Hull) (r : Row) → ClosesGroup h r.head → GroupFits h (record { outer = record { lowest = r; above = [] }; inner = [] })
alone h r (d, top) = record { first = record { one = tt; rises = tt; below = tt; ends = top }; others = tt; one = tt; rises = tt; ends = d }

-- rows of which the first is r, as groups
record Split (h : Hull) (r : Row) (rs : List Row) : Type 0 where
  group : Group
  groups : List Group
  first : group.outer.lowest ≡ r
  rows : all_rows (group ∷ groups) ≡ r ∷ rs
  fits : GroupFits h group
  others : Every (GroupFits h) groups
  order : Linked (λ (x : Group) (y : Group). LaterGroup (group_head x) (group_head y)) group groups

-- a group for another with the same a and n
in_place : (g k : Group) (gs : List Group) → SameGroup (group_head k) (group_head g) → Linked (λ (x : Group) (y : Group). LaterGroup (group_head x) (group_head y)) g gs →
    Linked (λ (x : Group) (y : Group). LaterGroup (group_head x) (group_head y)) k gs
in_place g k [] s l = tt
in_place g k (x ∷ gs) s l = (later_than (group_head k) (group_head g) (group_head x) s l.0, l.1)

module _ (h : Hull) where
  put : (r x : Row) (rs : List Row) → Follows h r.head x.head → Split h x rs → Split h r (x ∷ rs)
  put r x rs f q = by (rw (sym q.first) at f)
    where
      g : Group
      g = q.group

      by : Follows h r.head (group_head g) → Split h r (x ∷ rs)
      by (higher s d up low) = record {
        group = record { outer = record { lowest = r; above = layer_rows g.outer }; inner = g.inner };
        groups = q.groups;
        first = refl;
        rows = ap (r ∷◌) q.rows;
        fits = under h r g q.fits (s, d) up low;
        others = q.others;
        order = in_place g (record { outer = record { lowest = r; above = layer_rows g.outer }; inner = g.inner }) q.groups s q.order;
      }
      by (deeper s d top) = record {
        group = record { outer = record { lowest = r; above = [] }; inner = g.outer ∷ g.inner };
        groups = q.groups;
        first = refl;
        rows = ap (r ∷◌) q.rows;
        fits = outside h r g q.fits s d top;
        others = q.others;
        order = in_place g (record { outer = record { lowest = r; above = [] }; inner = g.outer ∷ g.inner }) q.groups s q.order;
      }
      by (later l c) = record {
        group = record { outer = record { lowest = r; above = [] }; inner = [] };
        groups = g ∷ q.groups;
        first = refl;
        rows = ap (r ∷◌) q.rows;
        fits = alone h r c;
        others = (q.fits, q.others);
        order = (l, q.order);
      }

  split : (r : Row) (rs : List Row) → After h r.head rs → Split h r rs
  split r [] c = record {
    group = record { outer = record { lowest = r; above = [] }; inner = [] };
    groups = [];
    first = refl;
    rows = refl;
    fits = alone h r c;
    others = tt;
    order = tt;
  }
  split r (x ∷ rs) a = put r x rs a.0 (split x rs a.1)

  pub into_groups : (rs : List Row) → Ordered h rs → Grouped h rs
  into_groups [] o = record { groups = []; rows = refl; fit = tt; order = tt }
  into_groups (r ∷ rs) o =
      let q : Split h r rs = split r rs (after_linked h r rs o.0 o.1) in
      record { groups = q.group ∷ q.groups; rows = q.rows; fit = (q.fits, q.others); order = q.order }
