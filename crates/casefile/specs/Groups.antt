-- Document 01, "Order", in its own words: groups of layers of rows, and that a case's rows are in order exactly when they are such groups. Assumes nothing.
use Rattle.std.specs.Prelude.{◌/◌, ◌<◌, ◌≡◌, List, [], ◌∷◌, ◌++◌, ◌↔◌}
use Rattle.laws.specs.Lists.{Every, last, Linked}
use Rattle.records.specs.declared.Hull.{Hull}
use Rattle.records.specs.declared.RowHead.{RowHead}
use Rattle.casefile.specs.Record.{Row}
use Rattle.casefile.specs.Valid.{SameGroup, LaterGroup, AtTop, BelowTop, Ordered}

-- rows of one group at one b, from the lowest up
pub record Layer : Type 0 where
  pub lowest : Row
  pub above : List Row

-- layers of one group, from the outermost in
pub record Group : Type 0 where
  pub outer : Layer
  pub inner : List Layer

abbrev pub layer_rows : Layer → List Row
layer_rows l = l.lowest ∷ l.above

abbrev pub rows_of_layers : List Layer → List Row
rows_of_layers [] = []
rows_of_layers (l ∷ ls) = layer_rows l ++ rows_of_layers ls

abbrev pub group_rows : Group → List Row
group_rows g = layer_rows g.outer ++ rows_of_layers g.inner

abbrev pub all_rows : List Group → List Row
all_rows [] = []
all_rows (g ∷ gs) = group_rows g ++ all_rows gs

-- what a layer and a group are told by: the head of their first row
abbrev pub layer_head : Layer → RowHead
layer_head l = l.lowest.head

abbrev pub group_head : Group → RowHead
group_head g = layer_head g.outer

abbrev pub SameLayer : RowHead → RowHead → Type 0
SameLayer r s = SameGroup r s × (s.depth ≡ r.depth)

-- inside a layer, H rises and ends with the first row at or above the top
pub record LayerFits (h : Hull) (l : Layer) : Type 0 where
  pub one : Every (λ (r : Row). SameLayer (layer_head l) r.head) l.above
  pub rises : Linked (λ (x : Row) (y : Row). x.head.height < y.head.height) l.lowest l.above
  pub below : Linked (λ (x : Row) (y : Row). BelowTop h x.head) l.lowest l.above
  pub ends : AtTop h (last l.lowest l.above).head

-- inside a group, layers by rising b, the last at B/2
pub record GroupFits (h : Hull) (g : Group) : Type 0 where
  pub first : LayerFits h g.outer
  pub others : Every (LayerFits h) g.inner
  pub one : Every (λ (l : Layer). SameGroup (group_head g) (layer_head l)) g.inner
  pub rises : Linked (λ (k : Layer) (l : Layer). (layer_head k).depth < (layer_head l).depth) g.outer g.inner
  pub ends : (layer_head (last g.outer g.inner)).depth ≡ h.breadth / 2

-- groups by a, then n, none twice
abbrev pub GroupsRise : List Group → Type 0
GroupsRise [] = Unit {0}
GroupsRise (g ∷ gs) = Linked (λ (x : Group) (y : Group). LaterGroup (group_head x) (group_head y)) g gs

pub record Grouped (h : Hull) (rs : List Row) : Type 0 where
  pub groups : List Group
  pub rows : all_rows groups ≡ rs
  pub fit : Every (GroupFits h) groups
  pub order : GroupsRise groups

abbrev pub OrderInWords : Type 0
OrderInWords = (h : Hull) (rs : List Row) → Ordered h rs ↔ Grouped h rs
