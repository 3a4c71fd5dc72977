-- The layers of a case's groups in turn: they have its rows, each fits and goes deeper than the one before it in its group, and each begins where
-- it is said to. Assumes nothing.
use Prim.Native.Nat.{ℕ, ◌<◌}
use mathlib.Core.Path.{◌≡◌, refl, sym, ◌∙◌, ap, ap₂, subst}
use mathlib.Core.Bool.{false}
use mathlib.Core.List.{List, [], ◌∷◌, ◌++◌, append_assoc}
use native.Mathlib.Omega.{arith}
use borrow.Author.Tests.{ne_eqb}
use Rattle.laws.specs.Lists.{Every, Linked}
use Rattle.laws.proofs.Every.{last_has, every_parts, every_joined}
use Rattle.laws.proofs.Tests.{holds}
use Rattle.records.specs.declared.Hull.{Hull}
use Rattle.records.specs.declared.RowHead.{RowHead}
use Rattle.casefile.specs.Record.{Row}
use Rattle.casefile.specs.Limits.{row_fits}
use Rattle.casefile.specs.Order.{same_group}
use Rattle.casefile.specs.Valid.{SameGroup, LaterGroup, ValidRow}
use Rattle.casefile.specs.Groups.{Layer, Group, layer_rows, rows_of_layers, group_rows, all_rows, layer_head, group_head, SameLayer, LayerFits, GroupFits, GroupsRise}
use Rattle.casefile.proofs.Limits.{Head, row_is}
use Rattle.casefile.proofs.Order.{is_same, not_same}
use Rattle.casefile.proofs.Groups.{same_group_lem, later_of}
use Rattle.rows.specs.declared.Standing.{Standing}
use Rattle.rows.specs.Standing.{nowhere, stands}
use Rattle.rows.proofs.Stands.{in_group, in_next_layer, in_new_group}
use Rattle.promises.specs.Sums.{LayerAfter, inward, layers_of}
use Rattle.promises.proofs.LayerSums.{rows_in, top_of, Begins, Next, Sits}

-- ---- the rows are the groups' rows
rows_joined : (ls ms : List LayerAfter) → rows_in (ls ++ ms) ≡ rows_in ls ++ rows_in ms
rows_joined [] ms = refl
rows_joined (l ∷ ls) ms =
    ap (λ rs. layer_rows l.layer ++ rs) (rows_joined ls ms) ∙ sym (append_assoc (layer_rows l.layer) (rows_in ls) (rows_in ms))

rows_inward : (b' : ℕ) (ls : List Layer) → rows_in (inward b' ls) ≡ rows_of_layers ls
rows_inward b' [] = refl
rows_inward b' (l ∷ ls) = ap (λ rs. layer_rows l ++ rs) (rows_inward (layer_head l).depth ls)

pub rows_are : (gs : List Group) → rows_in (layers_of gs) ≡ all_rows gs
rows_are [] = refl
rows_are (g ∷ gs) = rows_joined (inward 0 (g.outer ∷ g.inner)) (layers_of gs) ∙ ap₂ ◌++◌ (rows_inward 0 (g.outer ∷ g.inner)) (rows_are gs)

-- ---- how a row of another layer stands, after one whose head is that of the last row of layer k
module _ (z : Standing) (t k m : RowHead) (e : z.head ≡ t) (s : SameLayer k t) where
  at_head : SameLayer k z.head
  at_head = subst (λ r. SameLayer k r) (sym e) s

  in_deeper : SameGroup k m → k.depth < m.depth → record { head = m; before = k.depth; below = 0 } ≡ stands z m
  unfolding same_group
  in_deeper g l =
      subst (λ b. record { head = m; before = b; below = 0 } ≡ stands z m) at_head.1
      (in_next_layer z m (is_same z.head m (same_group_lem k z.head m at_head.0 g)) (λ d. omega (arith, l, d, at_head.1)))

  in_later : LaterGroup k m → record { head = m; before = 0; below = 0 } ≡ stands z m
  unfolding same_group
  in_later l = in_new_group z m (not_same z.head m (later_of k z.head m at_head.0 l))

module _ (h : Hull) (K : Row → Type 0) where
  abbrev Fine : Row → Type 0
  Fine r = ValidRow h r × K r

  head_of : (r : Row) → ValidRow h r → Head h r.head
  head_of r v = (row_is h r (holds (row_fits h r) v.limits)).0

  -- ---- each fits
  sit_inward : (b' : ℕ) (l : Layer) (ls : List Layer) → b' < (layer_head l).depth → LayerFits h l → Every (LayerFits h) ls →
      Linked (λ (k : Layer) (m : Layer). (layer_head k).depth < (layer_head m).depth) l ls →
      Every Fine (rows_of_layers (l ∷ ls)) → Every (Sits h K) (inward b' (l ∷ ls))
  sit_inward b' l [] d f fs up v = (record { fits = f; deeper = d; rows = (every_parts Fine (layer_rows l) [] v).0 }, tt)
  sit_inward b' l (m ∷ ls) d f fs up v =
      let (here, others) = every_parts Fine (layer_rows l) (rows_of_layers (m ∷ ls)) v in
      (record { fits = f; deeper = d; rows = here }, sit_inward (layer_head l).depth m ls up.0 fs.0 fs.1 up.1 others)

  pub all_sit : (gs : List Group) → Every (GroupFits h) gs → Every Fine (all_rows gs) → Every (Sits h K) (layers_of gs)
  all_sit [] f v = tt
  all_sit (g ∷ gs) f v =
      let (here, others) = every_parts Fine (group_rows g) (all_rows gs) v in
      let some : 0 < (group_head g).depth = omega (arith, (head_of g.outer.lowest here.0.0).shallowest) in
      every_joined (Sits h K) (inward 0 (g.outer ∷ g.inner)) (layers_of gs)
      (sit_inward 0 g.outer g.inner some f.0.first f.0.others f.0.rises here) (all_sit gs f.1 others)

  -- ---- each begins where it is said to
  top_same : (l : Layer) (b' : ℕ) → LayerFits h l → SameLayer (layer_head l) (top_of (record { before = b'; layer = l })).head
  top_same l b' f = last_has (λ (x : Row). SameLayer (layer_head l) x.head) l.lowest l.above ((refl, refl), refl) f.one

  abbrev InTurn : LayerAfter → List LayerAfter → Type 0
  InTurn l ls = Linked (λ (a : LayerAfter) (b : LayerAfter). Next (top_of a).head b) l ls

  -- the layers after l in the group of k, and then others
  in_group_lem : (k : RowHead) (b' : ℕ) (l : Layer) (ls : List Layer) (others : List LayerAfter) → SameGroup k (layer_head l) → LayerFits h l →
      Every (LayerFits h) ls → Every (λ (m : Layer). SameGroup k (layer_head m)) ls →
      Linked (λ (k : Layer) (m : Layer). (layer_head k).depth < (layer_head m).depth) l ls →
      ((b : ℕ) (m : Layer) → SameGroup k (layer_head m) → LayerFits h m → InTurn (record { before = b; layer = m }) others) →
      InTurn (record { before = b'; layer = l }) (inward (layer_head l).depth ls ++ others)
  in_group_lem k b' l [] others s f fs one up after = after b' l s f
  in_group_lem k b' l (m ∷ ls) others s f fs one up after = (
    λ z e. in_deeper z (top_of (record { before = b'; layer = l })).head (layer_head l) (layer_head m) e (top_same l b' f)
        (same_group_lem k (layer_head l) (layer_head m) s one.0) up.0,
    in_group_lem k (layer_head l).depth m ls others one.0 fs.0 fs.1 one.1 up.1 after,
  )

  abbrev FromShell : Group → List Group → Type 0
  FromShell g gs = InTurn (record { before = 0; layer = g.outer }) (inward (group_head g).depth g.inner ++ layers_of gs)

  pub in_turn : (g : Group) (gs : List Group) → Every (GroupFits h) (g ∷ gs) → GroupsRise (g ∷ gs) → FromShell g gs
  in_turn g [] f o =
      in_group_lem (group_head g) 0 g.outer g.inner [] (refl, refl) f.0.first f.0.others f.0.one f.0.rises (λ b m s k. tt)
  in_turn g (x ∷ gs) f o =
      in_group_lem (group_head g) 0 g.outer g.inner (layers_of (x ∷ gs)) (refl, refl) f.0.first f.0.others f.0.one f.0.rises
      (λ b m s k. (
        λ z e. in_later z (top_of (record { before = b; layer = m })).head (layer_head m) (group_head x) e (top_same m b k)
            (later_of (group_head g) (layer_head m) (group_head x) s o.0),
        in_turn x gs f.1 o.1,
      ))

  pub first_begins : (g : Group) (gs : List Group) → Every Fine (all_rows (g ∷ gs)) → Begins nowhere (record { before = 0; layer = g.outer })
  first_begins g gs v =
      let some = (head_of g.outer.lowest v.0.0).first in
      let first : in_group nowhere (group_head g) ≡ false = rw (ne_eqb (group_head g).first 0 (λ e. omega (arith, some, e))) refl in
      in_new_group nowhere (group_head g) first
