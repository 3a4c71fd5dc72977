-- One row more: what the share, the adding and the sum ask, and that together they are what the row comes to. Assumes nothing.
use Prim.Native.Nat.{ℕ, ◌^◌}
use mathlib.Core.Path.{◌≡◌, refl, sym, ◌∙◌, ap, subst}
use mathlib.Core.List.{List}
use Rattle.records.specs.declared.Hull.{Hull}
use Rattle.records.specs.declared.Ends.{Ends}
use Rattle.records.specs.Results.{Results}
use Rattle.records.specs.declared.RowHead.{RowHead}
use Rattle.records.specs.declared.Survival.{Survival}
use Rattle.solas.specs.Index.{draughts}
use Rattle.chances.specs.Share.{Few}
use Rattle.heights.specs.Height.{row_vs}
use Rattle.survival.specs.Survival.{survivals_of}
use Rattle.indices.specs.Index.{plus, row_adds, Share, RowWeights, Given, Within}
use Rattle.indices.proofs.Rows.{row_weights}
use Rattle.casefile.specs.Record.{Row}
use Rattle.indices.proofs.Sums.{row_within}
use Rattle.rows.specs.declared.Standing.{Standing}
use Rattle.rows.specs.declared.Part.{Part}
use Rattle.rows.specs.declared.Running.{Running}
use Rattle.rows.specs.Standing.{stands}
use Rattle.rows.specs.Work.{part_at, adds_at}
use Rattle.rows.specs.Running.{entered, Stood, SharesFit}
use Rattle.rows.proofs.Stands.{head_is}

-- the row is kept, and its head is read from there
module _ (y : Standing) (kept : RowHead) {head : RowHead} {h : Hull} {z : Standing} (fit : SharesFit h) (there : Stood h (stands y kept)) (here : head ≡ kept)
    (next : z ≡ stands y head) where
  pub stood_there : Stood h z
  stood_there = subst (Stood h) (sym (next ∙ ap (stands y) here)) there

  pub part_asked : {part : Part} → part ≡ part_at h y → Few part.group → Stood h z × (part ≡ part_at h y) × Few part.group × (z ≡ stands y z.head)
  part_asked e few = (stood_there, e, few, next ∙ ap (stands y) (sym (ap (λ x. x.head) next ∙ head_is y head)))

  pub share_small : {part : Part} → part ≡ part_at h z → Share part.share
  share_small e = rw e (fit z stood_there)

pub adds_small : {share : Ends} {vs : List ℕ} {ss : List Survival} {adds : List Ends} → Share share → RowWeights vs ss → adds ≡ row_adds share vs ss → Within (10 ^ 9) adds
adds_small s w e = rw e (row_within s w)

-- what the sums ask: v and survival are at most one
pub weights : (below height kind : ℕ) (at : List ℕ) {rs : Results} {ss : List Survival} → Given rs → ss ≡ survivals_of kind rs → RowWeights (row_vs below height at) ss
weights below height kind at g e = rw e (row_weights below height at kind g)

pub row_entered : (h : Hull) (s : Running) (kept : Row) {head : RowHead} {z : Standing} {part : Part} {at : List ℕ} {ss : List Survival} {adds sums : List Ends} → head ≡ kept.head →
    z ≡ stands s.standing head → part ≡ part_at h z → at ≡ draughts h.deepest h.light → ss ≡ survivals_of kept.head.kind kept.results →
    adds ≡ row_adds part.share (row_vs z.below head.height at) ss → sums ≡ plus s.sums adds →
    record { standing = z; part = part; survivals = ss; sums = sums } ≡ entered h s kept.head kept.results
unfolding entered adds_at
row_entered h s kept e0 e1 e2 e3 e4 e5 e6 = rw (e6, e5, e4, e2, e3, e1, e0, head_is s.standing kept.head) refl
