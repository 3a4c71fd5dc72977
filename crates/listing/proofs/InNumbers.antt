-- The rows as numbers, row by row: twenty each. Assumes nothing.
use Prim.Native.Nat.{ℕ, ◌+◌, ◌-◌, ◌*◌, ◌≤◌, ◌<◌}
use mathlib.Core.Path.{◌≡◌, refl, sym, ◌∙◌, ap, subst}
use mathlib.Core.List.{List, [], ◌∷◌, ◌++◌, append_assoc}
use native.Mathlib.Omega.{arith}
use lib.ListN.{length, take, drop, length-append}
use lib.Seq.{sets, sets-eq, drop-drop}
use borrow.Rule.Slice.PartMut.{put_mid}
use Rattle.laws.proofs.Lists.{sets_append}
use Rattle.laws.proofs.Pieces.{pieces_below, piece_more, Put, put_none, put_more, put_all, put_in_front}
use Rattle.records.specs.declared.Ends.{Ends}
use Rattle.records.specs.declared.Hull.{Hull}
use Rattle.records.specs.declared.Survival.{Survival}
use Rattle.records.specs.Results.{Results}
use Rattle.solas.specs.Index.{draughts}
use Rattle.chances.specs.Share.{Few}
use Rattle.heights.specs.Height.{row_vs}
use Rattle.indices.specs.Index.{Share, RowWeights}
use Rattle.indices.proofs.Rows.{row_weights}
use Rattle.printing.specs.Marks.{mark_byte}
use Rattle.casefile.specs.Record.{Row}
use Rattle.casefile.specs.Kept.{kept_row}
use Rattle.casefile.proofs.Kept.{length_kept}
use Rattle.rows.specs.declared.Running.{Running}
use Rattle.rows.specs.declared.Standing.{Standing}
use Rattle.rows.specs.Standing.{nowhere, stands}
use Rattle.rows.specs.Work.{share_at}
use Rattle.rows.specs.Running.{entered, Stood}
use Rattle.rows.proofs.Stands.{head_is}
use Rattle.listing.specs.Rows.{six_numbers, draught_numbers, row_numbers, numbers_at, numbers_from}
-- checked first, so that a definition that tells other numbers is refused there
use Rattle.listing.proofs.Values.{four_rows}
use Rattle.rows.proofs.InTurn.{left, all, all_left, one_of_them, none_left, Reached, row, there, may_stand, stands_there, part_there, survivals_there}

-- ---- how many they are
pub length_row : (share : Ends) (vs : List ℕ) (ss : List Survival) → length (row_numbers share vs ss) ≡ 20
unfolding row_numbers six_numbers
length_row share vs ss = refl

pub length_at : (h : Hull) (y : Standing) (rs : Results) → length (numbers_at h y rs) ≡ 20
unfolding numbers_at
length_at h y rs = length_row _ _ _

pub length_from : (h : Hull) (y : Standing) (rs : List Row) → length (numbers_from h y rs) ≡ 20 * length rs
unfolding numbers_from
length_from h y [] = refl
length_from h y (r ∷ rs) =
    let z = stands y r.head in
    rw length-append (omega (arith, length_at h z r.results, length_from h z rs))

-- ---- how they are written
-- the six at a draught
pub six_told : (v : ℕ) (s : Survival) (adds : Ends) {n : ℕ} {e : Ends} → e ≡ adds → n ≡ mark_byte s.marks → v ∷ s.bottom ∷ s.top ∷ n ∷ e.lower ∷ e.upper ∷ [] ≡ six_numbers v s adds
unfolding six_numbers
six_told v s adds p q = rw (p, q) refl

-- k numbers, copied to their place
pub copied : (at k : ℕ) (xs ys : List ℕ) {new : List ℕ} → length ys ≡ k → at + k ≤ length xs → new ≡ ys → put_mid at (at + k - at) xs new ≡ sets xs at ys
copied at k xs ys l h e =
    let n : at + k - at ≡ length ys = omega (arith, l) in
    rw (n, e, drop-drop (length ys) at xs, ← append_assoc (take at xs) ys (drop (at + length ys) xs)) (sym (sets-eq ys xs at (omega (arith, l))))

-- two, and six after six
module _ (share : Ends) (vs : List ℕ) (ss : List Survival) (at : ℕ) where
  abbrev six : ℕ → List ℕ
  six = draught_numbers share vs ss

  pub draught_more : (ws : List ℕ) (j : ℕ) {ys zs : List ℕ} → ys ≡ sets ws (at + 2) (pieces_below six j) → zs ≡ sets ys (at + 2 + 6 * j) (six j) →
      zs ≡ sets ws (at + 2) (pieces_below six (j + 1))
  unfolding six_numbers
  draught_more ws j p q = piece_more six 6 (λ k. refl) ws (at + 2) j (at + 2 + 6 * j) refl p q

  pub row_put : (xs : List ℕ) {j : ℕ} {ws ds : List ℕ} → ws ≡ sets xs at (share.lower ∷ share.upper ∷ []) → j ≡ 3 →
      ds ≡ sets ws (at + 2) (pieces_below six j) → ds ≡ sets xs at (row_numbers share vs ss)
  unfolding row_numbers pieces_below
  row_put xs p e q = rw e at q ∙ rw p (sym (sets_append xs at (share.lower ∷ share.upper ∷ []) (six 0 ++ six 1 ++ six 2)))

-- with v as it was worked out
pub row_put_with : (share : Ends) (ss : List Survival) (at : ℕ) (xs : List ℕ) {vs ws ys : List ℕ} → ys ≡ sets xs at (row_numbers share vs ss) → vs ≡ ws → ys ≡ sets xs at (row_numbers share ws ss)
row_put_with share ss at xs p e = p ∙ rw e refl

-- ---- the row that was entered last
module _ (h : Hull) (kept : List ℕ) (rows : ℕ) (s : Running) (i : ℕ) (g : Reached h kept rows s i) (more : i < rows) where
  module _ (ready : (y : Standing) → Stood h y → Share (share_at h y)) {t : Running} (after : t ≡ entered h s (row h kept rows s i g more).head (row h kept rows s i g more).results) (still : Few t.part.group) where
    abbrev place : Standing
    place = there h kept rows s i g more

    pub may_put : (ds : List ℕ) → Share t.part.share × RowWeights (row_vs t.standing.below t.standing.head.height ds) t.survivals
    may_put ds = (
      rw (part_there h kept rows s i g more ready after still) (ready place (may_stand h kept rows s i g more).0),
      rw (survivals_there h kept rows s i g more ready after still) (row_weights t.standing.below t.standing.head.height ds (kept_row kept i).head.kind (may_stand h kept rows s i g more).1),
    )

    pub numbers_there : {ds : List ℕ} → ds ≡ draughts h.deepest h.light →
        row_numbers t.part.share (row_vs t.standing.below t.standing.head.height ds) t.survivals ≡ numbers_at h place (kept_row kept i).results
    unfolding numbers_at
    numbers_there e =
        rw (part_there h kept rows s i g more ready after still, survivals_there h kept rows s i g more ready after still, stands_there h kept rows s i g more ready after still, e, head_is s.standing (kept_row kept i).head) refl

module _ (h : Hull) (kept : List ℕ) (rows : ℕ) (first : List ℕ) where
  abbrev whole : List ℕ
  whole = numbers_from h nowhere (all kept rows)

  -- after i rows, the last of which stood at y
  abbrev pub InNumbers : List ℕ → Standing → ℕ → Type 0
  InNumbers out y i = Put 20 0 first whole out (numbers_from h y (left kept rows i)) i

  pub no_number : {y : Standing} → y ≡ nowhere → InNumbers first y 0
  no_number e = rw (e, all_left kept rows) (put_none 20 0 first whole)

  pub twenty_more : (y : Standing) (i : ℕ) {out next piece : List ℕ} {z : Standing} → InNumbers out y i → i < rows → z ≡ stands y (kept_row kept i).head →
      next ≡ sets out (20 * i) piece → piece ≡ numbers_at h (stands y (kept_row kept i).head) (kept_row kept i).results → InNumbers next z (i + 1)
  unfolding numbers_from
  twenty_more y i {out} p more there put e =
      let row = kept_row kept i in
      let z = stands y row.head in
      let place : 0 + 20 * i ≡ 20 * i = omega arith in
      rw there
      (put_more 20 0 first whole (numbers_at h z row.results)
      (subst (λ rs. Put 20 0 first whole out (numbers_from h y rs) i) (one_of_them kept rows i more) p)
      (length_at h z row.results) (put ∙ rw (e, place) refl))

  pub all_numbers : (y : Standing) (i : ℕ) {out : List ℕ} → InNumbers out y i → rows ≤ i → 20 * rows ≤ length first → out ≡ whole ++ drop (20 * rows) first
  unfolding numbers_from
  all_numbers y i {out} p last room =
      put_in_front first whole
      (put_all 20 0 first whole (subst (λ rs. Put 20 0 first whole out (numbers_from h y rs) i) (none_left kept rows i last) p))
      (length_from h nowhere (all kept rows) ∙ ap (λ k. 20 * k) (length_kept rows kept 0))
      room
