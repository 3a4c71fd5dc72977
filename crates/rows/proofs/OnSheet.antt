-- The sheet, row by row: two numbers each, the ends of its share. Assumes nothing.
use Prim.Native.Nat.{ℕ, ◌+◌, ◌*◌, ◌≤◌, ◌<◌}
use mathlib.Core.Path.{◌≡◌, refl, ◌∙◌, ap, subst}
use mathlib.Core.List.{List, [], ◌∷◌, ◌++◌}
use native.Mathlib.Numerals.{add-one}
use native.Mathlib.Omega.{arith}
use lib.ListN.{length, drop, set}
use Rattle.laws.proofs.Pieces.{Put, put_none, put_more, put_all, put_in_front}
use Rattle.records.specs.declared.Hull.{Hull}
use Rattle.casefile.specs.Record.{Row}
use Rattle.casefile.specs.Kept.{kept_row}
use Rattle.casefile.proofs.Kept.{length_kept}
use Rattle.rows.specs.declared.Part.{Part}
use Rattle.rows.specs.declared.Standing.{Standing}
use Rattle.rows.specs.Standing.{nowhere, stands}
use Rattle.rows.specs.Work.{share_at, part_at, shares_from, numbers}
use Rattle.rows.proofs.InTurn.{left, all, all_left, one_of_them, none_left}

pub length_numbers : (h : Hull) (y : Standing) (rs : List Row) → length (numbers (shares_from h y rs)) ≡ 2 * length rs
unfolding shares_from
length_numbers h y [] = refl
length_numbers h y (r ∷ rs) = omega (arith, length_numbers h (stands y r.head) rs)

module _ (h : Hull) (kept : List ℕ) (rows : ℕ) (first : List ℕ) where
  abbrev whole : List ℕ
  whole = numbers (shares_from h nowhere (all kept rows))

  -- after i rows, the last of which stood at y
  abbrev pub OnSheet : List ℕ → Standing → ℕ → Type 0
  OnSheet sheet y i = Put 2 0 first whole sheet (numbers (shares_from h y (left kept rows i))) i

  pub none_on_sheet : {y : Standing} → y ≡ nowhere → OnSheet first y 0
  none_on_sheet e = rw (e, all_left kept rows) (put_none 2 0 first whole)

  pub more_on_sheet : (y : Standing) (i : ℕ) {sheet next : List ℕ} {z : Standing} {part : Part} → OnSheet sheet y i → i < rows →
      z ≡ stands y (kept_row kept i).head → part ≡ part_at h (stands y (kept_row kept i).head) →
      next ≡ set (set sheet (2 * i) part.share.lower) (2 * i + 1) part.share.upper → OnSheet next z (i + 1)
  unfolding shares_from
  more_on_sheet y i {sheet} p more there part put =
      let share = share_at h (stands y (kept_row kept i).head) in
      let place : 0 + 2 * i ≡ 2 * i = omega arith in
      rw there
      (put_more 2 0 first whole (share.lower ∷ share.upper ∷ [])
      (subst (λ rs. Put 2 0 first whole sheet (numbers (shares_from h y rs)) i) (one_of_them kept rows i more) p)
      refl (put ∙ rw (part, place, add-one) refl))

  pub all_on_sheet : (y : Standing) (i : ℕ) {sheet : List ℕ} → OnSheet sheet y i → rows ≤ i → 2 * rows ≤ length first → sheet ≡ whole ++ drop (2 * rows) first
  unfolding shares_from
  all_on_sheet y i {sheet} p last room =
      put_in_front first whole
      (put_all 2 0 first whole (subst (λ rs. Put 2 0 first whole sheet (numbers (shares_from h y rs)) i) (none_left kept rows i last) p))
      (length_numbers h nowhere (all kept rows) ∙ ap (λ k. 2 * k) (length_kept rows kept 0))
      room
