-- A report's lines, row by row: 25 bytes each. Assumes nothing.
use Prim.Native.Nat.{ℕ, ◌+◌, ◌*◌, ◌≤◌, ◌<◌}
use mathlib.Core.Path.{◌≡◌, refl, ◌∙◌, subst}
use mathlib.Core.List.{List}
use Rattle.laws.proofs.Pieces.{Put, put_none, put_more, put_all}
use Rattle.records.specs.declared.Hull.{Hull}
use Rattle.records.specs.declared.Survival.{Survival}
use Rattle.hexadecimal.specs.Hex.{line_of}
use Rattle.digits.specs.Splice.{splice}
use Rattle.printing.specs.Printed.{row_frame, row_lines}
use Rattle.printing.proofs.Frames.{length_row_line}
use Rattle.survival.specs.Survival.{survivals_of}
use Rattle.casefile.specs.Kept.{kept_row}
use Rattle.rows.specs.declared.Part.{Part}
use Rattle.rows.specs.declared.Standing.{Standing}
use Rattle.rows.specs.Standing.{nowhere, stands}
use Rattle.rows.specs.Work.{part_at, line_at, lines_from}
use Rattle.rows.proofs.Stands.{head_is}
use Rattle.rows.proofs.InTurn.{left, all, all_left, one_of_them, none_left}

module _ (h : Hull) (kept : List ℕ) (rows from : ℕ) (first : List ℕ) where
  abbrev whole : List ℕ
  whole = row_lines (lines_from h nowhere (all kept rows))

  -- after i rows, the last of which stood at y
  abbrev pub InLines : List ℕ → Standing → ℕ → Type 0
  InLines out y i = Put 25 from first whole out (row_lines (lines_from h y (left kept rows i))) i

  pub no_line : {y : Standing} → y ≡ nowhere → InLines first y 0
  no_line e = rw (e, all_left kept rows) (put_none 25 from first whole)

  pub one_line_more : (y : Standing) (i : ℕ) {out next : List ℕ} {z : Standing} {part : Part} {ss : List Survival} → InLines out y i → i < rows →
      z ≡ stands y (kept_row kept i).head → part ≡ part_at h (stands y (kept_row kept i).head) → ss ≡ survivals_of (kept_row kept i).head.kind (kept_row kept i).results →
      next ≡ splice (from + 25 * i) (line_of (row_frame (record { share = part.share; survivals = ss }))) out → InLines next z (i + 1)
  unfolding lines_from row_lines splice
  one_line_more y i {out} p more there part ss put =
      let row = kept_row kept i in
      let line = line_at h (stands y row.head) row.results in
      rw there
      (put_more 25 from first whole (line_of (row_frame line))
      (subst (λ rs. Put 25 from first whole out (row_lines (lines_from h y rs)) i) (one_of_them kept rows i more) p)
      (length_row_line line) (put ∙ rw (part, ss, head_is y row.head) refl))

  pub all_lines : (y : Standing) (i : ℕ) {out : List ℕ} → InLines out y i → rows ≤ i → out ≡ splice from whole first
  unfolding lines_from row_lines splice
  all_lines y i {out} p last = put_all 25 from first whole (subst (λ rs. Put 25 from first whole out (row_lines (lines_from h y rs)) i) (none_left kept rows i last) p)
