-- The lines of an accepted file say its case: the hull, each row, and the end with their count. Assumes nothing.
use Prim.Native.Nat.{ℕ, suc, ◌+◌}
use mathlib.Core.Path.{◌≡◌, refl, sym, ◌∙◌, ap}
use mathlib.Core.Bool.{Bool, true, false}
use mathlib.Core.List.{List, [], ◌∷◌}
use native.Mathlib.Nat.{add-zero, zero-add}
use native.Mathlib.Omega.{arith}
use lib.ListN.{length}
use Rattle.records.specs.declared.Hull.{Hull}
use Rattle.lines.specs.Lines.{Line, lines}
use Rattle.hexadecimal.specs.Hex.{pairs}
use Rattle.casefile.specs.Judged.{Frame, FirstLine}
use Rattle.casefile.specs.declared.Progress.{Progress}
use Rattle.casefile.specs.Record.{Row, Case}
use Rattle.casefile.specs.Layout.{kind_of, fields_of, is_row, hull_of, row_of, count_of}
use Rattle.casefile.specs.Table.{first_holds, line_checks}
use Rattle.casefile.specs.Reading.{accepted, begin, inside, start, with_row, with_end, read_from}
use Rattle.casefile.specs.Answer.{values_of, none}
use Rattle.casefile.specs.Acceptance.{values_from, row_values, values_after, case_values, LinesSayTheCase}
use Rattle.casefile.proofs.Checks.{line_of_end}
use Rattle.casefile.proofs.Steps.{not_too_long}
use Rattle.casefile.proofs.LineJudging.{first_passes, row_judged_lem, end_judged_lem}
use Rattle.casefile.proofs.Soundness.{not_accepted, with_row_lem, passes, rest_accepted, ended, accounts, sound}

rows_say : (ls : List Line) (h : Hull) (p : Progress) (n : ℕ) (c : Case) → p.ended ≡ false → read_from (inside h p) n ls ≡ accepted c →
    values_from (inside h p) ls ≡ values_after c.rows (p.rows + length c.rows)
unfolding read_from values_from
rows_say [] h p n c t e = not_accepted 10 n c (rw t at e)
rows_say (l ∷ ls) h p n c t e = by (is_row (kind_of (pairs l.text))) refl (λ r d g. rows_say ls h (with_row p r) (n + 1) d refl g)
  where
    bytes : List ℕ
    bytes = pairs l.text

    passed : first_holds (line_checks h p l) ≡ 0
    passed = passes (inside h p) n l ls c e

    by : (k : Bool) → is_row (kind_of bytes) ≡ k →
        ((r : Row) (d : Case) → read_from (inside h (with_row p r)) (n + 1) ls ≡ accepted d → values_from (inside h (with_row p r)) ls ≡ values_after d.rows (p.rows + 1 + length d.rows)) →
        values_from (inside h p) (l ∷ ls) ≡ values_after c.rows (p.rows + length c.rows)
    by true k ih =
        let (d, a, b) = with_row_lem (row_of bytes) (read_from (inside h (with_row p (row_of bytes))) (n + 1) ls) c (rw k at (rest_accepted (inside h p) n l ls c e)) in
        let m : p.rows + 1 + length d.rows ≡ p.rows + suc (length d.rows) = omega arith in
        rw (k, row_judged_lem h p l passed k, ← b) (ap (row_values (row_of bytes) ∷◌) (rw m at (ih (row_of bytes) d a)))
    by false k ih =
        let (last, b) = ended h (with_end p) (n + 1) ls c refl (rw k at (rest_accepted (inside h p) n l ls c e)) in
        let count : count_of bytes ≡ p.rows = (line_of_end h p l passed k).1.counts in
        rw (k, end_judged_lem h p l passed k, last, b, count, add-zero p.rows) refl

whole : (ls : List Line) (c : Case) → read_from begin 1 ls ≡ accepted c → values_from begin ls ≡ case_values c
unfolding read_from values_from
whole [] c e = not_accepted 10 1 c e
whole (l ∷ ls) c e =
    let h : Hull = hull_of (kind_of (pairs l.text)) (fields_of (pairs l.text)) in
    let after = rest_accepted begin 1 l ls c e in
    let rest : values_from (inside h start) ls ≡ values_after c.rows (0 + length c.rows) = rows_say ls h start 2 c refl after in
    ap (λ (a : FirstLine). values_of a.hull none a.frame ∷ values_from (inside h start) ls) (first_passes l (passes begin 1 l ls c e))
    ∙ ap (values_of h none Frame.Hull ∷◌) rest
    ∙ rw (zero-add (length c.rows), (accounts ls h start 2 c refl (omega arith) after).hull) refl

pub lines_say_the_case : LinesSayTheCase
lines_say_the_case f c e = whole (lines f) c (sym (not_too_long f (sound f c e).0) ∙ e)
