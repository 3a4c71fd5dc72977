-- What is written into a lent buffer is the printed answer of any file, by its judgement. Assumes nothing.
use Prim.Native.Nat.{ℕ, ◌+◌, ◌*◌, ◌≤◌, ◌<◌}
use mathlib.Core.Path.{◌≡◌, refl, sym, ◌∙◌, ap}
use mathlib.Core.List.{List}
use native.Mathlib.Omega.{arith}
use lib.ListN.{length}
use Rattle.std.specs.Prelude.{Option, Some, None}
use Rattle.hexadecimal.specs.Hex.{line_of}
use Rattle.digits.specs.Splice.{splice}
use Rattle.records.specs.declared.Answer.{Answer}
use Rattle.records.specs.declared.Hull.{Hull}
use Rattle.casefile.specs.Judged.{Judgement}
use Rattle.casefile.specs.Record.{Case}
use Rattle.casefile.specs.Reading.{Reading, refused, accepted, reading}
use Rattle.casefile.specs.Answer.{judgement_of}
use Rattle.casefile.specs.Kept.{kept_rows, Keeps}
use Rattle.casefile.proofs.Kept.{length_kept}
use Rattle.printing.specs.Printed.{refusal_frame, figures_frame, row_lines, printed, printed_length}
use Rattle.printing.specs.Written.{length_in, written_in}
use Rattle.printing.proofs.Whole.{length_printed, rows_then_figures}
use Rattle.printing.proofs.Written.{too_little, enough}
use Rattle.rows.specs.Standing.{nowhere}
use Rattle.rows.specs.Work.{lines_from}
use Rattle.answers.specs.Answer.{figures, answer}
use Rattle.answers.specs.Report.{lines_in, report}
use Rattle.answers.proofs.Prints.{length_lines, report_refused, report_accepted}
use Rattle.index.specs.Kept.{kept_case}
use Rattle.index.proofs.Accepted.{known_case, few_rows}

-- ---- a case as it is kept: the rows' lines are put first, then that of the figures in front

no_number : (c : Case) → (answer c).number ≡ 0
unfolding answer figures
no_number c = refl

pub lines_then_figures : (kept : List ℕ) (h : Hull) (rows : ℕ) (out : List ℕ) {a : Answer} {ys zs : List ℕ} → a ≡ answer (kept_case kept h rows) →
    ys ≡ splice 69 (row_lines (lines_from h nowhere (kept_rows rows kept 0))) out → zs ≡ splice 0 (line_of (figures_frame a)) ys →
    zs ≡ splice 0 (printed (answer (kept_case kept h rows)) (lines_in (accepted (kept_case kept h rows)))) out
unfolding lines_in
lines_then_figures kept h rows out e p q = rows_then_figures (answer (kept_case kept h rows)) (lines_from h nowhere (kept_rows rows kept 0)) (no_number (kept_case kept h rows)) out p (rw e at q)

-- ---- a refused file

pub refusal_printed : (r : Reading) (out : List ℕ) {j : Judgement} {n : Option ℕ} {after : List ℕ} → j ≡ judgement_of r → (j.number ≡ 0 → ⊥) →
    (n ≡ length_in (line_of (refusal_frame j.number j.line)) out) × (after ≡ written_in (line_of (refusal_frame j.number j.line)) out) →
    (n ≡ length_in (report r) out) × (after ≡ written_in (report r) out)
refusal_printed (refused k l) out {j} e some (p, q) =
    let same : line_of (refusal_frame j.number j.line) ≡ report (refused k l) =
    rw e (sym (report_refused k l (λ z. some (ap (λ (j : Judgement). j.number) e ∙ z)))) in
    (p ∙ ap (λ t. length_in t out) same, q ∙ ap (λ t. written_in t out) same)
refusal_printed (accepted c) out e some w = absurd (some (ap (λ (j : Judgement). j.number) e))

-- ---- an accepted file, whose rows are kept

module _ (f : List ℕ) {j : Judgement} (e : j ≡ judgement_of (reading f)) (z : j.number ≡ 0) (kept : List ℕ) (k : Keeps (reading f) kept) where
  abbrev case : Case
  case = kept_case kept j.hull j.rows

  as_many : length case.rows ≡ j.rows
  as_many = length_kept j.rows kept 0

  text_is : report (reading f) ≡ printed (answer case) (lines_in (accepted case))
  text_is = ap report (known_case f e z kept k) ∙ report_accepted case (omega (arith, as_many, few_rows f e z kept k))

  length_is : length (printed (answer case) (lines_in (accepted case))) ≡ 69 + 25 * j.rows
  unfolding answer figures lines_in printed_length
  length_is = length_printed (answer case) (lines_in (accepted case)) (length_lines case.hull nowhere case.rows) ∙ ap (λ n. 69 + 25 * n) as_many

  pub report_too_long : (out : List ℕ) → length out < 69 + 25 * j.rows → (None ≡ length_in (report (reading f)) out) × (out ≡ written_in (report (reading f)) out)
  report_too_long out l = rw text_is (too_little _ out length_is l)

  pub report_written : (out : List ℕ) → 69 + 25 * j.rows ≤ length out → {after : List ℕ} → after ≡ splice 0 (printed (answer case) (lines_in (accepted case))) out →
      (Some (69 + 25 * j.rows) ≡ length_in (report (reading f)) out) × (after ≡ written_in (report (reading f)) out)
  report_written out l p = rw text_is (enough _ out length_is l p)
