-- The printed answer of a refusal and of an accepted case, which a sheet of 1,000 numbers has room for; and that what is written lies in the buffer. Assumes
-- nothing.
use Prim.Native.Nat.{ℕ, ◌*◌, ◌≤◌}
use mathlib.Core.Path.{◌≡◌, refl, ◌∙◌, ap}
use mathlib.Core.Bool.{Bool, true, false, cond}
use mathlib.Core.List.{List, [], ◌∷◌, ◌++◌}
use native.Mathlib.Omega.{arith}
use lib.Dec.{leb, ltb}
use lib.ListN.{length, drop, length-append}
use borrow.Author.Tests.{le-ltb}
use Rattle.std.specs.Prelude.{Option, Some, None}
use Rattle.std.specs.Option.{unwrap_or}
use Rattle.records.specs.declared.Hull.{Hull}
use Rattle.hexadecimal.specs.Hex.{line_of}
use Rattle.casefile.specs.Record.{Row, Case}
use Rattle.casefile.specs.Reading.{refused, accepted}
use Rattle.printing.specs.Printed.{refusal_frame, printed}
use Rattle.printing.specs.Written.{length_in, written_in}
use Rattle.printing.proofs.Whole.{printed_refusal}
use Rattle.rows.specs.declared.Standing.{Standing}
use Rattle.rows.specs.Standing.{stands}
use Rattle.rows.specs.Work.{lines_from}
use Rattle.answers.specs.Answer.{answer, refusal, answered}
use Rattle.answers.specs.Report.{lines_in, report}
-- checked first, so that a definition that gives another number or another sheet is refused there
use Rattle.answers.proofs.Values.{figures_are, sheets_are}

-- ---- how many lines there are
pub length_lines : (h : Hull) (y : Standing) (rs : List Row) → length (lines_from h y rs) ≡ length rs
unfolding lines_from
length_lines h y [] = refl
length_lines h y (r ∷ rs) = omega (arith, length_lines h (stands y r.head) rs)

-- ---- what is printed
pub report_refused : (k l : ℕ) → (k ≡ 0 → ⊥) → report (refused k l) ≡ line_of (refusal_frame k l)
unfolding report answered lines_in
report_refused k l some = printed_refusal (refusal k l) [] some

pub report_accepted : (c : Case) → length c.rows ≤ 500 → report (accepted c) ≡ printed (answer c) (lines_in (accepted c))
unfolding report answered
report_accepted c few =
    let t : ltb 1000 (2 * length c.rows) ≡ false = le-ltb 1000 (2 * length c.rows) (omega arith) in
    rw t refl

-- ---- what is written lies in the buffer
pub written_fits : {A : Type 0} (text buffer : List A) {told : Option ℕ} {n : ℕ} {after : List A} → told ≡ length_in text buffer → n ≡ unwrap_or told 0 → after ≡ written_in text buffer → n ≤ length after
unfolding length_in written_in
written_fits text buffer {told} {n} {after} t k = by (leb (length text) (length buffer)) (k ∙ ap (λ told. unwrap_or told 0) t)
  where
    by : (b : Bool) → n ≡ unwrap_or (cond b (Some (length text)) None) 0 → after ≡ cond b (text ++ drop (length text) buffer) buffer → n ≤ length after
    by true e g = rw g (omega (arith, e, length-append text (drop (length text) buffer)))
    by false e g = omega (arith, e)
