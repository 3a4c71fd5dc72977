-- The sizes that serve every input: an accepted case has at most 500 rows. Assumes nothing.
use Prim.Native.Nat.{ℕ, ◌+◌, ◌*◌, ◌≤◌}
use mathlib.Core.Path.{◌≡◌, refl}
use mathlib.Core.Bool.{Bool, true, false, cond}
use mathlib.Core.List.{[]}
use native.Mathlib.Omega.{arith}
use lib.Dec.{eqb, ltb}
use lib.ListN.{length}
use borrow.Author.Tests.{le-ltb}
use Rattle.casefile.specs.Record.{Case}
use Rattle.casefile.specs.Reading.{Reading, refused, accepted, reading}
use Rattle.casefile.proofs.Soundness.{sound}
use Rattle.printing.specs.Printed.{printed_length}
use Rattle.printing.proofs.Whole.{length_printed}
use Rattle.rows.specs.Standing.{nowhere}
use Rattle.answers.specs.Answer.{figures, answer, refusal, answered}
use Rattle.answers.specs.Report.{lines_in, report, rows_in}
use Rattle.answers.proofs.Prints.{length_lines}
use Rattle.listing.proofs.InNumbers.{length_from}
use Rattle.promises.specs.Sizes.{shortest_report, longest_report, longest_sheet, longest_rows, ReportsFit, RowsFit, SheetsServe}

-- a sheet that is long enough for a case's shares
roomy : (c : Case) → length c.rows ≤ 500 → (size : ℕ) → longest_sheet ≤ size → answered (accepted c) size ≡ answer c
unfolding answered
roomy c few size h =
    let t : ltb size (2 * length c.rows) ≡ false = le-ltb size (2 * length c.rows) (omega arith) in
    rw t refl

pub sheets_serve : SheetsServe
sheets_serve f c e size h = rw e (roomy c (sound f c e).1.few size h)

-- ---- how long a printed answer is

of_refusal : (k l : ℕ) → (shortest_report ≤ length (report (refused k l))) × (length (report (refused k l)) ≤ longest_report)
unfolding report answered lines_in printed_length
of_refusal k l = by (eqb k 0) (length_printed (refusal k l) [] refl)
  where
    by : (b : Bool) {n : ℕ} → n ≡ cond b 69 9 → (shortest_report ≤ n) × (n ≤ longest_report)
    by true e = (omega (arith, e), omega (arith, e))
    by false e = (omega (arith, e), omega (arith, e))

of_case : (c : Case) → length c.rows ≤ 500 → length (report (accepted c)) ≡ 69 + 25 * length c.rows
unfolding report lines_in answer figures printed_length
of_case c few = rw (roomy c few 1000 (omega arith)) (length_printed (answer c) (lines_in (accepted c)) (length_lines c.hull nowhere c.rows))

pub reports_fit : ReportsFit
reports_fit f = by (reading f) (λ c e. (sound f c e).1.few)
  where
    by : (r : Reading) → ((c : Case) → r ≡ accepted c → length c.rows ≤ 500) → (shortest_report ≤ length (report r)) × (length (report r) ≤ longest_report)
    by (refused k l) few = of_refusal k l
    by (accepted c) few = let e = of_case c (few c refl) in let most : length c.rows ≤ 500 = few c refl in (omega (arith, e), omega (arith, e))

-- ---- and how many numbers its rows are

pub rows_fit : RowsFit
unfolding rows_in
rows_fit f = by (reading f) (λ c e. (sound f c e).1.few)
  where
    by : (r : Reading) → ((c : Case) → r ≡ accepted c → length c.rows ≤ 500) → length (rows_in r) ≤ longest_rows
    by (refused k l) few = omega arith
    by (accepted c) few = let most : length c.rows ≤ 500 = few c refl in omega (arith, length_from c.hull nowhere c.rows)
