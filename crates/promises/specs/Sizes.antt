-- What a host may lend once and for all: a buffer, a sheet and room for the rows that serve every input. Assumes nothing.
use Rattle.std.specs.Prelude.{ℕ, ◌≤◌, ◌≡◌, List, length}
use Rattle.casefile.specs.Record.{Case}
use Rattle.casefile.specs.Reading.{accepted, reading}
use Rattle.answers.specs.Answer.{answer, answered}
use Rattle.answers.specs.Report.{report, rows_in}

-- bytes of a refusal's line, and of the answer of 500 rows
abbrev pub shortest_report : ℕ
shortest_report = 9

abbrev pub longest_report : ℕ
longest_report = 12569

-- numbers of a sheet for 500 rows
abbrev pub longest_sheet : ℕ
longest_sheet = 1000

-- no printed answer is shorter or longer than these, so that 0 bytes written can only mean too short a buffer
abbrev pub ReportsFit : Type 0
ReportsFit = (f : List ℕ) → (shortest_report ≤ length (report (reading f))) × (length (report (reading f)) ≤ longest_report)

-- numbers of 500 rows, twenty each
abbrev pub longest_rows : ℕ
longest_rows = 10000

-- no file has more, so that as many are enough for every input
abbrev pub RowsFit : Type 0
RowsFit = (f : List ℕ) → length (rows_in (reading f)) ≤ longest_rows

-- such a sheet is never too short
abbrev pub SheetsServe : Type 0
SheetsServe = (f : List ℕ) (c : Case) → reading f ≡ accepted c → (size : ℕ) → longest_sheet ≤ size → answered (reading f) size ≡ answer c
