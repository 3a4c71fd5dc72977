-- What is printed of any input can be read back: one byte holds a number, a verdict or a draught's marks, two a line, four an end; and whose marks they are. Assumes
-- nothing.
use Rattle.std.specs.Prelude.{ℕ, ◌≡◌, List, [], ◌∷◌}
use Rattle.records.specs.declared.Marks.{Marks}
use Rattle.survival.specs.Survival.{survival_at}
use Rattle.printing.specs.ReadBack.{figures, ends_of, Printable, told_by, read_back}
use Rattle.casefile.specs.Record.{Row, Case}
use Rattle.casefile.specs.Reading.{accepted, reading}
use Rattle.answers.specs.Answer.{answer, shares, answered}
use Rattle.answers.specs.Report.{lines_in, report}

abbrev pub EveryFigureFits : Type 0
EveryFigureFits = (f : List ℕ) → Printable (answered (reading f) 1000) (lines_in (reading f))

-- from the text of an input's answer its refusal's number and line, or its verdict, the ends of A, As, Ap, Al, those of the shares and the marks
abbrev pub PrintedReadsBack : Type 0
PrintedReadsBack = (f : List ℕ) → read_back (report (reading f)) ≡ told_by (answered (reading f) 1000) (lines_in (reading f))

-- a row's marks at draught j, 0 deepest, 1 partial, 2 light: of a cargo ship those of the result that counts there, of a passenger ship those of its final stage
abbrev pub result_marks : Row → ℕ → Marks
result_marks r j = (survival_at r.head.kind r.results j).marks

-- in row order
unfoldable pub marks_of_rows : List Row → List Marks
marks_of_rows [] = []
marks_of_rows (r ∷ rs) = result_marks r 0 ∷ result_marks r 1 ∷ result_marks r 2 ∷ marks_of_rows rs

-- of an accepted file: its verdict and indices, the shares that stand on the sheet, and those marks
abbrev pub ReportTellsMarks : Type 0
ReportTellsMarks = (f : List ℕ) (c : Case) → reading f ≡ accepted c → read_back (report (reading f)) ≡ figures (answer c).verdict (ends_of (answer c)) (shares c) (marks_of_rows c.rows)
