-- The answer of a case and of any input, and the sheet afterwards: document 01, "Height and survival" and "The case file". Assumes nothing.
use Rattle.std.specs.Prelude.{ℕ, ◌*◌, cond, List, [], ◌∷◌, ◌++◌, length, drop, ltb}
use Rattle.records.specs.declared.Answer.{Answer}
use Rattle.records.specs.declared.Ends.{Ends}
use Rattle.records.specs.declared.Hull.{Hull}
use Rattle.records.specs.Ends.{no_ends}
use Rattle.numbers.specs.Ratio.{ratio_of}
use Rattle.indices.specs.Index.{partials, attained_of}
use Rattle.verdicts.specs.Required.{required_of, mark_of}
use Rattle.verdicts.specs.Verdict.{verdict_of}
use Rattle.casefile.specs.Record.{Case}
use Rattle.casefile.specs.Reading.{Reading, refused, accepted}
use Rattle.rows.specs.Standing.{nowhere}
use Rattle.rows.specs.Work.{shares_from, adds_from, numbers}

-- ---- a case

-- As, Ap, Al
unfoldable pub partials_of : Case → List Ends
partials_of c = partials (adds_from c.hull nowhere c.rows)

-- A, the verdict, and the partial indices that they come from, for a hull and so many rows
unfoldable pub figures : Hull → ℕ → List Ends → Answer
figures h rows ps =
    record {
      number = 0;
      line = 0;
      verdict = verdict_of (attained_of ps) ps (ratio_of (required_of h)) (ratio_of (mark_of h));
      rows = rows;
      attained = attained_of ps;
      partials = ps;
    }

unfoldable pub answer : Case → Answer
answer c = figures c.hull (length c.rows) (partials_of c)

unfoldable pub shares : Case → List ℕ
shares c = numbers (shares_from c.hull nowhere c.rows)

-- ---- any input, and a sheet of so many numbers

abbrev pub zeros : List Ends
zeros = no_ends ∷ no_ends ∷ no_ends ∷ []

-- "A refusal returns number and line, zeros otherwise"
abbrev pub refusal : ℕ → ℕ → Answer
refusal k l = record { number = k; line = l; verdict = 0; rows = 0; attained = no_ends; partials = zeros }

-- 11: "sheet shorter than 2 numbers a row", judged last, line 0
unfoldable pub answered : Reading → ℕ → Answer
answered (refused k l) size = refusal k l
answered (accepted c) size = cond (ltb size (2 * length c.rows)) (refusal 11 0) (answer c)

-- "Acceptance writes each row's share, lower then upper, in row order; the rest of the sheet stays"
unfoldable pub sheet_after : Reading → List ℕ → List ℕ
sheet_after (refused k l) sheet = sheet
sheet_after (accepted c) sheet = cond (ltb (length sheet) (2 * length c.rows)) sheet (shares c ++ drop (2 * length c.rows) sheet)
