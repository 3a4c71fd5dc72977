-- What the code's answers are by document 01: the refusal's number and line, and the values, of each. Assumes nothing.
use Rattle.std.specs.Prelude.{ℕ, ◌+◌, ◌-◌, ◌*◌, true, false, cond, ◌≡◌, List, [], ◌∷◌, ◌++◌, length, replicate, eqb}
use Rattle.laws.specs.Lists.{tabulate}
use Rattle.records.specs.declared.Hull.{Hull}
use Rattle.records.specs.Results.{Results, found}
use Rattle.lines.specs.Lines.{Line}
use Rattle.hexadecimal.specs.Hex.{pairs}
use Rattle.fields.specs.Fields.{byte_at, word_at, long_at}
use Rattle.casefile.specs.Judged.{Frame, FirstLine, Judgement}
use Rattle.casefile.specs.declared.Progress.{Progress}
use Rattle.casefile.specs.Layout.{kind_of, fields_of, is_row, hull_of, results_of, row_of, count_of, result_numbers, hull_values}
use Rattle.casefile.specs.Table.{first_holds, hull_checks, line_checks}
use Rattle.casefile.specs.Reading.{Reading, refused, accepted, Stage, begin, inside}

-- ---- a line, by document 01's numbers

-- the refusal's number, 0 where the line passes
abbrev pub number_of : Frame → ℕ
number_of Frame.Hull = 0
number_of (Frame.Row r) = 0
number_of (Frame.End count) = 0
number_of (Frame.Wrong k) = k

-- the kind and the fields after it, with what stands beside the frame, a hull and a row's results: 01 and 06: Ls, B, ds, dl, of 06 the persons and the rule, zone count,
-- inner bulkheads; 02, 03, 05, 07: a, n, b, H, and the results, each opening as its two bytes have it without a sign; 0f: row count
abbrev pub values_of : Hull → Results → Frame → List ℕ
values_of h rs Frame.Hull = hull_values h
values_of h rs (Frame.Row r) = r.kind ∷ r.first ∷ r.count ∷ r.depth ∷ r.height ∷ result_numbers r.kind rs
values_of h rs (Frame.End count) = 15 ∷ count ∷ []
values_of h rs (Frame.Wrong k) = []

-- ---- line 1, judged

abbrev pub no_hull : Hull
no_hull = record { kind = 0; length = 0; breadth = 0; deepest = 0; light = 0; lifeboats = 0; excess = 0; rule = 0; zones = 0; places = replicate 21 0 }

abbrev pub given_first : Hull → FirstLine
given_first h = record { frame = Frame.Hull; hull = h }

abbrev pub refused_first : ℕ → FirstLine
refused_first k = record { frame = Frame.Wrong k; hull = no_hull }

-- the hull, unless a check gives a number
abbrev pub unless_refused : ℕ → Hull → FirstLine
unless_refused k h = cond (eqb k 0) (given_first h) (refused_first k)

unfoldable pub first_judged : Line → FirstLine
first_judged l = let bs = pairs l.text in unless_refused (first_holds (hull_checks l)) (hull_of (kind_of bs) (fields_of bs))

-- ---- a line after the hull, judged

-- the frame of a line's bytes
unfoldable pub frame_of : List ℕ → Frame
frame_of bs = cond (is_row (kind_of bs)) (Frame.Row (row_of bs).head) (Frame.End (count_of bs))

-- the frame, unless a check gives a number
abbrev pub unless_wrong : ℕ → Frame → Frame
unless_wrong k frame = cond (eqb k 0) frame (Frame.Wrong k)

unfoldable pub judged : Hull → Progress → Line → Frame
judged h p l = unless_wrong (first_holds (line_checks h p l)) (frame_of (pairs l.text))

-- no row, no results
abbrev pub none : Results
none = found []

-- what a passenger ship's row tells at one draught besides, from a place of its fields on
abbrev pub besides : List ℕ → ℕ → List ℕ
besides f at = long_at f at ∷ long_at f (at + 4) ∷ word_at f (at + 8) ∷ word_at f (at + 10) ∷ word_at f (at + 12) ∷ byte_at f (at + 14) ∷ []

-- ---- what an answer says, of either: the number of the first check that holds; or the line's own kind byte and the fields after it
pub record SaysTheLine : Type 0 where
  pub first_number : (l : Line) → number_of (first_judged l).frame ≡ first_holds (hull_checks l)
  pub cargo : (l : Line) → first_holds (hull_checks l) ≡ 0 → kind_of (pairs l.text) ≡ 1 → let f = fields_of (pairs l.text) in
      values_of (first_judged l).hull none (first_judged l).frame
      ≡ 1 ∷ word_at f 0 ∷ word_at f 2 ∷ word_at f 4 ∷ word_at f 6 ∷ byte_at f 8 ∷ tabulate (λ i. word_at f (9 + 2 * i)) (byte_at f 8 - 1)
  pub passenger : (l : Line) → first_holds (hull_checks l) ≡ 0 → kind_of (pairs l.text) ≡ 6 → let f = fields_of (pairs l.text) in
      values_of (first_judged l).hull none (first_judged l).frame
      ≡ 6 ∷ word_at f 0 ∷ word_at f 2 ∷ word_at f 4 ∷ word_at f 6 ∷ word_at f 8 ∷ word_at f 10 ∷ byte_at f 12 ∷ byte_at f 13 ∷ tabulate (λ i. word_at f (14 + 2 * i)) (byte_at f 13 - 1)
  pub number : (h : Hull) (p : Progress) (l : Line) → number_of (judged h p l) ≡ first_holds (line_checks h p l)
  pub row : (h : Hull) (p : Progress) (l : Line) → first_holds (line_checks h p l) ≡ 0 → is_row (kind_of (pairs l.text)) ≡ true →
      let kind = kind_of (pairs l.text) in let f = fields_of (pairs l.text) in
      values_of h (results_of kind f) (judged h p l)
      ≡ kind ∷ byte_at f 0 ∷ byte_at f 1 ∷ word_at f 2 ∷ word_at f 4 ∷ tabulate (λ i. word_at f (6 + 2 * i)) (cond (eqb kind 3) 3 (cond (eqb kind 5) 24 12)) ++ cond (eqb kind 7) (besides f 30 ++ besides f 45 ++ besides f 60) []
  pub end : (h : Hull) (p : Progress) (l : Line) → first_holds (line_checks h p l) ≡ 0 → is_row (kind_of (pairs l.text)) ≡ false →
      let f = fields_of (pairs l.text) in values_of h none (judged h p l) ≡ kind_of (pairs l.text) ∷ word_at f 0 ∷ []

-- ---- the lines in turn: what a line is at a stage, and what stands beside it
abbrev pub frame_at : Stage → Line → Frame
frame_at begin l = (first_judged l).frame
frame_at (inside h p) l = judged h p l

abbrev pub hull_at : Stage → Line → Hull
hull_at begin l = (first_judged l).hull
hull_at (inside h p) l = h

abbrev pub results_at : Stage → Line → Results
results_at begin l = none
results_at (inside h p) l = (row_of (pairs l.text)).results

-- ---- a file

-- a refusal returns number and line, zeros otherwise
abbrev pub judgement_of : Reading → Judgement
judgement_of (refused k l) = record { number = k; line = l; rows = 0; hull = no_hull }
judgement_of (accepted c) = record { number = 0; line = 0; rows = length c.rows; hull = c.hull }
