-- Document 01, "The case file": what an input says, a case or a refusal's number and line; lines are judged in turn. Assumes nothing.
use Rattle.std.specs.Prelude.{ℕ, ◌+◌, true, false, cond, List, [], ◌∷◌, length, ltb, eqb}
use Rattle.records.specs.declared.Hull.{Hull}
use Rattle.lines.specs.Lines.{Line, lines}
use Rattle.hexadecimal.specs.Hex.{pairs}
use Rattle.casefile.specs.declared.Progress.{Progress}
use Rattle.casefile.specs.Record.{Row, Case}
use Rattle.casefile.specs.Layout.{kind_of, fields_of, is_row, hull_of, row_of}
use Rattle.casefile.specs.Limits.{longest_input}
use Rattle.casefile.specs.Table.{Check, first_holds, hull_checks, line_checks}

-- a refusal has a number and a line
pub data Reading : Type 0 where
  refused : ℕ → ℕ → Reading
  accepted : Case → Reading

-- ---- what the lines before say

-- before line 1, and after it: the hull, and what is known of the rows
pub data Stage : Type 0 where
  begin : Stage
  inside : Hull → Progress → Stage

-- no row is read yet: the row before has kind 0
abbrev pub start : Progress
start = record { rows = 0; last = record { kind = 0; first = 0; count = 0; depth = 0; height = 0 }; ended = false }

abbrev pub with_row : Progress → Row → Progress
with_row p r = record { rows = p.rows + 1; last = r.head; ended = false }

abbrev pub with_end : Progress → Progress
with_end p = record { rows = p.rows; last = p.last; ended = true }

abbrev pub progressed : Progress → List ℕ → Progress
progressed p bs = cond (is_row (kind_of bs)) (with_row p (row_of bs)) (with_end p)

-- a line's checks at a stage, and the stage after a line that passes
abbrev pub checks : Stage → Line → List Check
checks begin l = hull_checks l
checks (inside h p) l = line_checks h p l

abbrev pub next : Stage → Line → Stage
next begin l = let bs = pairs l.text in inside (hull_of (kind_of bs) (fields_of bs)) start
next (inside h p) l = inside h (progressed p (pairs l.text))

-- the row that a line that passes adds to the case
abbrev pub before : Row → Reading → Reading
before r (refused k l) = refused k l
before r (accepted c) = accepted (record { hull = c.hull; rows = r ∷ c.rows })

abbrev pub gathered : Stage → Line → Reading → Reading
gathered begin l rest = rest
gathered (inside h p) l rest = let bs = pairs l.text in cond (is_row (kind_of bs)) (before (row_of bs) rest) rest

-- ---- the lines in turn, the next of which is line n

-- every line has passed: a file with no end frame is refused
abbrev pub finished : Stage → ℕ → Reading
finished begin n = refused 10 n
finished (inside h p) n = cond p.ended (accepted (record { hull = h; rows = [] })) (refused 10 n)

unfoldable pub read_from : Stage → ℕ → List Line → Reading
read_from s n [] = finished s n
read_from s n (l ∷ ls) =
    let k = first_holds (checks s l) in
    let passed = gathered s l (read_from (next s l) (n + 1) ls) in
    cond (eqb k 0) passed (refused k n)

-- any bytes whatever
unfoldable pub reading : List ℕ → Reading
reading f = let judged = read_from begin 1 (lines f) in cond (ltb longest_input (length f)) (refused 1 0) judged
