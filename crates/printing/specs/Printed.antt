-- Document 01, "One file in full", and document 02, tickets 2 and 5: the printed answer, frame by frame. Numbers are written by their low bytes, the high one first. Assumes nothing.
use Rattle.std.specs.Prelude.{ℕ, ◌+◌, ◌*◌, cond, List, [], ◌∷◌, ◌++◌, eqb}
use Rattle.laws.specs.Bytes.{bytes}
use Rattle.records.specs.declared.Answer.{Answer}
use Rattle.records.specs.declared.Ends.{Ends}
use Rattle.records.specs.declared.Survival.{Survival}
use Rattle.hexadecimal.specs.Hex.{line_of}
use Rattle.digits.specs.Fields.{ends_field, partials_field}
use Rattle.printing.specs.Marks.{marks_field}

-- what a row's line is printed from: the ends of its share, and its survival at the three draughts
pub record RowLine : Type 0 where
  pub share : Ends
  pub survivals : List Survival

-- ---- frames

-- 8f: number (one), line (two)
unfoldable pub refusal_frame : ℕ → ℕ → List ℕ
refusal_frame number line = 143 ∷ bytes 1 number ++ bytes 2 line

-- 81: verdict (one), ends of A, As, Ap, Al
unfoldable pub figures_frame : Answer → List ℕ
figures_frame a = 129 ∷ bytes 1 a.verdict ++ ends_field a.attained.lower a.attained.upper ++ partials_field a.partials

-- 82: a row's share ends, and its marks at the deepest, the partial and the light draught (one each)
unfoldable pub row_frame : RowLine → List ℕ
row_frame r = 130 ∷ ends_field r.share.lower r.share.upper ++ marks_field r.survivals

-- ---- lines

-- a line for each row, in row order
unfoldable pub row_lines : List RowLine → List ℕ
row_lines [] = []
row_lines (r ∷ rs) = line_of (row_frame r) ++ row_lines rs

-- a refusal is one line
unfoldable pub printed : Answer → List RowLine → List ℕ
printed a rs =
    cond (eqb a.number 0)
    (line_of (figures_frame a) ++ row_lines rs)
    (line_of (refusal_frame a.number a.line))

-- how many bytes that is, line feeds counted
unfoldable pub printed_length : Answer → ℕ
printed_length a = cond (eqb a.number 0) (69 + 25 * a.rows) 9
