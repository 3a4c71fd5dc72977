-- What a printed answer tells, and how it is read back from the text by document 01's frames and document 02's marks. Assumes nothing.
use Rattle.std.specs.Prelude.{ℕ, zero, suc, ◌/◌, ◌%◌, ◌<◌, ◌≡◌, Bool, cond, List, [], ◌∷◌, ◌++◌, map, eqb, get_or, take, drop}
use Rattle.laws.specs.Bytes.{number}
use Rattle.records.specs.declared.Answer.{Answer}
use Rattle.records.specs.declared.Marks.{Marks}
use Rattle.records.specs.Ends.{at}
use Rattle.lines.specs.Lines.{Line, lines}
use Rattle.hexadecimal.specs.Hex.{pairs}
use Rattle.printing.specs.Marks.{marks_at}
use Rattle.printing.specs.Printed.{RowLine, printed}

-- a refusal's number and line; or a verdict, the ends of A, As, Ap, Al, those of the shares, lower before upper, and the marks of each row
-- at the deepest, the partial and the light draught; or neither
pub data Told : Type 0 where
  refusal : ℕ → ℕ → Told
  figures : ℕ → List ℕ → List ℕ → List Marks → Told
  nothing : Told

-- the ends of A, As, Ap, Al
unfoldable pub ends_of : Answer → List ℕ
ends_of a =
    a.attained.lower ∷ a.attained.upper
    ∷ (at a.partials 0).lower ∷ (at a.partials 0).upper
    ∷ (at a.partials 1).lower ∷ (at a.partials 1).upper
    ∷ (at a.partials 2).lower ∷ (at a.partials 2).upper ∷ []

-- the ends of the rows' shares
unfoldable pub shares_of : List RowLine → List ℕ
shares_of [] = []
shares_of (r ∷ rs) = r.share.lower ∷ r.share.upper ∷ shares_of rs

-- the rows' marks
unfoldable pub marks_of_lines : List RowLine → List Marks
marks_of_lines [] = []
marks_of_lines (r ∷ rs) = marks_at r.survivals 0 ∷ marks_at r.survivals 1 ∷ marks_at r.survivals 2 ∷ marks_of_lines rs

unfoldable pub told_by : Answer → List RowLine → Told
told_by a rs = cond (eqb a.number 0) (figures a.verdict (ends_of a) (shares_of rs) (marks_of_lines rs)) (refusal a.number a.line)

-- ---- from the text

-- so many numbers, of four bytes each
unfoldable pub fours : ℕ → List ℕ → List ℕ
fours zero bs = []
fours (suc n) bs = number (take 4 bs) ∷ fours n (drop 4 bs)

abbrev pub odd : ℕ → Bool
odd n = eqb (n % 2) 1

-- the marks that a byte adds up: lever by ones, range by twos, heel by fours, the opening by eights
unfoldable pub marks_by : ℕ → Marks
marks_by b = record { lever = odd b; range = odd (b / 2); heel = odd (b / 4); opening = odd (b / 8) }

-- a frame's first byte
abbrev pub kind_of : List ℕ → ℕ
kind_of frame = get_or frame 0 0

-- the shares' ends, from the frames 82; any other tells none
unfoldable pub shares_in : List (List ℕ) → List ℕ
shares_in [] = []
shares_in (frame ∷ frames) = cond (eqb (kind_of frame) 130) (fours 2 (drop 1 frame)) [] ++ shares_in frames

-- the marks, from the same frames: a byte each, after the ends
unfoldable pub marks_in : List (List ℕ) → List Marks
marks_in [] = []
marks_in (frame ∷ frames) = cond (eqb (kind_of frame) 130) (map marks_by (take 3 (drop 9 frame))) [] ++ marks_in frames

-- a frame 8f, or a frame 81 and frames 82 after it; any other first frame, or none, tells nothing
unfoldable pub told_in : List (List ℕ) → Told
told_in [] = nothing
told_in (frame ∷ frames) =
    cond (eqb (kind_of frame) 143)
    (refusal (number (take 1 (drop 1 frame))) (number (take 2 (drop 2 frame))))
    (cond (eqb (kind_of frame) 129)
    (figures (number (take 1 (drop 1 frame))) (fours 8 (drop 2 frame)) (shares_in frames) (marks_in frames))
    nothing)

-- the bytes that each line's digits write
abbrev pub frame_in : Line → List ℕ
frame_in l = pairs l.text

unfoldable pub read_back : List ℕ → Told
read_back text = told_in (map frame_in (lines text))

-- ---- the promise

-- each is written whole by four bytes
abbrev pub Short : List ℕ → Type 0
Short ns = (i : ℕ) → get_or ns i 0 < 4294967296

-- number and verdict fit one byte, the line two, each end four
pub record Printable (a : Answer) (rs : List RowLine) : Type 0 where
  pub number_fits : a.number < 256
  pub line_fits : a.line < 65536
  pub verdict_fits : a.verdict < 256
  pub ends_fit : Short (ends_of a)
  pub shares_fit : Short (shares_of rs)

-- what is printed can be read back
abbrev pub ReadsBack : Type 0
ReadsBack = (a : Answer) (rs : List RowLine) → Printable a rs → read_back (printed a rs) ≡ told_by a rs
