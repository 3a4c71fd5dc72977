-- Document 01, "One file in full", with the marks of document 02: its printed answer from its figures; a refusal's; and how buffers fare. Assumes nothing.
use Prim.Native.Nat.{ℕ}
use mathlib.Core.Path.{◌≡◌, refl}
use mathlib.Core.Bool.{Bool, true, false}
use mathlib.Core.List.{List, [], ◌∷◌, ◌++◌}
use lib.ListN.{length}
use Rattle.laws.specs.Bytes.{bytes}
use Rattle.records.specs.declared.Answer.{Answer}
use Rattle.records.specs.declared.Ends.{Ends}
use Rattle.records.specs.declared.Survival.{Survival}
use Rattle.records.specs.Ends.{no_ends}
use Rattle.hexadecimal.specs.Hex.{digit, hex, line_of}
use Rattle.digits.specs.Fields.{ends_field, partial_field, partials_field}
use Rattle.printing.specs.Marks.{mark_byte, marks_at, marks_field}
use Rattle.printing.specs.Printed.{RowLine, refusal_frame, figures_frame, row_frame, row_lines, printed, printed_length}
use Rattle.printing.specs.Written.{count_in, written_in}
use Rattle.printing.specs.ReadBack.{marks_by}

-- the definitions, open to computation
text : Answer → List RowLine → List ℕ
unfolding printed line_of figures_frame refusal_frame row_frame row_lines ends_field partial_field partials_field mark_byte marks_at marks_field bytes digit hex
text a rs = printed a rs

-- a survival with the marks of its lever, range, heel and opening, and a row with the same at every draught
abbrev marked : Bool → Bool → Bool → Bool → Survival
marked lever range heel opening = record { bottom = 8400; top = 8401; marks = record { lever = lever; range = range; heel = heel; opening = opening } }

abbrev ends : ℕ → ℕ → Ends
ends lower upper = record { lower = lower; upper = upper }

abbrev row : ℕ → ℕ → Survival → RowLine
row lower upper s = record { share = record { lower = lower; upper = upper }; survivals = s ∷ s ∷ s ∷ [] }

-- ---- the file of document 01

abbrev figures : Answer
figures = record {
  number = 0;
  line = 0;
  verdict = 1;
  rows = 3;
  attained = record { lower = 874789561; upper = 874789563 };
  partials = ends 874789561 874789563 ∷ ends 874789561 874789563 ∷ ends 874789561 874789563 ∷ [];
}

-- the first row's lever and range are below their caps, and nothing holds the others down
abbrev rows : List RowLine
rows =
    row 119949494 119949495 (marked true true false false)
    ∷ row 65235690 65235692 (marked false false false false)
    ∷ row 814814814 814814815 (marked false false false false) ∷ []

-- 810134243ab934243abb34243ab934243abb34243ab934243abb34243ab934243abb
abbrev figures_line : List ℕ
figures_line =
    56 ∷ 49 ∷ 48 ∷ 49
    ∷ 51 ∷ 52 ∷ 50 ∷ 52 ∷ 51 ∷ 97 ∷ 98 ∷ 57 ∷ 51 ∷ 52 ∷ 50 ∷ 52 ∷ 51 ∷ 97 ∷ 98 ∷ 98
    ∷ 51 ∷ 52 ∷ 50 ∷ 52 ∷ 51 ∷ 97 ∷ 98 ∷ 57 ∷ 51 ∷ 52 ∷ 50 ∷ 52 ∷ 51 ∷ 97 ∷ 98 ∷ 98
    ∷ 51 ∷ 52 ∷ 50 ∷ 52 ∷ 51 ∷ 97 ∷ 98 ∷ 57 ∷ 51 ∷ 52 ∷ 50 ∷ 52 ∷ 51 ∷ 97 ∷ 98 ∷ 98
    ∷ 51 ∷ 52 ∷ 50 ∷ 52 ∷ 51 ∷ 97 ∷ 98 ∷ 57 ∷ 51 ∷ 52 ∷ 50 ∷ 52 ∷ 51 ∷ 97 ∷ 98 ∷ 98
    ∷ 10 ∷ []

-- 82072648b6072648b7030303
abbrev first_row : List ℕ
first_row = 56 ∷ 50 ∷ 48 ∷ 55 ∷ 50 ∷ 54 ∷ 52 ∷ 56 ∷ 98 ∷ 54 ∷ 48 ∷ 55 ∷ 50 ∷ 54 ∷ 52 ∷ 56 ∷ 98 ∷ 55 ∷ 48 ∷ 51 ∷ 48 ∷ 51 ∷ 48 ∷ 51 ∷ 10 ∷ []

-- 8203e36aea03e36aec000000
abbrev second_row : List ℕ
second_row = 56 ∷ 50 ∷ 48 ∷ 51 ∷ 101 ∷ 51 ∷ 54 ∷ 97 ∷ 101 ∷ 97 ∷ 48 ∷ 51 ∷ 101 ∷ 51 ∷ 54 ∷ 97 ∷ 101 ∷ 99 ∷ 48 ∷ 48 ∷ 48 ∷ 48 ∷ 48 ∷ 48 ∷ 10 ∷ []

-- 823091165e3091165f000000
abbrev third_row : List ℕ
third_row = 56 ∷ 50 ∷ 51 ∷ 48 ∷ 57 ∷ 49 ∷ 49 ∷ 54 ∷ 53 ∷ 101 ∷ 51 ∷ 48 ∷ 57 ∷ 49 ∷ 49 ∷ 54 ∷ 53 ∷ 102 ∷ 48 ∷ 48 ∷ 48 ∷ 48 ∷ 48 ∷ 48 ∷ 10 ∷ []

answer_in_full : text figures rows ≡ figures_line ++ first_row ++ second_row ++ third_row
unfolding text
answer_in_full = refl

length_in_full : printed_length figures ≡ length (figures_line ++ first_row ++ second_row ++ third_row)
unfolding printed_length
length_in_full = refl

-- eight ends that differ: A, As, Ap, Al, lower and upper of each
abbrev distinct : Answer
distinct = record {
  number = 0;
  line = 0;
  verdict = 3;
  rows = 0;
  attained = record { lower = 1; upper = 2 };
  partials = ends 3 4 ∷ ends 5 6 ∷ ends 7 8 ∷ [];
}

ends_in_order : text distinct [] ≡
    line_of (129 ∷ 3 ∷ 0 ∷ 0 ∷ 0 ∷ 1 ∷ 0 ∷ 0 ∷ 0 ∷ 2 ∷ 0 ∷ 0 ∷ 0 ∷ 3 ∷ 0 ∷ 0 ∷ 0 ∷ 4 ∷ 0 ∷ 0 ∷ 0 ∷ 5 ∷ 0 ∷ 0 ∷ 0 ∷ 6 ∷ 0 ∷ 0 ∷ 0 ∷ 7 ∷ 0 ∷ 0 ∷ 0 ∷ 8 ∷ [])
unfolding text line_of
ends_in_order = refl

-- ---- marks that differ from draught to draught, and from row to row

abbrev uneven : List RowLine
uneven =
    record { share = record { lower = 1; upper = 2 }; survivals = marked true false false false ∷ marked false true false false ∷ marked false false true false ∷ [] }
    ∷ record { share = record { lower = 3; upper = 4 }; survivals = marked true true true true ∷ marked false false false true ∷ marked true false true false ∷ [] } ∷ []

marks_in_order : text distinct uneven ≡ text distinct [] ++ line_of (130 ∷ 0 ∷ 0 ∷ 0 ∷ 1 ∷ 0 ∷ 0 ∷ 0 ∷ 2 ∷ 1 ∷ 2 ∷ 4 ∷ []) ++ line_of (130 ∷ 0 ∷ 0 ∷ 0 ∷ 3 ∷ 0 ∷ 0 ∷ 0 ∷ 4 ∷ 15 ∷ 8 ∷ 5 ∷ [])
unfolding text line_of
marks_in_order = refl

-- 10 is range and opening
ten_by_name : marks_by 10 ≡ record { lever = false; range = true; heel = false; opening = true }
unfolding marks_by
ten_by_name = refl

-- ---- a refusal: number 9 at line 500

abbrev refused : Answer
refused = record {
  number = 9;
  line = 500;
  verdict = 0;
  rows = 0;
  attained = record { lower = 0; upper = 0 };
  partials = no_ends ∷ no_ends ∷ no_ends ∷ [];
}

-- 8f0901f4
abbrev refusal_line : List ℕ
refusal_line = 56 ∷ 102 ∷ 48 ∷ 57 ∷ 48 ∷ 49 ∷ 102 ∷ 52 ∷ 10 ∷ []

refusal_in_full : text refused rows ≡ refusal_line
unfolding text
refusal_in_full = refl

pub refusal_length : printed_length refused ≡ length refusal_line
unfolding printed_length
refusal_length = refl

-- ---- buffers

abbrev eight : List ℕ
eight = 1 ∷ 2 ∷ 3 ∷ 4 ∷ 5 ∷ 6 ∷ 7 ∷ 8 ∷ []

-- what follows the text stays
room_left : (count_in refusal_line (eight ++ eight) ≡ 9) × (written_in refusal_line (eight ++ eight) ≡ refusal_line ++ 2 ∷ 3 ∷ 4 ∷ 5 ∷ 6 ∷ 7 ∷ 8 ∷ [])
unfolding count_in written_in
room_left = (refl, refl)

room_enough : (count_in refusal_line (eight ++ 9 ∷ []) ≡ 9) × (written_in refusal_line (eight ++ 9 ∷ []) ≡ refusal_line)
unfolding count_in written_in
room_enough = (refl, refl)

-- a byte too short, and nothing is written
too_short : (count_in refusal_line eight ≡ 0) × (written_in refusal_line eight ≡ eight)
unfolding count_in written_in
too_short = (refl, refl)
