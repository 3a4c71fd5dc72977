-- What twelve figures written into a lent slice come to, beside the sheet. Assumes nothing.
use Rattle.std.specs.Prelude.{ℕ, Bool, cond, List, leb, length}
use Rattle.casefile.specs.Reading.{Reading}
use Rattle.figures.specs.Figures.{figures_in}
use Rattle.answers.specs.Answer.{answered, sheet_after}

-- there is room for all twelve
abbrev pub have_room : List ℕ → Bool
have_room lent = leb 12 (length lent)

-- how many are written: all, or none where there is too little room
unfoldable pub figure_count : List ℕ → ℕ
figure_count lent = cond (have_room lent) 12 0

-- what was lent for them, afterwards: the figures in front and the rest as it was, or all as it was; the sheet is of so many numbers
unfoldable pub figures_after : Reading → ℕ → List ℕ → List ℕ
figures_after r size lent = cond (have_room lent) (figures_in (answered r size) lent) lent

-- the sheet afterwards: where there is no room for the figures it stays too
unfoldable pub sheet_beside : List ℕ → Reading → List ℕ → List ℕ
sheet_beside lent r sheet = cond (have_room lent) (sheet_after r sheet) sheet
