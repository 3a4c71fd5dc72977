-- What a host gets of an accepted file's rows, twenty numbers each: what each of them is, that what the rows add comes to the partial indices and encloses
-- what each row adds exactly. Assumes nothing.
use Rattle.std.specs.Prelude.{ℕ, zero, suc, ◌+◌, ◌*◌, ◌<◌, ◌≡◌, List, length, get_or}
use Rattle.laws.specs.Fraction.{Fraction, whole, ◌≼◌, ◌⊛◌}
use Rattle.numbers.specs.Figures.{billionths}
use Rattle.records.specs.declared.Ends.{Ends}
use Rattle.records.specs.Ends.{at}
use Rattle.solas.specs.Height.{row_v}
use Rattle.solas.specs.Index.{draughts}
use Rattle.survival.specs.Survival.{survival_at, NotAbove, NotBelow}
use Rattle.indices.specs.Index.{adds_of}
use Rattle.indices.specs.Exact as exact
use Rattle.indices.specs.Exact.{weight, row_at}
use Rattle.printing.specs.Marks.{mark_byte}
use Rattle.casefile.specs.Record.{Row, Case}
use Rattle.casefile.specs.Reading.{accepted, reading}
use Rattle.rows.specs.declared.Standing.{Standing}
use Rattle.rows.specs.Standing.{nowhere, standings}
use Rattle.answers.specs.Answer.{answer, shares}
use Rattle.answers.specs.Report.{rows_in}
use Rattle.promises.specs.Printing.{result_marks}
use Rattle.promises.specs.Rows.{exact_rows}

-- number k of row i, both counted from 0
abbrev pub number_of : List ℕ → ℕ → ℕ → ℕ
number_of numbers i k = get_or numbers (20 * i + k) 0

abbrev pub ends_at : List ℕ → ℕ → ℕ → Ends
ends_at numbers i k = record { lower = number_of numbers i k; upper = number_of numbers i (1 + k) }

-- where row i stands: over which row of its layer, if any
abbrev pub standing_of : Case → ℕ → Standing
standing_of c i = get_or (standings nowhere c.rows) i nowhere

-- ---- what they are

-- of row r, the i-th, at draught j (0 deepest, 1 partial, 2 light): v, the bottom, the top and the byte of the marks of its survival there; and the ends of
-- what it adds are of the share, the v and the survival that are told
pub record DraughtTold (c : Case) (numbers : List ℕ) (i : ℕ) (r : Row) (j : ℕ) : Type 0 where
  pub v : number_of numbers i (2 + 6 * j) ≡ row_v (standing_of c i).below r.head.height (get_or (draughts c.hull.deepest c.hull.light) j 0)
  pub bottom : number_of numbers i (3 + 6 * j) ≡ (survival_at r.head.kind r.results j).bottom
  pub top : number_of numbers i (4 + 6 * j) ≡ (survival_at r.head.kind r.results j).top
  pub marks : number_of numbers i (5 + 6 * j) ≡ mark_byte (result_marks r j)
  pub adds : ends_at numbers i (6 + 6 * j) ≡ adds_of (ends_at numbers i 0) (number_of numbers i (2 + 6 * j)) (number_of numbers i (3 + 6 * j)) (number_of numbers i (4 + 6 * j))

-- and the ends of its share, the same as on the sheet
pub record RowTold (c : Case) (numbers : List ℕ) (i : ℕ) (r : Row) : Type 0 where
  pub lower : number_of numbers i 0 ≡ get_or (shares c) (2 * i) 0
  pub upper : number_of numbers i 1 ≡ get_or (shares c) (2 * i + 1) 0
  pub draught : (j : ℕ) → j < 3 → DraughtTold c numbers i r j

-- twenty a row and no more
abbrev pub RowsTell : Type 0
RowsTell = (f : List ℕ) (c : Case) → reading f ≡ accepted c → (length (rows_in (reading f)) ≡ 20 * length c.rows)
    × ((i : ℕ) (r : Row) → i < length c.rows → get_or c.rows i r ≡ r → RowTold c (rows_in (reading f)) i r)

-- ---- what they come to

-- n numbers together, from the place at on, each twenty after the one before
unfoldable pub column_total : ℕ → List ℕ → ℕ → ℕ
column_total zero numbers at = 0
column_total (suc n) numbers at = get_or numbers at 0 + column_total n numbers (at + 20)

-- the ends of what the rows add at draught j, together
pub record AddsUp (rows : ℕ) (numbers : List ℕ) (partials : List Ends) (j : ℕ) : Type 0 where
  pub lower : column_total rows numbers (6 + 6 * j) ≡ (at partials j).lower
  pub upper : column_total rows numbers (7 + 6 * j) ≡ (at partials j).upper

abbrev pub RowsAddUp : Type 0
RowsAddUp = (f : List ℕ) (c : Case) → reading f ≡ accepted c → (j : ℕ) → j < 3 → AddsUp (length c.rows) (rows_in (reading f)) (answer c).partials j

-- ---- what they enclose

-- for every fraction, not negative, with a fourth power not above a row's s⁴: exact share times v times the fraction is no more than the upper end; with one
-- not below, no less than the lower
pub record Encloses (adds : Ends) (r : exact.RowAt) : Type 0 where
  pub no_more : (x : Fraction) → whole 0 ≼ x → NotAbove r.factor x → weight r ⊛ x ≼ billionths adds.upper
  pub no_less : (x : Fraction) → whole 0 ≼ x → NotBelow r.factor x → billionths adds.lower ≼ weight r ⊛ x

-- row i with its exact share, v and survival at draught j
abbrev pub RowsEnclose : Type 0
RowsEnclose = (f : List ℕ) (c : Case) → reading f ≡ accepted c → (i j : ℕ) (r : exact.Row) → i < length c.rows → get_or (exact_rows c.hull nowhere c.rows) i r ≡ r → j < 3 →
    Encloses (ends_at (rows_in (reading f)) i (6 + 6 * j)) (row_at j r)
