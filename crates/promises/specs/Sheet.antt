-- What an accepted file leaves on the sheet: each row's exact share between its two numbers, which are close, and the rest as it was. Assumes nothing.
use Rattle.std.specs.Prelude.{ℕ, ◌+◌, ◌*◌, ◌≤◌, ◌≡◌, List, [], ◌∷◌, length, drop}
use Rattle.laws.specs.Fraction.{Fraction, ◌≼◌}
use Rattle.numbers.specs.Figures.{billionths}
use Rattle.indices.specs.Exact as exact
use Rattle.casefile.specs.Record.{Case}
use Rattle.casefile.specs.Reading.{accepted, reading}
use Rattle.rows.specs.Standing.{nowhere}
use Rattle.answers.specs.Answer.{sheet_after}
use Rattle.promises.specs.Rows.{exact_rows}

-- an exact share lies between the two numbers that tell it, which are at most 32 billionths apart
pub record ShareBetween (lower upper : ℕ) (share : Fraction) : Type 0 where
  pub low : billionths lower ≼ share
  pub high : share ≼ billionths upper
  pub near : upper ≤ lower + 32

-- two numbers a row, from the front on
abbrev pub TellsRows : List ℕ → List exact.Row → Type 0
TellsRows sheet [] = Unit {0}
TellsRows [] (r ∷ rs) = ⊥
TellsRows (lower ∷ []) (r ∷ rs) = ⊥
TellsRows (lower ∷ upper ∷ sheet) (r ∷ rs) = ShareBetween lower upper r.share × TellsRows sheet rs

pub record SheetOf (c : Case) (before after : List ℕ) : Type 0 where
  pub tells : TellsRows after (exact_rows c.hull nowhere c.rows)
  pub rest : drop (2 * length c.rows) after ≡ drop (2 * length c.rows) before
  pub as_long : length after ≡ length before

abbrev pub SheetTells : Type 0
SheetTells = (f sheet : List ℕ) (c : Case) → reading f ≡ accepted c → 2 * length c.rows ≤ length sheet → SheetOf c sheet (sheet_after (reading f) sheet)
