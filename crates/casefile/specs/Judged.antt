-- What is said of a line and of a file, a refusal by its number in document 01's table. Assumes nothing.
use Rattle.std.specs.Prelude.{ℕ}
use Rattle.records.specs.declared.Hull.{Hull as Ship}
use Rattle.records.specs.declared.RowHead.{RowHead}
use Rattle.casefile.specs.declared.Progress.{Progress}

-- what a line is: a hull, a row by its head, the end with its count, or a refusal's number
pub data Frame : Type 0 where
  Hull : Frame
  Row : RowHead → Frame
  End : ℕ → Frame
  Wrong : ℕ → Frame

-- what line 1 is, and beside it the hull that it gives: zeros where it is refused
pub record FirstLine : Type 0 where
  pub frame : Frame
  pub hull : Ship

-- what is known after a line, or the refusal's number and line
pub data Step : Type 0 where
  Next : Progress → Step
  Refused : ℕ → ℕ → Step

-- what a file's reading says: at a refusal its number and line, and zeros; else the row count and the hull
pub record Judgement : Type 0 where
  pub number : ℕ
  pub line : ℕ
  pub rows : ℕ
  pub hull : Ship
