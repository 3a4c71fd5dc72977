-- A case as an accepted file gives it: a hull and its rows. Assumes nothing.
use Rattle.std.specs.Prelude.{List}
use Rattle.records.specs.declared.Hull.{Hull}
use Rattle.records.specs.declared.RowHead.{RowHead}
use Rattle.records.specs.Results.{Results}

-- a row's head, and its results
pub record Row : Type 0 where
  pub head : RowHead
  pub results : Results

pub record Case : Type 0 where
  pub hull : Hull
  pub rows : List Row
