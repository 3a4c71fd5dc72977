-- A row's results, as lists that grow with its kind. Assumes nothing.
use Rattle.std.specs.Prelude.{List, []}
use Rattle.records.specs.declared.Finding.{Finding}
use Rattle.records.specs.declared.Flooding.{Flooding}

-- the findings, one at each of the three draughts, deepest, partial, light, of kind 05 a second set of three after them; and of kind 07 what a passenger
-- ship's row tells besides, at each draught
pub record Results : Type 0 where
  pub findings : List Finding
  pub floodings : List Flooding

-- a cargo ship's row has findings alone
abbrev pub found : List Finding → Results
found fs = record { findings = fs; floodings = [] }
