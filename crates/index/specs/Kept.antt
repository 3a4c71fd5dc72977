-- The case of a hull and of rows as they are kept, which the code works out. Assumes nothing.
use Rattle.std.specs.Prelude.{ℕ, List}
use Rattle.records.specs.declared.Hull.{Hull}
use Rattle.casefile.specs.Record.{Case}
use Rattle.casefile.specs.Kept.{kept_rows}

-- the case of a hull and of so many rows as they are kept
abbrev pub kept_case : List ℕ → Hull → ℕ → Case
kept_case kept h rows = record { hull = h; rows = kept_rows rows kept 0 }
