-- The rows that a reading keeps: each row's frame in the front of a place of its own, one after the other. Assumes nothing.
use Rattle.std.specs.Prelude.{ℕ, zero, suc, ◌+◌, ◌*◌, ◌≡◌, List, [], ◌∷◌, length, take, drop}
use Rattle.casefile.specs.Record.{Row}
use Rattle.casefile.specs.Layout.{row_of}
use Rattle.casefile.specs.Reading.{Reading, refused, accepted}

-- the bytes of a place: as many as the longest row has
abbrev pub place_width : ℕ
place_width = 76

-- the row at place i
unfoldable pub kept_row : List ℕ → ℕ → Row
kept_row kept i = row_of (take place_width (drop (place_width * i) kept))

-- k rows, the first of which is at place i
unfoldable pub kept_rows : ℕ → List ℕ → ℕ → List Row
kept_rows zero kept i = []
kept_rows (suc k) kept i = kept_row kept i ∷ kept_rows k kept (i + 1)

-- an accepted file's rows are kept from place 0 on; of a refused file nothing is said
abbrev pub Keeps : Reading → List ℕ → Type 0
Keeps (refused k l) kept = Unit {0}
Keeps (accepted c) kept = kept_rows (length c.rows) kept 0 ≡ c.rows
