-- Document 01, "The case file": the file of a case, byte by byte. Assumes nothing.
use Rattle.std.specs.Prelude.{ℕ, List, [], ◌∷◌, ◌++◌, length}
use Rattle.hexadecimal.specs.Hex.{line_of}
use Rattle.casefile.specs.Record.{Row, Case}
use Rattle.casefile.specs.Layout.{hull_bytes, row_bytes, end_bytes}

unfoldable pub row_lines : List Row → List ℕ
row_lines [] = []
row_lines (r ∷ rs) = line_of (row_bytes r) ++ row_lines rs

-- the hull, the rows, the end with their count
unfoldable pub encode : Case → List ℕ
encode c = line_of (hull_bytes c.hull) ++ (row_lines c.rows ++ line_of (end_bytes (length c.rows)))
