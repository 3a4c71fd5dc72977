-- What any input is told beside its answer: the printed answer, and for a host each row, R with the mark of a partial index, and each group's share as numbers. Assumes nothing.
use Rattle.std.specs.Prelude.{ℕ, List, []}
use Rattle.casefile.specs.Reading.{Reading, refused, accepted}
use Rattle.printing.specs.Printed.{RowLine, printed}
use Rattle.rows.specs.Standing.{nowhere}
use Rattle.rows.specs.Work.{lines_from}
use Rattle.listing.specs.Rows.{numbers_from}
use Rattle.listing.specs.Hull.{required_numbers, group_numbers}
use Rattle.answers.specs.Answer.{answered}

-- what the lines of an accepted case's rows are printed from
unfoldable pub lines_in : Reading → List RowLine
lines_in (refused k l) = []
lines_in (accepted c) = lines_from c.hull nowhere c.rows

-- the printed answer: a sheet of 1,000 numbers has room for every case's shares
unfoldable pub report : Reading → List ℕ
report r = printed (answered r 1000) (lines_in r)

-- an accepted case's rows, twenty numbers each
unfoldable pub rows_in : Reading → List ℕ
rows_in (refused k l) = []
rows_in (accepted c) = numbers_from c.hull nowhere c.rows

-- R and the mark of a partial index, numerator and denominator of each
unfoldable pub required_in : Reading → List ℕ
required_in (refused k l) = []
required_in (accepted c) = required_numbers c.hull

-- the share of each group of its zones, lower end and upper end
unfoldable pub groups_in : Reading → List ℕ
groups_in (refused k l) = []
groups_in (accepted c) = group_numbers c.hull
