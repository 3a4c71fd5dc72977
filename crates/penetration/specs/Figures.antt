-- 01, "Rounding": figures added and subtracted end by end. Assumes nothing.
use Rattle.std.specs.Prelude.{◌+◌, ◌-◌}
use Rattle.records.specs.declared.Ends.{Ends}

-- two figures together
unfoldable pub plus : Ends → Ends → Ends
plus f g = record { lower = f.lower + g.lower; upper = f.upper + g.upper }

-- "G3's opposite end is subtracted", "a lower end below 0 is 0"
unfoldable pub minus : Ends → Ends → Ends
minus f g = record { lower = f.lower - g.upper; upper = f.upper - g.lower }
