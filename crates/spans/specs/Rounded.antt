-- 01, "Units" and "Rounding": an exact figure in billionths, rounded both ways, and the ends of a chance. Assumes nothing.
use Rattle.std.specs.Prelude.{ℕ, ◌+◌, ◌-◌, ◌^◌, ◌≤◌}
use Rattle.laws.specs.Fraction.{Fraction, den}
use Rattle.records.specs.declared.Ends.{Ends}
use Rattle.numbers.specs.Figures.{billionths_of}

-- "lower end: 10⁹ P rounded down; upper: rounded up", of a fraction that is not negative
unfoldable pub ends_of : Fraction → Ends
ends_of f = billionths_of (f.up - f.down) (den f)

-- the ends of a chance: in order, and not above one
pub record Probable (g : Ends) : Type 0 where
  pub ordered : g.lower ≤ g.upper
  pub at_most_one : g.upper ≤ 10 ^ 9

-- the ends lie at most w apart
pub record Near (w : ℕ) (g : Ends) : Type 0 where
  pub near : g.upper ≤ g.lower + w
