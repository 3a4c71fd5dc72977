-- Figures with a lower and an upper end: 01, "Units" and "Rounding". Assumes nothing.
use Rattle.std.specs.Prelude.{ℕ, ◌*◌, ◌/◌, ◌^◌, ◌≤◌}
use Rattle.laws.specs.Fraction.{Fraction, ◌over◌, ◌≼◌}
use Rattle.laws.specs.Rounding.{ceil}
use Rattle.records.specs.declared.Ends.{Ends}

-- n/d rounded down and up
unfoldable pub both_ways : ℕ → ℕ → Ends
both_ways n d = record { lower = n / d; upper = ceil n d }

-- "Probabilities: billionths, as a lower and an upper end"
unfoldable pub billionths_of : ℕ → ℕ → Ends
billionths_of n d = record { lower = 10 ^ 9 * n / d; upper = ceil (10 ^ 9 * n) d }

-- "The product x·G1/L is rounded the same way from G1's own end"
unfoldable pub portion_of : ℕ → Ends → ℕ → Ends
portion_of x g l = record { lower = x * g.lower / l; upper = ceil (x * g.upper) l }

-- "each half is rounded in the direction that widens"
unfoldable pub halves_of : Ends → Ends
halves_of g = record { lower = g.lower / 2; upper = ceil g.upper 2 }

-- n/d is not below the lower end of g, and not above the upper
pub record Encloses (g : Ends) (n d : ℕ) : Type 0 where
  pub low : g.lower * d ≤ n
  pub high : n ≤ g.upper * d

abbrev pub billionths : ℕ → Fraction
billionths n = n over 10 ^ 9

-- the exact figure is not below the lower end of g, and not above the upper
pub record Between (g : Ends) (f : Fraction) : Type 0 where
  pub low : billionths g.lower ≼ f
  pub high : f ≼ billionths g.upper
