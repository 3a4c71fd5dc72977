-- Fractions as the code carries them, by numerator and denominator. Assumes nothing.
use Rattle.std.specs.Prelude.{ℕ, ◌-◌, ◌*◌, ◌^◌, ◌≤◌, ◌<◌}
use Rattle.laws.specs.Fraction.{Fraction, den}
use Rattle.records.specs.declared.Ratio.{Ratio}

-- the numerator and the denominator of a fraction that is not negative
unfoldable pub ratio_of : Fraction → Ratio
ratio_of f = record { num = f.up - f.down; den = den f }

-- a fraction from 0 to 1, whose denominator 64 bits hold so many times
pub record Proper (times : ℕ) (r : Ratio) : Type 0 where
  pub positive : 0 < r.den
  pub at_most_one : r.num ≤ r.den
  pub narrow : times * r.den < 2 ^ 64
