-- Fractions from 0 to 1 as the code carries them, as whole numbers of equal parts: s⁴ in 168ths of 10⁻¹⁶, in which it
-- always comes out even: 168 is 3 · 7 · 8, and what s⁴ is divided by, of either ship type, goes into 168·10¹⁶. Assumes nothing.
use Rattle.std.specs.Prelude.{ℕ, ◌*◌, ◌^◌, ◌≤◌}
use Rattle.laws.specs.Fraction.{Fraction, Is}
use Rattle.records.specs.declared.Ratio.{Ratio}

-- f is n of the parts that make one, and at most all of them
pub record Parts (one : ℕ) (f : Fraction) (n : ℕ) : Type 0 where
  pub is : Is f n 0 one
  pub at_most_one : n ≤ one

abbrev pub InParts : Fraction → ℕ → Type 0
InParts f n = Parts (168 * 10 ^ 16) f n

-- so many 168ths of 10⁻¹⁶
abbrev pub parts : ℕ → Ratio
parts n = record { num = n; den = 168 * 10 ^ 16 }
