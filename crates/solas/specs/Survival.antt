-- Document 01, "Height and survival": the fourth power of the survival factor of a result; and document 02, "Openings". Assumes nothing.
use Rattle.std.specs.Prelude.{ℕ, ◌-◌, min, Bool, cond, leb, ℤ, pos}
use Rattle.std.specs.Int.Signed.{lt_z}
use Rattle.laws.specs.Fraction.{Fraction, ◌over◌, whole, ◌⊛◌}

-- k of a heel e in hundredths of a degree
unfoldable pub k : ℕ → Fraction
k e = cond (leb e 2500) (whole 1) (cond (leb 3000 e) (whole 0) (((3000 - e) over 500) ⊛ ((3000 - e) over 500)))

-- s⁴ of a lever g, capped at 120 mm, a range t, capped at 16 degrees, and a heel e
unfoldable pub s⁴ : ℕ → ℕ → ℕ → Fraction
s⁴ g t e = (min g 120 over 120) ⊛ (min t 1600 over 1600) ⊛ k e

-- the critical opening lies o millimetres above the final waterline: "Below zero the survival is zero; at zero the opening is not yet immersed"
abbrev pub immersed : ℤ → Bool
immersed o = lt_z o (pos 0)

unfoldable pub unless_immersed : ℤ → Fraction → Fraction
unless_immersed o f = cond (immersed o) (whole 0) f
