-- Document 02, "Passenger ships": the fourth powers of the survival factors of a passenger ship's result, that of its final stage, that of an intermediate
-- one, and s-mom; and what they come to together. Assumes nothing.
use Rattle.std.specs.Prelude.{ℕ, ◌-◌, ◌*◌, min, cond, leb, ltb, eqb}
use Rattle.laws.specs.Fraction.{Fraction, ◌over◌, whole, lesser, ◌⊛◌}

-- ---- the final stage

-- "heel limits are 7 and 15 degrees": k of a heel e in hundredths of a degree
unfoldable pub k_of_passengers : ℕ → Fraction
k_of_passengers e = cond (leb e 700) (whole 1) (cond (leb 1500 e) (whole 0) (((1500 - e) over 800) ⊛ ((1500 - e) over 800)))

-- "ro-ro cases use 0.20 m and 20 degrees": the caps of lever and range by the ro-ro mark
abbrev pub lever_cap : ℕ → ℕ
lever_cap roro = cond (eqb roro 1) 200 120

abbrev pub range_cap : ℕ → ℕ
range_cap roro = cond (eqb roro 1) 2000 1600

unfoldable pub final⁴ : ℕ → ℕ → ℕ → ℕ → Fraction
final⁴ roro g t e = (min g (lever_cap roro) over lever_cap roro) ⊛ (min t (range_cap roro) over range_cap roro) ⊛ k_of_passengers e

-- ---- an intermediate stage: its lever capped at 50 mm, its range at 7 degrees, and nothing where its heel exceeds 15 degrees
unfoldable pub intermediate⁴ : ℕ → ℕ → ℕ → Fraction
intermediate⁴ g t e = cond (ltb 1500 e) (whole 0) ((min g 50 over 50) ⊛ (min t 700 over 700))

-- ---- "s-mom is (lever - 0.04 m) times displacement over the heeling moment, between 0 and 1, from the uncapped lever": of a lever g in millimetres, Δ tonnes
-- and M tonne-metres above 0
unfoldable pub s_mom : ℕ → ℕ → ℕ → Fraction
s_mom g Δ M = min ((g - 40) * Δ) (1000 * M) over (1000 * M)

-- ---- "s is the lesser of s-intermediate and s-final times s-mom": the fourth power of that, from s-int⁴, s-final⁴ and s-mom
unfoldable pub together⁴ : Fraction → Fraction → Fraction → Fraction
together⁴ int final mom = lesser int (final ⊛ (mom ⊛ mom ⊛ (mom ⊛ mom)))
