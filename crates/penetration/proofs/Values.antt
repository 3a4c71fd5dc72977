-- Figures of other figures, worked out, at which a wrong end is refused. Assumes nothing.
use Prim.Native.Nat.{ℕ}
use mathlib.Core.Path.{◌≡◌, refl}
use Rattle.laws.specs.Rounding.{ceil}
use Rattle.records.specs.declared.Ends.{Ends}
use Rattle.penetration.specs.Figures.{minus}
use Rattle.penetration.specs.Penetration.{mixed}

abbrev ends : ℕ → ℕ → Ends
ends lower upper = record { lower = lower; upper = upper }

-- the opposite end is taken away, and nothing is left below 0
pub opposite : (minus (ends 10 12) (ends 3 5) ≡ ends 5 9) × (minus (ends 4 12) (ends 3 5) ≡ ends 0 9)
unfolding minus
opposite = (refl, refl)

-- a third of P and two of G, rounded once
pub a_third : mixed 1 3 (ends 10 11) (ends 20 22) ≡ ends 16 19
unfolding mixed ceil
a_third = refl
