-- Document 01, "Chance of damage within a span (regulation 7-1)", exact. Lengths and places are in centimetres. Assumes nothing.
use Rattle.std.specs.Prelude.{ℕ, ◌+◌, ◌-◌, ◌*◌, ◌^◌, cond, leb, eqb}
use Rattle.laws.specs.Fraction.{Fraction, ◌less◌over◌, ◌over◌, whole, ◌⊹◌, ◌⊛◌}

-- inner p of a span of length x in a ship of length L: one of three bands
unfoldable pub p : ℕ → ℕ → Fraction
p L x =
    cond (leb (33 * x) (5 * L)) ((550 * x ^ 2 * L) less (1089 * x ^ 3) over (100 * L ^ 3))
    (cond (leb (33 * x) (10 * L)) ((19800 * x * L ^ 2 + 32670 * x ^ 2 * L) less (1000 * L ^ 3 + 35937 * x ^ 3) over (29700 * L ^ 3))
    ((297 * x) less (20 * L) over (297 * L)))

-- which ends of the ship a span touches
pub data Touch : Type 0 where
  neither one both : Touch

-- the span from the place `aft` to the place `fwd` of a ship of length L: its aft end is at 0, its forward end at L
unfoldable pub touch : ℕ → ℕ → ℕ → Touch
touch L aft fwd = cond (eqb aft 0) (cond (eqb fwd L) both one) (cond (eqb fwd L) one neither)

abbrev pub half : Fraction → Fraction
half f = f ⊛ (1 over 2)

-- P of a span of length x that touches so many ends
abbrev pub PAt : Touch → ℕ → ℕ → Fraction
PAt neither L x = p L x
PAt one L x = half (p L x ⊹ (x over L))
PAt both L x = whole 1

-- P of the span from aft to fwd
unfoldable pub P : ℕ → ℕ → ℕ → Fraction
P L aft fwd = PAt (touch L aft fwd) L (fwd - aft)
