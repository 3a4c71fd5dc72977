-- Document 01, "Penetration", exact: damage within a span and within a penetration b, in a ship of breadth B; both in centimetres. Assumes nothing.
use Rattle.std.specs.Prelude.{ℕ, ◌-◌, ◌*◌, ◌^◌, cond, leb}
use Rattle.laws.specs.Fraction.{Fraction, ◌less◌over◌, ◌over◌, whole, ◌⊹◌, ◌⊝◌, ◌⊛◌}
use Rattle.solas.specs.Span.{Touch, neither, one, both, touch, half, p, P}

-- of damage longer than b/15B of the ship, the part that goes no deeper than b
unfoldable pub C : ℕ → ℕ → Fraction
C B b = (16 * b * B) less (12 * b ^ 2) over (5 * B ^ 2)

-- C is c/d at a penetration of up to half of the breadth
unfoldable pub c : ℕ → ℕ → ℕ
c B b = 16 * b * B - 12 * b ^ 2

unfoldable pub d : ℕ → ℕ
d B = 5 * B ^ 2

-- G of the whole ship; and what an inner span longer than b/15B of the ship lacks of its part of that
unfoldable pub G1 : ℕ → ℕ → Fraction
G1 B b = (5500 * b * B) less (1089 * b ^ 2) over (7500 * B ^ 2)

unfoldable pub G3 : ℕ → ℕ → Fraction
G3 B b = (1375 * b ^ 2 * B) less (363 * b ^ 3) over (56250 * B ^ 3)

-- G: the chance of damage that lies within a span and is itself no longer than b/15B of the ship; for a span of length x that touches so many ends
abbrev pub GAt : Touch → ℕ → ℕ → ℕ → ℕ → Fraction
GAt both L B x b = G1 B b
GAt one L B x b = cond (leb (15 * B * x) (b * L)) (half (p L x ⊹ (x over L) ⊛ G1 B b)) ((x over L) ⊛ G1 B b ⊝ half (G3 B b))
GAt neither L B x b = cond (leb (15 * B * x) (b * L)) (p L x) ((x over L) ⊛ G1 B b ⊝ G3 B b)

-- G of the span from aft to fwd
unfoldable pub G : ℕ → ℕ → ℕ → ℕ → ℕ → Fraction
G L B aft fwd b = GAt (touch L aft fwd) L B (fwd - aft) b

-- the chance of damage within the span and within b: all of G, and of what P has beyond it the part C
unfoldable pub Q : ℕ → ℕ → ℕ → ℕ → ℕ → Fraction
Q L B aft fwd b = P L aft fwd ⊛ C B b ⊹ G L B aft fwd b ⊛ (whole 1 ⊝ C B b)
