-- 01, "Penetration", with its rounding: damage within a span and within a depth b of a ship of breadth B, in billionths. Assumes nothing.
use Rattle.std.specs.Prelude.{ℕ, ◌+◌, ◌-◌, ◌*◌, ◌/◌, cond, leb}
use Rattle.laws.specs.Rounding.{ceil}
use Rattle.records.specs.declared.Ends.{Ends}
use Rattle.numbers.specs.Figures.{portion_of, halves_of}
use Rattle.solas.specs.Span.{Touch, neither, one, both, touch}
use Rattle.solas.specs.Penetration.{c, d}
use Rattle.layers.specs.Layer.{G1Ends, G3Ends}
use Rattle.penetration.specs.Figures.{plus, minus}
use Rattle.spans.specs.Span.{p_ends, PEnds}

-- x·G1/L, "rounded the same way from G1's own end"
unfoldable pub part_ends : ℕ → ℕ → ℕ → ℕ → Ends
part_ends L B x b = portion_of x (G1Ends B b) L

-- G of a span of length x that touches so many ends; "each half is rounded in the direction that widens G, G3/2 before it is subtracted"
abbrev pub GEndsAt : Touch → ℕ → ℕ → ℕ → ℕ → Ends
GEndsAt both L B x b = G1Ends B b
GEndsAt one L B x b =
    cond (leb (15 * B * x) (b * L)) (halves_of (plus (p_ends L x) (part_ends L B x b))) (minus (part_ends L B x b) (halves_of (G3Ends B b)))
GEndsAt neither L B x b = cond (leb (15 * B * x) (b * L)) (p_ends L x) (minus (part_ends L B x b) (G3Ends B b))

unfoldable pub GEnds : ℕ → ℕ → ℕ → ℕ → ℕ → Ends
GEnds L B aft fwd b = GEndsAt (touch L aft fwd) L B (fwd - aft) b

-- "Q's ends come from those of P and G with C exact, rounded once"
unfoldable pub mixed : ℕ → ℕ → Ends → Ends → Ends
mixed c d P G = record { lower = (P.lower * c + G.lower * (d - c)) / d; upper = ceil (P.upper * c + G.upper * (d - c)) d }

unfoldable pub QEnds : ℕ → ℕ → ℕ → ℕ → ℕ → Ends
QEnds L B aft fwd b = mixed (c B b) (d B) (PEnds L aft fwd) (GEnds L B aft fwd b)
