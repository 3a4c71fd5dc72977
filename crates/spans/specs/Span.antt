-- 01, "Chance of damage within a span", in billionths. Lengths and places are in centimetres. Assumes nothing.
use Rattle.std.specs.Prelude.{ℕ, ◌-◌}
use Rattle.records.specs.declared.Ends.{Ends}
use Rattle.solas.specs.Span.{Touch, neither, one, both, p, P}
use Rattle.spans.specs.declared.SpanEnds.{SpanEnds}
use Rattle.spans.specs.Rounded.{ends_of}

-- inner p of a span of length x in a ship of length L
unfoldable pub p_ends : ℕ → ℕ → Ends
p_ends L x = ends_of (p L x)

-- P of the span from aft to fwd, from the exact P
unfoldable pub PEnds : ℕ → ℕ → ℕ → Ends
PEnds L aft fwd = ends_of (P L aft fwd)

-- both
unfoldable pub span_ends : ℕ → ℕ → ℕ → SpanEnds
span_ends L aft fwd = record { inner = p_ends L (fwd - aft); chance = PEnds L aft fwd }

-- how many ends of the ship
abbrev pub touches : Touch → ℕ
touches neither = 0
touches one = 1
touches both = 2
