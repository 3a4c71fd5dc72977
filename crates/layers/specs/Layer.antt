-- 01, "Penetration", with its rounding: what depends on a penetration alone, C exact and G1 and G3 in billionths, as it is kept for a layer. Assumes nothing.
use Rattle.std.specs.Prelude.{ℕ}
use Rattle.records.specs.declared.Ends.{Ends}
use Rattle.numbers.specs.Figures.{halves_of}
use Rattle.layers.specs.declared.Layer.{Layer}
use Rattle.solas.specs.Penetration.{c, d, G1, G3}
use Rattle.spans.specs.Rounded.{ends_of}

-- "G1, G3 and p go to billionths"
unfoldable pub G1Ends : ℕ → ℕ → Ends
G1Ends B b = ends_of (G1 B b)

unfoldable pub G3Ends : ℕ → ℕ → Ends
G3Ends B b = ends_of (G3 B b)

unfoldable pub layer_of : ℕ → ℕ → Layer
layer_of B b = record { depth = b; c = c B b; d = d B; g1 = G1Ends B b; g3 = G3Ends B b; half = halves_of (G3Ends B b) }
