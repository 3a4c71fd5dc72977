-- What the sheet of a ship of one zone with two layers tells of its outer and of its inner share, worked out as numbers. Assumes nothing.
use Prim.Native.Nat.{ℕ}
use mathlib.Core.Path.{refl}
use mathlib.Core.List.{[]}
use Rattle.laws.specs.Fraction.{◌less◌over◌, ◌⊹◌, ◌⊝◌, ◌⊛◌}
use Rattle.records.specs.Results.{found}
use Rattle.indices.specs.Exact as exact
use Rattle.solas.specs.Span.{touch, p, P}
use Rattle.solas.specs.Penetration.{C, G1, G3, G, Q}
use Rattle.solas.specs.Share.{within, share, row_share}
use Rattle.promises.specs.Rows.{exact_row}
use Rattle.promises.specs.Sheet.{ShareBetween}
use Rattle.promises.proofs.WitnessNumbers.{Compared}
use Rattle.promises.proofs.WitnessCases.{decked}

-- the row of the layer from one depth to the next
abbrev layer : ℕ → ℕ → exact.Row
layer b' b = exact_row decked.hull (record { head = record { kind = 3; first = 1; count = 1; depth = b; height = 18500 }; before = b'; below = 0 }) (found [])

pub outer : Compared (λ (t : ShareBetween 710990416 710990417 (layer 0 400).share). t.low) × Compared (λ (t : ShareBetween 710990416 710990417 (layer 0 400).share). t.high)
unfolding row_share share within Q G P p C G1 G3 touch ◌⊹◌ ◌⊝◌ ◌⊛◌ ◌less◌over◌
outer = (λ t. refl, λ t. refl)

pub inner : Compared (λ (t : ShareBetween 289009583 289009584 (layer 400 800).share). t.low) × Compared (λ (t : ShareBetween 289009583 289009584 (layer 400 800).share). t.high)
unfolding row_share share within Q G P p C G1 G3 touch ◌⊹◌ ◌⊝◌ ◌⊛◌ ◌less◌over◌
inner = (λ t. refl, λ t. refl)
