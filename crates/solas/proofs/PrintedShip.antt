-- The ship of "One file in full" is sound, and its one layer of one height is complete: what the theorems ask of ships and layers is there. Assumes nothing.
use Prim.Native.Nat.{◌+◌}
use mathlib.Core.Path.{refl}
use mathlib.Core.List.{[], ◌∷◌}
use lib.Dec.{ltb, leb→le, ltb→lt}
use lib.ListN.{get_or}
use Rattle.laws.proofs.Table.{every_number}
use Rattle.solas.specs.Ship.{Sound}
use Rattle.solas.specs.Layers.{Complete}
use Rattle.solas.proofs.Sound.{abutting_sound}
use Rattle.solas.proofs.Values.{printed}

pub printed_sound : Sound printed
printed_sound =
    abutting_sound 9900 1600 2 (0 ∷ 1500 ∷ 9900 ∷ []) (leb→le 2000 9900 tt) (leb→le 9900 19800 tt) (ltb→lt 0 1600 tt) (leb→le 1 2 tt) refl refl
    (λ k h. ltb→lt (get_or (0 ∷ 1500 ∷ 9900 ∷ []) k 0) (get_or (0 ∷ 1500 ∷ 9900 ∷ []) (k + 1) 0) (every_number (λ k. ltb (get_or (0 ∷ 1500 ∷ 9900 ∷ []) k 0) (get_or (0 ∷ 1500 ∷ 9900 ∷ []) (k + 1) 0)) 2 tt k h))

pub printed_complete : Complete 6000 (18500 ∷ [])
printed_complete = record { rising = (ltb→lt 0 18500 tt, tt); closed = leb→le 18500 18500 tt }
