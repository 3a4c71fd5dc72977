-- The shortest and narrowest ship that is taken on, 20 m long and 4 m broad: it is sound, and what its shares come to. Assumes nothing.
use Prim.Native.Nat.{ℕ, ◌+◌}
use mathlib.Core.Path.{refl}
use mathlib.Core.List.{List, [], ◌∷◌}
use lib.Dec.{ltb, leb→le, ltb→lt}
use lib.ListN.{get_or}
use Rattle.laws.specs.Fraction.{◌less◌over◌, ◌over◌, whole, ◌⊹◌, ◌⊝◌, ◌⊛◌, ◌≈◌, up_to}
use Rattle.laws.proofs.Table.{every_number}
use Rattle.solas.specs.Span.{touch, p, P}
use Rattle.solas.specs.Penetration.{C, G1, G3, G, Q}
use Rattle.solas.specs.Ship.{Ship, Sound, abutting}
use Rattle.solas.specs.Share.{within, share}
use Rattle.solas.specs.Total.{over_groups, all_shares}
use Rattle.solas.proofs.Sound.{abutting_sound}

abbrev places : List ℕ
places = 0 ∷ 200 ∷ 800 ∷ 2000 ∷ []

abbrev pub least : Ship
least = abutting 2000 400 3 places

pub least_sound : Sound least
least_sound =
    abutting_sound 2000 400 3 places (leb→le 2000 2000 tt) (leb→le 2000 19800 tt) (ltb→lt 0 400 tt) (leb→le 1 3 tt) refl refl
    (λ k h. ltb→lt (get_or places k 0) (get_or places (k + 1) 0) (every_number (λ k. ltb (get_or places k 0) (get_or places (k + 1) 0)) 3 tt k h))

-- down to half the breadth
pub least_shares : (share least 1 1 200 ≈ 14411 over 200000) × (share least 2 1 200 ≈ 6910001 over 29700000) × (share least 3 1 200 ≈ 841 over 1485)
    × (share least 1 2 200 ≈ 12323 over 200000) × (share least 2 2 200 ≈ 1999999 over 29700000) × (share least 1 3 200 ≈ 1 over 29700000)
    × (all_shares least 200 ≈ whole 1)
unfolding all_shares over_groups up_to share within Q P G touch C G1 G3 p ◌⊹◌ ◌⊝◌ ◌⊛◌ ◌less◌over◌
least_shares =
    (record { cross = refl }, record { cross = refl }, record { cross = refl }, record { cross = refl }, record { cross = refl }, record { cross = refl }, record { cross = refl })

-- down to a tenth of it
pub least_shares_at_40 : (share least 1 1 40 ≈ 739826803 over 28125000000) × (share least 2 2 40 ≈ 9327747071 over 464062500000) × (share least 1 3 40 ≈ 37 over 3712500000)
unfolding share within Q P G touch C G1 G3 p ◌⊹◌ ◌⊝◌ ◌⊛◌ ◌less◌over◌
least_shares_at_40 = (record { cross = refl }, record { cross = refl }, record { cross = refl })
