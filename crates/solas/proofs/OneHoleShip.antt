-- The small ship of docs/ONE-HOLE.md, in 297ths: its shares, and what two slips make of them. Assumes nothing.
use mathlib.Core.Path.{refl}
use mathlib.Core.List.{[], ◌∷◌}
use Rattle.laws.specs.Fraction.{◌less◌over◌, ◌over◌, whole, ◌⊹◌, ◌⊝◌, ◌⊛◌, ◌≈◌, up_to}
use Rattle.solas.specs.Span.{touch, p, P}
use Rattle.solas.specs.Penetration.{C, G1, G3, G, Q}
use Rattle.solas.specs.Ship.{Ship, abutting}
use Rattle.solas.specs.Share.{within, share}
use Rattle.solas.specs.Total.{over_groups, all_shares, middle_span, all_without_middle, first_of_pair, all_with_zone_back}

abbrev small : Ship
small = abutting 9900 1600 3 (0 ∷ 3000 ∷ 6000 ∷ 9900 ∷ [])

pub spans : (within small 1 1 800 ≈ 80 over 297) × (within small 2 2 800 ≈ 70 over 297) × (within small 3 3 800 ≈ 107 over 297)
    × (within small 1 2 800 ≈ 170 over 297) × (within small 2 3 800 ≈ 197 over 297) × (within small 1 3 800 ≈ whole 1)
unfolding within Q P G touch C G1 G3 p ◌⊹◌ ◌⊝◌ ◌⊛◌ ◌less◌over◌
spans = (record { cross = refl }, record { cross = refl }, record { cross = refl }, record { cross = refl }, record { cross = refl }, record { cross = refl })

pub shares : (share small 1 1 800 ≈ 80 over 297) × (share small 2 1 800 ≈ 70 over 297) × (share small 3 1 800 ≈ 107 over 297)
    × (share small 1 2 800 ≈ 20 over 297) × (share small 2 2 800 ≈ 20 over 297) × (share small 1 3 800 ≈ whole 0)
unfolding share within Q P G touch C G1 G3 p ◌⊹◌ ◌⊝◌ ◌⊛◌ ◌less◌over◌
shares = (record { cross = refl }, record { cross = refl }, record { cross = refl }, record { cross = refl }, record { cross = refl }, record { cross = refl })

pub totals : (all_shares small 800 ≈ whole 1) × (all_without_middle small 800 ≈ 227 over 297) × (all_with_zone_back small 800 ≈ 447 over 297)
unfolding all_shares all_without_middle all_with_zone_back middle_span first_of_pair over_groups up_to share within Q P G touch C G1 G3 p ◌⊹◌ ◌⊝◌ ◌⊛◌ ◌less◌over◌
totals = (record { cross = refl }, record { cross = refl }, record { cross = refl })

slips : (share small 1 3 800 ⊝ middle_span small 1 3 800 ≈ 0 less 70 over 297)
    × (share small 1 2 800 ⊹ first_of_pair small 1 2 800 ≈ 100 over 297)
    × (share small 2 2 800 ⊹ first_of_pair small 2 2 800 ≈ 90 over 297)
unfolding middle_span first_of_pair share within Q P G touch C G1 G3 p ◌⊹◌ ◌⊝◌ ◌⊛◌ ◌less◌over◌
slips = (record { cross = refl }, record { cross = refl }, record { cross = refl })
