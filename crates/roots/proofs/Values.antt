-- Worked values of 01, computed: the fourth roots of its survivals. Assumes nothing.
use mathlib.Core.Path.{◌≡◌, refl}
use Prim.Native.Nat.{◌/◌, ◌^◌}
use Rattle.roots.specs.Root.{with_digits, root_down, root_up}

-- s at (30, 400, 0), (60, 800, 0), (120, 1600, 2995) and heel 3,000
pub roots :
    (root_down (10 ^ 16 / 16) ≡ 5000)
    × (root_up (10 ^ 16 / 16) ≡ 5000)
    × (root_down (10 ^ 16 / 4) ≡ 7071)
    × (root_up (10 ^ 16 / 4) ≡ 7072)
    × (root_down (10 ^ 16 / 10000) ≡ 1000)
    × (root_up (10 ^ 16 / 10000) ≡ 1000)
    × (root_down 0 ≡ 0)
    × (root_up 0 ≡ 0)
unfolding root_down root_up with_digits
roots = (refl, refl, refl, refl, refl, refl, refl, refl)
