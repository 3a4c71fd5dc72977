-- A coefficient of either sign as a machine number: how far it is above 0 and below, and how large its terms are. Assumes nothing.
use mathlib.Core.Path.{◌≡◌, refl}
use mathlib.Core.List.{List}
use lib.ListN.{get_or}
use Prim.Native.Nat.{ℕ, ◌+◌, ◌*◌, ◌^◌, ◌≤◌, ◌<◌}
use native.Mathlib.Nat.{mul-le-mul}
use native.Mathlib.Numerals.{add-one}
use native.Mathlib.Omega.{arith}
use lib.IntN.{ℤ, pos, negsuc}
use lib.Signed.{mag}
use mir.Syntax.{w64}
use mir.Val.{to_z, of_z}
use mir.ValLaws.{to_z-of_z}
use Rattle.bands.specs.declared.Sides.{Sides}
use Rattle.bands.specs.Bands.{above, beneath, counted, entry, valued, Small, Within}

-- what the machine holds of a coefficient, read back
pub read_back : (k : ℤ) → mag k ≤ 40000 → to_z w64 (of_z w64 k) ≡ k
read_back k h = to_z-of_z w64 k (record { sfits = omega arith })

-- ---- a term of five digits times fourteen

pub above_small : (k : ℤ) → mag k ≤ 40000 → above k ≤ 40001
above_small (pos n) h = omega arith
above_small (negsuc n) h = omega arith

pub beneath_small : (k : ℤ) → mag k ≤ 40000 → beneath k ≤ 40001
beneath_small (pos n) h = omega arith
beneath_small (negsuc n) h = omega arith

pub above_term : (k : ℤ) (w : ℕ) → mag k ≤ 40000 → w ≤ 10 ^ 13 → above k * w ≤ 40001 * 10 ^ 13
above_term k w h g = mul-le-mul (above_small k h) g

pub beneath_term : (k : ℤ) (w : ℕ) → mag k ≤ 40000 → w ≤ 10 ^ 13 → beneath k * w ≤ 40001 * 10 ^ 13
beneath_term k w h g = mul-le-mul (beneath_small k h) g

-- the first n terms are counted, and there is room for more
pub record Counting (row : List ℤ) (w : List ℕ) (n : ℕ) (s : Sides) : Type 0 where
  pub within : n ≤ 4
  pub so_far : s ≡ valued row w n
  pub up_room : s.up ≤ n * (40001 * 10 ^ 13)
  pub down_room : s.down ≤ n * (40001 * 10 ^ 13)

pub none_counted : (row : List ℤ) (w : List ℕ) → Counting row w 0 (record { up = 0; down = 0 })
unfolding valued
none_counted row w = record { within = omega arith; so_far = refl; up_room = omega arith; down_room = omega arith }

pub one_counted : (row : List ℤ) (w : List ℕ) (n : ℕ) {s t : Sides} → Small row → Within w → n < 4 → Counting row w n s → t ≡ counted s (to_z w64 (of_z w64 (entry row n))) (get_or w n 0) →
    Counting row w (n + 1) t
unfolding valued counted
one_counted row w n h g l r q =
    let e = rw (read_back (entry row n) (h.small n (omega arith))) at q in
    let up = above_term (entry row n) (get_or w n 0) (h.small n (omega arith)) (g.within n l) in
    let down = beneath_term (entry row n) (get_or w n 0) (h.small n (omega arith)) (g.within n l) in
    record {
      within = omega arith;
      so_far = rw (add-one n, ← r.so_far) e;
      up_room = rw e (omega (arith, r.up_room));
      down_room = rw e (omega (arith, r.down_room));
    }
