-- Sound ships are there: zones that abut at rising places make one. Assumes nothing.
use Prim.Native.Nat.{ℕ, ◌+◌, ◌-◌, ◌≤◌, ◌<◌}
use mathlib.Core.Path.{◌≡◌, ap}
use mathlib.Core.List.{List}
use native.Mathlib.Nat.{le_of_eq}
use native.Mathlib.Omega.{arith}
use lib.ListN.{get_or}
use Rattle.solas.specs.Ship.{Zoned, Sound, abutting}

-- places that rise from 0 to the ship's length, one for each end of a zone
pub abutting_zoned : (L B m : ℕ) (places : List ℕ) → 1 ≤ m → get_or places 0 0 ≡ 0 → get_or places m 0 ≡ L →
    ((k : ℕ) → k < m → get_or places k 0 < get_or places (k + 1) 0) → Zoned (abutting L B m places)
abutting_zoned L B m places some stern bow rising = record {
  some = some;
  stern = stern;
  bow = bow;
  zone = λ a p q. let e : get_or places (a - 1 + 1) 0 ≡ get_or places a 0 = ap (λ k. get_or places k 0) (omega arith) in omega (arith, rising (a - 1) (omega arith));
  next = λ a p q. le_of_eq (ap (λ k. get_or places k 0) (omega arith));
}

pub abutting_sound : (L B m : ℕ) (places : List ℕ) → 2000 ≤ L → L ≤ 19800 → 0 < B → 1 ≤ m → get_or places 0 0 ≡ 0 → get_or places m 0 ≡ L →
    ((k : ℕ) → k < m → get_or places k 0 < get_or places (k + 1) 0) → Sound (abutting L B m places)
abutting_sound L B m places long short broad some stern bow rising =
    record { long = long; short = short; broad = broad; zones = abutting_zoned L B m places some stern bow rising }
