-- The places of an accepted hull rise from end to end, and its ship is sound. Assumes nothing.
use Prim.Native.Nat.{ℕ, ◌≤◌, zero-le}
use native.Mathlib.Nat.{le_refl}
use native.Mathlib.Omega.{arith}
use lib.ListN.{get_or}
use Rattle.laws.proofs.Rising.{places_rise}
use Rattle.records.specs.declared.Hull.{Hull}
use Rattle.solas.specs.Ship.{Sound}
use Rattle.solas.proofs.Sound.{abutting_sound}
use Rattle.spans.specs.Hull.{ship_of, Hulled}

module _ {h : Hull} (s : Hulled h) where
  pub place_below : {i j : ℕ} → i ≤ j → j ≤ h.zones → get_or h.places i 0 ≤ get_or h.places j 0
  place_below = places_rise (λ i. get_or h.places i 0) (λ i _. s.rising i) zero-le

  pub place_within : {j : ℕ} → j ≤ h.zones → get_or h.places j 0 ≤ h.length
  place_within l = omega (arith, place_below l (le_refl h.zones), s.bow)

  pub ship_sound : Sound (ship_of h)
  ship_sound =
      abutting_sound h.length h.breadth h.zones h.places s.long s.short (omega (arith, s.broad)) s.some s.stern s.bow s.rising
