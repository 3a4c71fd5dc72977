-- The places of a ship's zones: they rise, and lie within the ship. Assumes nothing.
use Prim.Native.Nat.{ℕ, ◌+◌, ◌≤◌, ◌<◌}
use native.Mathlib.Nat.{le_refl}
use native.Mathlib.Omega.{arith}
use Rattle.laws.proofs.Rising.{places_rise}
use Rattle.solas.specs.Ship.{Ship, Zoned}

module _ {s : Ship} (h : Zoned s) where
  -- a zone ends where the next begins, or before
  pub aft_next : (a : ℕ) → 1 ≤ a → a < s.m → s.aft a < s.aft (a + 1)
  aft_next a p q = omega (arith, h.zone a p (omega arith), h.next a p q)

  pub fwd_next : (a : ℕ) → 1 ≤ a → a < s.m → s.fwd a < s.fwd (a + 1)
  fwd_next a p q = omega (arith, h.zone (a + 1) (omega arith) (omega arith), h.next a p q)

  pub fwd_rises : {a e : ℕ} → 1 ≤ a → a ≤ e → e ≤ s.m → s.fwd a ≤ s.fwd e
  fwd_rises = places_rise (λ a. s.fwd a) fwd_next

  -- the zones from a to e are a span within the ship
  pub span : {a e : ℕ} → 1 ≤ a → a ≤ e → e ≤ s.m → s.aft a < s.fwd e
  span {a} {e} p q r = omega (arith, h.zone a p (omega arith), fwd_rises p q r)

  pub ends_within : {e : ℕ} → 1 ≤ e → e ≤ s.m → s.fwd e ≤ s.L
  ends_within p q = omega (arith, fwd_rises p q (le_refl s.m), h.bow)
