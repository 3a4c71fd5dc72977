-- At the half breadth C is one, and Q of a span is its P. Assumes nothing.
use Prim.Native.Nat.{ℕ, ◌*◌, ◌^◌, ◌<◌}
use mathlib.Core.Path.{◌≡◌}
use native.Mathlib.Nat.{le_of_eq, one-le-pow}
use native.Mathlib.Omega.{arith}
use Rattle.laws.specs.Fraction.{whole, ◌≈◌}
use Rattle.laws.proofs.Fraction.{is_one, same}
use Rattle.laws.proofs.FractionRing.{mixed_one}
use Rattle.solas.specs.Span.{P}
use Rattle.solas.specs.Penetration.{C, G, Q}
use Rattle.solas.proofs.Depth.{C_is, c_one}

module _ {B : ℕ} (hB : 0 < B) where
  breadth_squared : 0 < 5 * B ^ 2
  breadth_squared = omega (arith, one-le-pow 2 B hB)

  pub C_one : (b : ℕ) → 2 * b ≡ B → C B b ≈ whole 1
  C_one b e = same breadth_squared (rw (c_one B b e) at (C_is B b hB (le_of_eq e))) (is_one breadth_squared)

pub Q_half_breadth : {B : ℕ} → 0 < B → (L aft fwd b : ℕ) → 2 * b ≡ B → Q L B aft fwd b ≈ P L aft fwd
unfolding Q
Q_half_breadth hB L aft fwd b e = mixed_one (P L aft fwd) (G L _ aft fwd b) (C_one hB b e)
