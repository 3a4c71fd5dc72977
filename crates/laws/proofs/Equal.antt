-- Fractions compared by cross multiplication: the lesser has the lesser floor and ceiling, and equal ones have the same. Assumes nothing.
use Prim.Native.Nat.{ℕ, ◌*◌, ◌/◌, ◌≤◌, ◌<◌}
use mathlib.Core.Path.{◌≡◌, sym}
use native.Mathlib.Nat.{le_of_eq, le_antisymm, div-mul-le_self, le-div_iff_mul-le, mul-le-mul_right, le_of_mul-le-mul_right}
use native.Mathlib.Omega.{arith}
use Rattle.laws.specs.Rounding.{ceil}
use Rattle.laws.proofs.Rounding.{ceil_lower, ceil_least}

module _ (a c : ℕ) {b d : ℕ} (hb : 0 < b) (hd : 0 < d) where
  pub lesser_floor : a * d ≤ c * b → a / b ≤ c / d
  lesser_floor h =
      let cross : a / b * d * b ≤ c * b = omega (arith, mul-le-mul_right d (div-mul-le_self a b)) in
      (le-div_iff_mul-le hd).1 (le_of_mul-le-mul_right cross hb)

  pub lesser_ceil : a * d ≤ c * b → ceil a b ≤ ceil c d
  lesser_ceil h =
      let cross : a * d ≤ ceil c d * b * d = omega (arith, mul-le-mul_right b (ceil_lower c d hd)) in
      (ceil_least a b (ceil c d) hb).1 (le_of_mul-le-mul_right cross hd)

module _ (a c : ℕ) {b d : ℕ} (hb : 0 < b) (hd : 0 < d) (e : a * d ≡ c * b) where
  pub same_floor : a / b ≡ c / d
  same_floor = le_antisymm (lesser_floor a c hb hd (le_of_eq e)) (lesser_floor c a hd hb (le_of_eq (sym e)))

  pub same_ceil : ceil a b ≡ ceil c d
  same_ceil = le_antisymm (lesser_ceil a c hb hd (le_of_eq e)) (lesser_ceil c a hd hb (le_of_eq (sym e)))
