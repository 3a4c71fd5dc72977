-- `digit_of` meets its contract: a number from ten on holds one ten, a lesser one none. Assumes nothing.
use Prim.Native.Nat.{ℕ, ◌+◌, ◌*◌, ◌/◌, ◌<◌}
use mathlib.Core.Path.{◌≡◌, refl}
use mathlib.Core.Bool.{Bool, true, false}
use native.Mathlib.Omega.{arith}
use lib.Dec.{ltb}
use borrow.Author.Tests.{ltb-true, ltb-false}
use Rattle.hexadecimal.specs.Hex.{digit}
use Rattle.digits.proofs.digit_of.Goals as goal

by_tens : (n : ℕ) → n < 16 → 48 + n + n / 10 * 39 ≡ digit n
unfolding digit
by_tens n h = by (ltb n 10) refl
  where
    by : (t : Bool) → ltb n 10 ≡ t → 48 + n + n / 10 * 39 ≡ digit n
    by true e = rw e (omega (arith, ltb-true n 10 e))
    by false e = rw e (omega (arith, ltb-false n 10 e))

pub returns : goal.returns
returns c = by_tens c.args.n c.requires
