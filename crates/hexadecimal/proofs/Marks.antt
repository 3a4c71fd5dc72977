-- A byte by its value as a digit, 16 where it is none. Assumes nothing.
use Prim.Native.Nat.{ℕ, ◌%◌, ◌<◌}
use mathlib.Core.Path.{◌≡◌, refl}
use mathlib.Core.Bool.{not}
use native.Mathlib.Omega.{arith}
use lib.Dec.{eqb}
use borrow.Author.Tests.{ne_eqb}
use Rattle.std.specs.Prelude.{Option, Some, None}
use Rattle.hexadecimal.specs.Hex.{digit_of, refusal_of, value_of, mark_of}
use Rattle.hexadecimal.proofs.Hex.{digit_below}

-- what is no digit has a mark of its own, which counts as 0 in a byte
module _ (b m : ℕ) (e : m ≡ mark_of (digit_of b)) where
  by_digit : (d : Option ℕ) → ((v : ℕ) → d ≡ Some v → v < 16) → m ≡ mark_of d → (eqb m 16 ≡ not (eqb (refusal_of d) 0)) × (m % 16 ≡ value_of d)
  by_digit (Some v) below f = let h : v < 16 = below v refl in (ne_eqb m 16 (λ g. omega arith), omega arith)
  by_digit None below f = rw f (refl, refl)

  pub mark_tells : eqb m 16 ≡ not (eqb (refusal_of (digit_of b)) 0)
  mark_tells = (by_digit (digit_of b) (digit_below b) e).0

  pub mark_counts : m % 16 ≡ value_of (digit_of b)
  mark_counts = (by_digit (digit_of b) (digit_below b) e).1
