-- The roots as numbers are the roots. Assumes nothing.
use mathlib.Core.Bool.{Bool, true, false, cond}
use mathlib.Core.Path.{◌≡◌, refl}
use Prim.Native.Nat.{ℕ, zero, suc, ◌+◌, ◌^◌, ◌≤◌, ◌<◌}
use native.Mathlib.Nat.{pow-suc, le_of_lt}
use native.Mathlib.Omega.{arith}
use borrow.Author.Tests.{leb-true, leb-false, eqb-true, eqb-false}
use lib.Dec.{leb, eqb}
use Rattle.roots.specs.Root.{RootDown, RootUp, with_digits, root_down, root_up}
use Rattle.roots.proofs.Root.{down_between, below_next, up_exact, up_next, down_unique, up_unique}

digits_root : (n k s : ℕ) → s ^ 4 ≤ n → n < (s + 2 ^ k) ^ 4 → RootDown n (with_digits n k s)
unfolding with_digits
digits_root n zero s low high = down_between low high
digits_root n (suc k) s low high = chosen (λ t. digits_root n k t) (leb ((s + 2 ^ k) ^ 4) n) refl
  where
    twice : s + 2 ^ suc k ≡ s + 2 ^ k + 2 ^ k
    twice = omega (arith, pow-suc 2 k)

    chosen : ((t : ℕ) → t ^ 4 ≤ n → n < (t + 2 ^ k) ^ 4 → RootDown n (with_digits n k t))
        → (b : Bool) → leb ((s + 2 ^ k) ^ 4) n ≡ b → RootDown n (with_digits n k (cond b (s + 2 ^ k) s))
    chosen rest true e = rest (s + 2 ^ k) (leb-true _ _ e) (rw twice at high)
    chosen rest false e = rest s low (leb-false _ _ e)

pub down_root : (n : ℕ) → n < 2 ^ 56 → RootDown n (root_down n)
unfolding root_down
down_root n h = digits_root n 14 0 (omega arith) (omega arith)

pub up_root : (n : ℕ) → n < 2 ^ 56 → RootUp n (root_up n)
unfolding root_up
up_root n h = chosen (eqb (root_down n ^ 4) n) refl
  where
    chosen : (b : Bool) → eqb (root_down n ^ 4) n ≡ b → RootUp n (cond b (root_down n) (root_down n + 1))
    chosen true e = up_exact (eqb-true _ _ e)
    chosen false e = let p = down_root n h in up_next n (root_down n) p.within (le_of_lt (below_next p)) (eqb-false _ _ e)

-- so whatever is a root is that number
pub down_value : {n s : ℕ} → n < 2 ^ 56 → RootDown n s → s ≡ root_down n
down_value {n} h p = down_unique p (down_root n h)

pub up_value : {n s : ℕ} → n < 2 ^ 56 → RootUp n s → s ≡ root_up n
up_value {n} h p = up_unique p (up_root n h)
