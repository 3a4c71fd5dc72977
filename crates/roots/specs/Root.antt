-- The fourth root of a whole number, rounded down and rounded up: 01, "Height and survival". Assumes nothing.
use Rattle.std.specs.Prelude.{cond, ℕ, zero, suc, ◌+◌, ◌^◌, ◌≤◌, leb, eqb}

-- "the greatest whole s with s⁴ not above" n
pub record RootDown (n s : ℕ) : Type 0 where
  pub within : s ^ 4 ≤ n
  pub greatest : (t : ℕ) → t ^ 4 ≤ n → t ≤ s

-- "the least not below" n
pub record RootUp (n s : ℕ) : Type 0 where
  pub reaches : n ≤ s ^ 4
  pub least : (t : ℕ) → n ≤ t ^ 4 → s ≤ t

-- s, and of its last k binary digits each that keeps the fourth power within n, the highest first
unfoldable pub with_digits : ℕ → ℕ → ℕ → ℕ
with_digits n zero s = s
with_digits n (suc k) s = with_digits n k (cond (leb ((s + 2 ^ k) ^ 4) n) (s + 2 ^ k) s)

-- the roots as numbers, for an n below 2⁵⁶
unfoldable pub root_down : ℕ → ℕ
root_down n = with_digits n 14 0

unfoldable pub root_up : ℕ → ℕ
root_up n = cond (eqb (root_down n ^ 4) n) (root_down n) (root_down n + 1)
