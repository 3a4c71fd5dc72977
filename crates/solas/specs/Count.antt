-- How the rules for one, two, three and more zones count, whatever figure the zones from a to e have: a chance, or one hole. Assumes nothing.
use Rattle.std.specs.Prelude.{ℕ, zero, suc, ◌+◌, ◌-◌, ◌*◌, ◌≤◌, ◌<◌, ◌≡◌, Bool, true, false, leb}
use Rattle.laws.specs.Sums.{sum_below}
use Rattle.solas.specs.Ship.{Ship, Zoned}

-- what is added for the group of n zones from zone a, where F a e is the figure of the zones from a to e
unfoldable pub added : (ℕ → ℕ → ℕ) → ℕ → ℕ → ℕ
added F a zero = 0
added F a (suc zero) = F a a
added F a (suc (suc zero)) = F a (a + 1)
added F a (suc (suc (suc k))) = F a (a + k + 2) + F (a + 1) (a + k + 1)

-- what is taken away for it
unfoldable pub taken : (ℕ → ℕ → ℕ) → ℕ → ℕ → ℕ
taken F a zero = 0
taken F a (suc zero) = 0
taken F a (suc (suc zero)) = F a a + F (a + 1) (a + 1)
taken F a (suc (suc (suc k))) = F a (a + k + 1) + F (a + 1) (a + k + 2)

-- f of every group of m zones together
unfoldable pub groups : (ℕ → ℕ → ℕ) → ℕ → ℕ
groups f m = sum_below (λ i. sum_below (λ j. f (suc i) (suc j)) (m - i)) m

-- 1 for yes, 0 for no
abbrev pub mark : Bool → ℕ
mark true = 1
mark false = 0

-- ---- one hole, from the place u to the place w: 1 where it lies within the zones from a to e, else 0
unfoldable pub hole : Ship → ℕ → ℕ → ℕ → ℕ → ℕ
hole s u w a e = mark (leb (s.aft a) u) * mark (leb w (s.fwd e))

-- the group of n zones from zone a is one of the ship's
pub record Group (s : Ship) (a n : ℕ) : Type 0 where
  pub from : 1 ≤ a
  pub some : 1 ≤ n
  pub fits : a + n ≤ s.m + 1

-- no group counts the hole less than 0 times or more than once, and all groups together count it once
pub record CountsOnce (s : Ship) (u w : ℕ) : Type 0 where
  pub least : (a n : ℕ) → Group s a n → taken (hole s u w) a n ≤ added (hole s u w) a n
  pub most : (a n : ℕ) → Group s a n → added (hole s u w) a n ≤ taken (hole s u w) a n + 1
  pub once : groups (added (hole s u w)) s.m ≡ groups (taken (hole s u w)) s.m + 1

-- ONE HOLE: every hole in the side of every ship in zones, whatever its length and breadth
abbrev pub OneHole : Type 0
OneHole = (s : Ship) → Zoned s → (u w : ℕ) → u < w → w ≤ s.L → CountsOnce s u w
