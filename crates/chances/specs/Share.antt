-- 01, "Shares", in billionths: the ends of a row's share, from those of up to eight Q. Assumes nothing.
use Rattle.std.specs.Prelude.{ℕ, zero, suc, ◌+◌, ◌-◌, ◌*◌, ◌^◌, ◌≤◌, min}
use Rattle.records.specs.declared.Ends.{Ends}
use Rattle.solas.specs.Ship.{Ship}
use Rattle.solas.specs.Count.{added, taken}
use Rattle.chances.specs.declared.Sums.{Sums}
use Rattle.penetration.specs.Penetration.{QEnds}

-- Q of the zones from a to e, both taken in; "b = 0 gives 0"
unfoldable pub within_ends : Ship → ℕ → ℕ → ℕ → Ends
within_ends s zero a e = record { lower = 0; upper = 0 }
within_ends s (suc b) a e = QEnds s.L s.B (s.aft a) (s.fwd e) (suc b)

abbrev pub low : Ship → ℕ → ℕ → ℕ → ℕ
low s b a e = (within_ends s b a e).lower

abbrev pub high : Ship → ℕ → ℕ → ℕ → ℕ
high s b a e = (within_ends s b a e).upper

-- of the group of n zones from zone a at one b, the sums of the ends that are added and of those that are taken away
unfoldable pub sums_of : Ship → ℕ → ℕ → ℕ → Sums
sums_of s b a n =
    record {
      added = record { lower = added (low s b) a n; upper = added (high s b) a n };
      taken = record { lower = taken (low s b) a n; upper = taken (high s b) a n };
    }

-- no chance on either side
abbrev pub nothing : Sums
nothing = record { added = record { lower = 0; upper = 0 }; taken = record { lower = 0; upper = 0 } }

-- no more than two chances on either side
pub record Few (s : Sums) : Type 0 where
  pub added_order : s.added.lower ≤ s.added.upper
  pub added_few : s.added.upper ≤ 2 * 10 ^ 9
  pub taken_order : s.taken.lower ≤ s.taken.upper
  pub taken_few : s.taken.upper ≤ 2 * 10 ^ 9

-- the row of the group of n zones from zone a, in the layer from b' to b: "every added Q low and every subtracted Q high, and is then, once, held
-- to be not below 0; the upper the other way, not above 10⁹"
unfoldable pub lowest : Sums → Sums → ℕ
lowest before at = at.added.lower + before.taken.lower - (at.taken.upper + before.added.upper)

unfoldable pub highest : Sums → Sums → ℕ
highest before at = at.added.upper + before.taken.upper - (at.taken.lower + before.added.lower)

unfoldable pub row_of : Sums → Sums → Ends
row_of before at = record { lower = lowest before at; upper = min (10 ^ 9) (highest before at) }

unfoldable pub row_ends : Ship → ℕ → ℕ → ℕ → ℕ → Ends
row_ends s a n b' b = row_of (sums_of s b' a n) (sums_of s b a n)
