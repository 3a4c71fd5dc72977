-- What is promised of a row's ends: the exact share lies between them, they lie at most 32 apart, and nothing is cut off. Assumes nothing.
use Rattle.std.specs.Prelude.{ℕ, ◌+◌, ◌*◌, ◌^◌, ◌≤◌}
use Rattle.numbers.specs.Figures.{Between}
use Rattle.solas.specs.Ship.{Ship, Sound}
use Rattle.solas.specs.Share.{row_share}
use Rattle.solas.specs.Count.{added, taken, Group}
use Rattle.spans.specs.Rounded.{Near}
use Rattle.chances.specs.Share.{low, high, row_ends}

-- a row of a ship of up to 60 m breadth: a group of zones, and a layer from b' to b
pub record Row (s : Ship) (a n b' b : ℕ) : Type 0 where
  pub sound : Sound s
  pub narrow : s.B ≤ 6000
  pub group : Group s a n
  pub some : 1 ≤ b
  pub rising : b' ≤ b
  pub deep : 2 * b ≤ s.B

abbrev pub SharesEnclosed : Type 0
SharesEnclosed = (s : Ship) (a n b' b : ℕ) → Row s a n b' b → Between (row_ends s a n b' b) (row_share s a n b' b)

abbrev pub SharesNear : Type 0
SharesNear = (s : Ship) (a n b' b : ℕ) → Row s a n b' b → Near 32 (row_ends s a n b' b)

-- what is subtracted for the upper end is never more than what is added
abbrev pub UpperNotCut : Type 0
UpperNotCut = (s : Ship) (a n b' b : ℕ) → Row s a n b' b → taken (low s b) a n + added (low s b') a n ≤ added (high s b) a n + taken (high s b') a n

abbrev pub LowerAtMostOne : Type 0
LowerAtMostOne = (s : Ship) (a n b' b : ℕ) → Row s a n b' b → (row_ends s a n b' b).lower ≤ 10 ^ 9
