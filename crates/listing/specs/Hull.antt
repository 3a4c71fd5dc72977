-- What a hull alone decides, as numbers for a host: R and the mark of a partial index, and the share of each group of its zones. Assumes nothing.
use Rattle.std.specs.Prelude.{ℕ, zero, suc, ◌+◌, ◌/◌, List, [], ◌∷◌, ◌++◌}
use Rattle.records.specs.declared.Ends.{Ends}
use Rattle.records.specs.declared.Hull.{Hull}
use Rattle.records.specs.declared.Ratio.{Ratio}
use Rattle.numbers.specs.Ratio.{ratio_of}
use Rattle.spans.specs.Hull.{ship_of}
use Rattle.chances.specs.Share.{row_ends}
use Rattle.verdicts.specs.Required.{required_of, mark_of}
use Rattle.rows.specs.Work.{numbers}

-- numerator and denominator
abbrev pub two_numbers : Ratio → List ℕ
two_numbers r = r.num ∷ r.den ∷ []

-- R, then the mark of each partial index
unfoldable pub required_numbers : Hull → List ℕ
required_numbers h = two_numbers (ratio_of (required_of h)) ++ two_numbers (ratio_of (mark_of h))

-- the share of the group of n zones from zone a, down to B/2
unfoldable pub group_ends : Hull → ℕ → ℕ → Ends
group_ends h a n = row_ends (ship_of h) a n 0 (h.breadth / 2)

-- k groups from zone a on: of n zones, of n + 1, and so on
unfoldable pub groups_at : Hull → ℕ → ℕ → ℕ → List Ends
groups_at h a n zero = []
groups_at h a n (suc k) = group_ends h a n ∷ groups_at h a (n + 1) k

-- those of zone a and of the zones after it, k zones in all: "groups by a, then n"
unfoldable pub groups_from : Hull → ℕ → ℕ → List Ends
groups_from h a zero = []
groups_from h a (suc k) = groups_at h a 1 (suc k) ++ groups_from h (a + 1) k

-- of all zones, lower end and upper end
unfoldable pub group_numbers : Hull → List ℕ
group_numbers h = numbers (groups_from h 1 h.zones)
