-- What a host gets of an accepted file's hull, number by number: R and the mark of a partial index as fractions, and the share of each group of its zones; and that a
-- refused file leaves what was lent, for its rows too. Assumes nothing.
use Rattle.std.specs.Prelude.{ℕ, zero, suc, ◌+◌, ◌-◌, ◌*◌, ◌^◌, ◌≤◌, ◌≡◌, List, [], ◌∷◌, ◌⊎◌, length, get_or}
use Rattle.laws.specs.Fraction.{Fraction, ◌over◌, whole, ◌≈◌, ◌≼◌, ◌⊹◌}
use Rattle.records.specs.declared.Hull.{Hull}
use Rattle.numbers.specs.Figures.{billionths}
use Rattle.solas.specs.Count.{Group, groups}
use Rattle.spans.specs.Hull.{ship_of}
use Rattle.indices.specs.Exact.{AtAll}
use Rattle.verdicts.specs.Required.{required_of, mark_of}
use Rattle.printing.specs.Written.{count_in, written_in}
use Rattle.casefile.specs.Record.{Case}
use Rattle.casefile.specs.Reading.{Reading, refused, accepted, reading}
use Rattle.listing.specs.Hull.{group_ends}
use Rattle.answers.specs.Report.{rows_in, required_in, groups_in}
use Rattle.promises.specs.Rows.{rows_of, chances, group_share, Listed}
use Rattle.promises.specs.Sheet.{ShareBetween}

-- ---- R and the mark

-- the two numbers from the place at on, numerator and denominator, are f
pub record FractionAt (numbers : List ℕ) (at : ℕ) (f : Fraction) : Type 0 where
  pub some : 1 ≤ get_or numbers (at + 1) 0
  pub exact : get_or numbers at 0 over get_or numbers (at + 1) 0 ≈ f

-- the mark's two numbers are those of R, so many times
pub record TimesR (numbers : List ℕ) (up down : ℕ) : Type 0 where
  pub numerator : get_or numbers 2 0 ≡ get_or numbers 0 0 * up
  pub denominator : get_or numbers 3 0 ≡ get_or numbers 1 0 * down

-- four numbers: R, then the mark of each partial index, half of R or of a passenger ship nine tenths, not reduced
pub record RequiredOf (h : Hull) (numbers : List ℕ) : Type 0 where
  pub all : length numbers ≡ 4
  pub required : FractionAt numbers 0 (required_of h)
  pub mark : FractionAt numbers 2 (mark_of h)
  pub cargo : (h.kind ≡ 6 → ⊥) → TimesR numbers 1 2
  pub passengers : h.kind ≡ 6 → TimesR numbers 9 10

abbrev pub RequiredTells : Type 0
RequiredTells = (f : List ℕ) (c : Case) → reading f ≡ accepted c → RequiredOf c.hull (required_in (reading f))

-- ---- groups

-- of a ship of m zones, how many groups begin with one of its first a zones: m with the first, m - 1 with the second, and so on
unfoldable pub begun_by : ℕ → ℕ → ℕ
begun_by m zero = 0
begun_by m (suc a) = begun_by m a + (m - a)

-- how many stand before the group of n zones from zone a: those of the zones before it, and the shorter ones of its own
abbrev pub groups_before : ℕ → ℕ → ℕ → ℕ
groups_before m a n = begun_by m (a - 1) + (n - 1)

-- where its lower end stands; its upper end is the next number
abbrev pub group_place : Hull → ℕ → ℕ → ℕ
group_place h a n = 2 * groups_before h.zones a n

-- the group of n zones from zone a has its two numbers there, the ends of its share down to B/2
pub record GroupAt (h : Hull) (numbers : List ℕ) (a n : ℕ) : Type 0 where
  pub lower : get_or numbers (group_place h a n) 0 ≡ (group_ends h a n).lower
  pub upper : get_or numbers (group_place h a n + 1) 0 ≡ (group_ends h a n).upper

abbrev pub GroupsTell : Type 0
GroupsTell = (f : List ℕ) (c : Case) → reading f ≡ accepted c → (length (groups_in (reading f)) ≡ c.hull.zones * (c.hull.zones + 1))
    × ((a n : ℕ) → Group (ship_of c.hull) a n → GroupAt c.hull (groups_in (reading f)) a n)

-- and its exact share lies between them, as a row's does on the sheet
abbrev pub GroupsEnclose : Type 0
GroupsEnclose = (f : List ℕ) (c : Case) → reading f ≡ accepted c → (a n : ℕ) → Group (ship_of c.hull) a n →
    let place = group_place c.hull a n in
    ShareBetween (get_or (groups_in (reading f)) place 0) (get_or (groups_in (reading f)) (place + 1) 0) (group_share c.hull a n)

-- where the upper end is 0 the group has no share, so that no row of it is asked for; and where it has none, the lower end is 0
abbrev pub GroupsOfNoShare : Type 0
GroupsOfNoShare = (f : List ℕ) (c : Case) → reading f ≡ accepted c → (a n : ℕ) → Group (ship_of c.hull) a n →
    let place = group_place c.hull a n in
    (get_or (groups_in (reading f)) (place + 1) 0 ≡ 0 → group_share c.hull a n ≈ whole 0) × (group_share c.hull a n ≈ whole 0 → get_or (groups_in (reading f)) place 0 ≡ 0)

-- the lower ends of all groups together are at most one, and the upper ends at least one
abbrev pub lower_ends : List ℕ → ℕ
lower_ends [] = 0
lower_ends (lower ∷ []) = lower
lower_ends (lower ∷ upper ∷ numbers) = lower + lower_ends numbers

abbrev pub upper_ends : List ℕ → ℕ
upper_ends [] = 0
upper_ends (lower ∷ []) = 0
upper_ends (lower ∷ upper ∷ numbers) = upper + upper_ends numbers

abbrev pub GroupsAreAll : Type 0
GroupsAreAll = (f : List ℕ) (c : Case) → reading f ≡ accepted c → (lower_ends (groups_in (reading f)) ≤ 10 ^ 9) × (10 ^ 9 ≤ upper_ends (groups_in (reading f)))

-- what a file leaves out: the exact chances of its listed cases, with the upper ends of the groups that are not listed, come to at least one at each draught.
-- u has a number for each group, which is not below the upper end where the group is not listed
abbrev pub GroupsLeftOut : Type 0
GroupsLeftOut = (f : List ℕ) (c : Case) → reading f ≡ accepted c → (u : ℕ → ℕ → ℕ) →
    ((a n : ℕ) → Group (ship_of c.hull) a n → Listed c a n ⊎ (get_or (groups_in (reading f)) (group_place c.hull a n + 1) 0 ≤ u a n)) →
    AtAll (λ rows. whole 1 ≼ chances rows ⊹ billionths (groups u c.hull.zones)) (rows_of c)

-- ---- what a host may lend

-- numbers of the groups of twenty zones
abbrev pub longest_groups : ℕ
longest_groups = 420

-- no file has more, so that as many are enough for every input
abbrev pub GroupsFit : Type 0
GroupsFit = (f : List ℕ) → length (groups_in (reading f)) ≤ longest_groups

-- ---- a refused file tells nothing, of its rows and of its hull, and what was lent stays
abbrev pub Untold : (Reading → List ℕ) → Type 0
Untold told = (f lent : List ℕ) (k l : ℕ) → reading f ≡ refused k l → (count_in (told (reading f)) lent ≡ 0) × (written_in (told (reading f)) lent ≡ lent)

abbrev pub RefusedTellsNothing : Type 0
RefusedTellsNothing = Untold rows_in × Untold required_in × Untold groups_in
