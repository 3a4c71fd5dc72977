-- What is promised of refusals: which number and line a file gets, that it gets one answer only, and the order of the table. Assumes nothing.
use Rattle.std.specs.Prelude.{ℕ, ◌+◌, ◌-◌, ◌≤◌, ◌<◌, ◌≡◌, true, false, cond, ◌↔◌, ◌⊎◌, eqb, length, get_or, take}
use mathlib.Core.List.{List, [], ◌∷◌, ◌++◌, map, Memᴰ}
use Rattle.records.specs.declared.Hull.{Hull}
use Rattle.lines.specs.Lines.{Line, lines}
use Rattle.hexadecimal.specs.Hex.{pairs, badly_written, line_of}
use Rattle.casefile.specs.declared.Progress.{Progress}
use Rattle.casefile.specs.Record.{Case}
use Rattle.casefile.specs.Layout.{kind_of, fields_of, is_row, is_end, hull_of, words, inner_of, persons_of}
use Rattle.casefile.specs.Limits.{longest_input, sizes_fit, aboard}
use Rattle.casefile.specs.Table.{Check, wrong_hull_frame, hull_checks, line_checks}
use Rattle.casefile.specs.Reading.{refused, accepted, Stage, begin, next, reading}
use Rattle.casefile.specs.Valid.{ValidHull}
use Rattle.casefile.specs.Answer.{number_of, frame_at}

-- ---- lines by their numbers, from 1 on

abbrev pub line_at : List Line → ℕ → Line
line_at ls i = get_or ls (i - 1) (record { text = []; closed = false })

-- what the lines say where they pass, from a stage on
unfoldable pub after : Stage → List Line → Stage
after s [] = s
after s (l ∷ ls) = after (next s l) ls

-- the number of what line i is judged to be, 0 where it passes: by what the lines before it say
unfoldable pub number_at : List Line → ℕ → ℕ
number_at ls i = number_of (frame_at (after begin (take (i - 1) ls)) (line_at ls i))

abbrev pub PassBefore : List Line → ℕ → Type 0
PassBefore ls n = (i : ℕ) → 1 ≤ i → i < n → number_at ls i ≡ 0

abbrev pub IsEndFrame : Line → Type 0
IsEndFrame l = is_end (kind_of (pairs l.text)) ≡ true

-- ---- the three ways to be refused

pub record TooLong (f : List ℕ) (k l : ℕ) : Type 0 where
  pub long : longest_input < length f
  pub number : k ≡ 1
  pub line : l ≡ 0

-- the lines before line l pass, and k is the number that it gets: that of the first check that holds there (SaysTheLine)
pub record AtLine (f : List ℕ) (k l : ℕ) : Type 0 where
  pub short : length f ≤ longest_input
  pub from : 1 ≤ l
  pub to : l ≤ length (lines f)
  pub before : PassBefore (lines f) l
  pub number : number_at (lines f) l ≡ k
  pub some : k ≡ 0 → ⊥

-- every line passes, and none is an end frame
pub record NoEnd (f : List ℕ) (k l : ℕ) : Type 0 where
  pub short : length f ≤ longest_input
  pub before : PassBefore (lines f) l
  pub none : (i : ℕ) → 1 ≤ i → i < l → IsEndFrame (line_at (lines f) i) → ⊥
  pub number : k ≡ 10
  pub line : l ≡ length (lines f) + 1

abbrev pub Refusal : List ℕ → ℕ → ℕ → Type 0
Refusal f k l = TooLong f k l ⊎ (AtLine f k l ⊎ NoEnd f k l)

abbrev pub Refusals : Type 0
Refusals = (f : List ℕ) (k l : ℕ) → (reading f ≡ refused k l) ↔ Refusal f k l

-- ---- 13: "a 2020 ship of 1,351 to 6,000 persons, line 1, right after 4"

abbrev pub first_bytes : List ℕ → List ℕ
first_bytes f = pairs (line_at (lines f) 1).text

abbrev pub first_hull : List ℕ → Hull
first_hull f = hull_of (kind_of (first_bytes f)) (fields_of (first_bytes f))

-- line 1 is a hull frame within the limits of 4, of such a ship
pub record OfTheBand (f : List ℕ) : Type 0 where
  pub short : length f ≤ longest_input
  pub some : 1 ≤ length (lines f)
  pub written : badly_written (line_at (lines f) 1) ≡ false
  pub frame : wrong_hull_frame (first_bytes f) ≡ false
  pub sizes : sizes_fit (first_hull f) ≡ true
  pub rule : (first_hull f).rule ≡ 1
  pub from : 1351 ≤ aboard (first_hull f)
  pub to : aboard (first_hull f) ≤ 6000

abbrev pub ThirteenExactly : Type 0
ThirteenExactly = (f : List ℕ) (l : ℕ) → (reading f ≡ refused 13 l) ↔ ((l ≡ 1) × OfTheBand f)

abbrev pub BandIsNotTaken : Type 0
BandIsNotTaken = (f : List ℕ) (c : Case) → reading f ≡ accepted c → c.hull.rule ≡ 1 → (aboard c.hull ≤ 1350) ⊎ (6001 ≤ aboard c.hull)

-- ---- a passenger ship's hull from before it said its rule

-- its bytes: the zone count stood right after the persons
unfoldable pub old_hull_bytes : Hull → List ℕ
old_hull_bytes h = h.kind ∷ words (h.length ∷ h.breadth ∷ h.deepest ∷ h.light ∷ persons_of h) ++ h.zones ∷ words (inner_of h)

-- of one zone it is too short; of more the zone count is read as the rule
abbrev pub old_hull_number : ℕ → ℕ
old_hull_number zones = cond (eqb zones 1) 3 4

-- each that was accepted then is that of a valid hull of the earlier rule; whatever comes after line 1
abbrev pub OldHullsRefused : Type 0
OldHullsRefused = (h : Hull) (rest : List ℕ) → ValidHull h → h.kind ≡ 6 →
    let f = line_of (old_hull_bytes h) ++ rest in length f ≤ longest_input → reading f ≡ refused (old_hull_number h.zones) 1

-- ---- one answer

abbrev pub Answered : Type 0
Answered = (f : List ℕ) → ((c : Case) × (reading f ≡ accepted c)) ⊎ ((k : ℕ) × (l : ℕ) × Refusal f k l)

abbrev pub OneRefusal : Type 0
OneRefusal = (f : List ℕ) (k l k' l' : ℕ) → Refusal f k l → Refusal f k' l' → (k ≡ k') × (l ≡ l')

abbrev pub NotBoth : Type 0
NotBoth = (f : List ℕ) (c : Case) (k l : ℕ) → reading f ≡ accepted c → Refusal f k l → ⊥

-- ---- the table

-- the numbers of the table, in its order; 11 is of the sheet
abbrev pub numbers : List ℕ
numbers = 1 ∷ 10 ∷ 2 ∷ 3 ∷ 4 ∷ 13 ∷ 5 ∷ 6 ∷ 7 ∷ 8 ∷ 9 ∷ []

abbrev pub OfTheTable : Type 0
OfTheTable = (f : List ℕ) (k l : ℕ) → reading f ≡ refused k l → Memᴰ k numbers

abbrev pub numbers_of : List Check → List ℕ
numbers_of cs = map (λ c. c.number) cs

-- each kind of line is judged by the table's order
pub record InTurn : Type 0 where
  pub hull : (l : Line) → numbers_of (hull_checks l) ≡ 2 ∷ 3 ∷ 4 ∷ 13 ∷ 5 ∷ []
  pub row : (h : Hull) (p : Progress) (l : Line) → is_row (kind_of (pairs l.text)) ≡ true → numbers_of (line_checks h p l) ≡ 10 ∷ 2 ∷ 3 ∷ 6 ∷ 7 ∷ 8 ∷ 9 ∷ []
  pub end : (h : Hull) (p : Progress) (l : Line) → is_row (kind_of (pairs l.text)) ≡ false → numbers_of (line_checks h p l) ≡ 10 ∷ 2 ∷ 3 ∷ 6 ∷ 9 ∷ []
