-- What is promised of the reading: a file is accepted exactly when it keeps document 01's rules, with document 02's openings, second sets and passenger ships, and its lines say the case. Assumes nothing.
use Rattle.std.specs.Prelude.{ℕ, ◌≤◌, ◌≡◌, List, [], ◌∷◌, ◌++◌, map, ◌↔◌, ◌⊎◌, length}
use Rattle.lines.specs.Lines.{Line, lines}
use Rattle.casefile.specs.Record.{Row, Case}
use Rattle.casefile.specs.Layout.{result_numbers, hull_values}
use Rattle.casefile.specs.Limits.{longest_input}
use Rattle.casefile.specs.Reading.{refused, accepted, Stage, begin, next, reading}
use Rattle.casefile.specs.Answer.{values_of, frame_at, hull_at, results_at}
use Rattle.casefile.specs.Encode.{encode}
use Rattle.casefile.specs.Valid.{Valid}

-- a file is read as the case c exactly when it is not too long, c is valid, and the file is c's, byte by byte
abbrev pub Acceptance : Type 0
Acceptance = (f : List ℕ) (c : Case) → (reading f ≡ accepted c) ↔ ((length f ≤ longest_input) × Valid c × (f ≡ encode c))

-- no valid case of a cargo ship has a longer file than a hull of 20 zones with 500 rows of two sets: of each the file is read, and as that case
abbrev pub longest_file : ℕ
longest_file = 55604

abbrev pub EveryCargoCaseIsRead : Type 0
EveryCargoCaseIsRead = (c : Case) → Valid c → c.hull.kind ≡ 1 → (length (encode c) ≤ longest_file) × (reading (encode c) ≡ accepted c)

-- a passenger ship's is read where it has at most 427 rows, or 428 in at most 4 zones; any other is too long
abbrev pub FewEnough : Case → Type 0
FewEnough c = (length c.rows ≤ 427) ⊎ ((length c.rows ≡ 428) × (c.hull.zones ≤ 4))

abbrev pub PassengerCasesRead : Type 0
PassengerCasesRead = (c : Case) → Valid c → c.hull.kind ≡ 6 → (reading (encode c) ≡ accepted c) ↔ FewEnough c

abbrev pub PassengerCasesTooLong : Type 0
PassengerCasesTooLong = (c : Case) → Valid c → c.hull.kind ≡ 6 → (FewEnough c → ⊥) → reading (encode c) ≡ refused 1 0

-- ---- and its lines, by what each is judged to be, say the case

-- the values of lines in turn, from a stage on
unfoldable pub values_from : Stage → List Line → List (List ℕ)
values_from s [] = []
values_from s (l ∷ ls) = values_of (hull_at s l) (results_at s l) (frame_at s l) ∷ values_from (next s l) ls

-- a row's values: its kind, a, n, b, H, and its results
abbrev pub row_values : Row → List ℕ
row_values r = r.head.kind ∷ r.head.first ∷ r.head.count ∷ r.head.depth ∷ r.head.height ∷ result_numbers r.head.kind r.results

-- the rows and the end that counts them
abbrev pub values_after : List Row → ℕ → List (List ℕ)
values_after rs count = map row_values rs ++ ((15 ∷ count ∷ []) ∷ [])

-- line 1 has the hull's
abbrev pub case_values : Case → List (List ℕ)
case_values c = hull_values c.hull ∷ values_after c.rows (length c.rows)

abbrev pub LinesSayTheCase : Type 0
LinesSayTheCase = (f : List ℕ) (c : Case) → reading f ≡ accepted c → values_from begin (lines f) ≡ case_values c
