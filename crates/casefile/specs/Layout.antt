-- Document 01, "The case file", with document 02's openings, second sets and passenger ships: the frames' kinds, lengths and fields, from decoded bytes and back to
-- them. Assumes nothing.
use Rattle.std.specs.Prelude.{ℕ, ◌+◌, ◌-◌, ◌*◌, Bool, cond, ◌||◌, List, [], ◌∷◌, ◌++◌, pos, take, drop, ltb, eqb}
use Rattle.laws.specs.Lists.{tabulate}
use Rattle.laws.specs.Bytes.{bytes}
use Rattle.records.specs.declared.Hull.{Hull}
use Rattle.records.specs.declared.Finding.{Finding}
use Rattle.records.specs.declared.Flooding.{Flooding}
use Rattle.records.specs.declared.RowHead.{RowHead}
use Rattle.records.specs.Results.{Results}
use Rattle.fields.specs.Fields.{byte_at, word_at, long_at, signed_at, unsigned}
use Rattle.casefile.specs.Record.{Row}

-- ---- kinds and lengths

-- the first byte is the kind, the fields stand after it
abbrev pub kind_of : List ℕ → ℕ
kind_of bs = byte_at bs 0

abbrev pub fields_of : List ℕ → List ℕ
fields_of bs = drop 1 bs

-- 01 a cargo ship's hull, 06 a passenger ship's; 02, 03, 05 and 07 row; 0f end
abbrev pub is_hull : ℕ → Bool
is_hull kind = eqb kind 1 || eqb kind 6

abbrev pub is_row : ℕ → Bool
is_row kind = eqb kind 2 || eqb kind 3 || eqb kind 5 || eqb kind 7

-- the rows that a hull takes: of a passenger ship "07 alone", of a cargo ship the others
unfoldable pub takes : ℕ → ℕ → Bool
takes hull kind = cond (eqb hull 6) (eqb kind 7) (eqb kind 2 || eqb kind 3 || eqb kind 5)

abbrev pub is_end : ℕ → Bool
is_end kind = eqb kind 15

-- the bytes of a frame after the hull: 31 of kind 02, 13 of kind 03, 55 of kind 05, 76 of kind 07, 3 of kind 0f
unfoldable pub frame_length : ℕ → ℕ
frame_length kind = cond (eqb kind 2) 31 (cond (eqb kind 3) 13 (cond (eqb kind 5) 55 (cond (eqb kind 7) 76 3)))

-- the bytes of a passenger ship's persons, two for each of the two counts, and of the rule by which they count, one
abbrev pub persons_length : ℕ → ℕ
persons_length kind = cond (eqb kind 6) 5 0

-- the bytes of a hull of m zones: 8 + 2m, of a passenger ship 13 + 2m
abbrev pub hull_length : ℕ → ℕ → ℕ
hull_length kind m = 8 + persons_length kind + 2 * m

-- a hull of one zone is the shortest
abbrev pub shortest_hull : ℕ → ℕ
shortest_hull kind = hull_length kind 1

-- the bytes of one draught's result: a given survival of kind 03; of another lever, range, heel and opening
abbrev pub result_length : ℕ → ℕ
result_length kind = cond (eqb kind 3) 2 8

-- how many results a row has: a set of three, one at each draught; of kind 05 a second set after it
abbrev pub result_count : ℕ → ℕ
result_count kind = cond (eqb kind 5) 6 3

-- the bytes of what a passenger ship's row tells at one draught besides, and at how many draughts a row of a kind tells it
abbrev pub flooding_length : ℕ
flooding_length = 15

abbrev pub flooding_count : ℕ → ℕ
flooding_count kind = cond (eqb kind 7) 3 0

-- ---- from the fields

-- a place of the 21: 0, the inner bulkheads, Ls at the zone count, 0 after that
unfoldable pub place_of : (ℕ → ℕ) → ℕ → ℕ → ℕ → ℕ
place_of inner m L k = cond (eqb k 0) 0 (cond (ltb k m) (inner k) (cond (eqb k m) L 0))

abbrev pub places_of : (ℕ → ℕ) → ℕ → ℕ → List ℕ
places_of inner m L = tabulate (place_of inner m L) 21

-- where the zone count stands among the fields
abbrev pub zones_at : ℕ → ℕ
zones_at kind = 8 + persons_length kind

-- 01: Ls, B, ds, dl (two bytes each), zone count m (one), m-1 inner bulkheads (two each); 06 "adds after dl the persons for whom there are lifeboats and those
-- in excess, two bytes each"; and "in a byte after the persons which rule it is under"
unfoldable pub hull_of : ℕ → List ℕ → Hull
hull_of kind f = record {
  kind = kind;
  length = word_at f 0;
  breadth = word_at f 2;
  deepest = word_at f 4;
  light = word_at f 6;
  lifeboats = cond (eqb kind 6) (word_at f 8) 0;
  excess = cond (eqb kind 6) (word_at f 10) 0;
  rule = cond (eqb kind 6) (byte_at f 12) 0;
  zones = byte_at f (zones_at kind);
  places = places_of (λ k. word_at f (7 + persons_length kind + 2 * k)) (byte_at f (zones_at kind)) (word_at f 0);
}

-- 02, 03, 05 and 07: a, n (one each), b, H (two each)
unfoldable pub head_of : ℕ → List ℕ → RowHead
head_of kind f = record { kind = kind; first = byte_at f 0; count = byte_at f 1; depth = word_at f 2; height = word_at f 4 }

-- one draught's result, read from there on: a given survival of kind 03; of another lever, range, heel (two each) and the opening (two, with a sign)
unfoldable pub finding_of : ℕ → List ℕ → Finding
finding_of kind f =
    cond (eqb kind 3)
    (record { lever = 0; range = 0; heel = 0; opening = pos 0; given = word_at f 0 })
    (record { lever = word_at f 0; range = word_at f 2; heel = word_at f 4; opening = signed_at f 6; given = 0 })

-- a set of results, one at each of the three draughts, read from there on
unfoldable pub set_of : ℕ → List ℕ → List Finding
set_of kind f = finding_of kind f ∷ finding_of kind (drop (result_length kind) f) ∷ finding_of kind (drop (2 * result_length kind) f) ∷ []

-- "per draught, displacement .. and heeling moment .. in four bytes each, one intermediate stage's lever, range and heel in two each .. and a ro-ro mark .. in
-- one", read from there on
unfoldable pub flooding_of : List ℕ → Flooding
flooding_of f = record { displacement = long_at f 0; moment = long_at f 4; lever = word_at f 8; range = word_at f 10; heel = word_at f 12; roro = byte_at f 14 }

unfoldable pub floodings_of : List ℕ → List Flooding
floodings_of f = flooding_of f ∷ flooding_of (drop flooding_length f) ∷ flooding_of (drop (2 * flooding_length) f) ∷ []

-- a row's results, after a, n, b and H: a set, and of kind 05 "a second set .. after them"; of kind 07 what it "adds after kind 02's fields"
unfoldable pub results_of : ℕ → List ℕ → Results
results_of kind f = record {
  findings = set_of kind (drop 6 f) ++ cond (eqb kind 5) (set_of kind (drop 30 f)) [];
  floodings = cond (eqb kind 7) (floodings_of (drop 30 f)) [];
}

-- a result's numbers, those of its kind, the opening as its two bytes have it; and those of a row's results
abbrev pub finding_numbers : ℕ → Finding → List ℕ
finding_numbers kind r = cond (eqb kind 3) (r.given ∷ []) (r.lever ∷ r.range ∷ r.heel ∷ unsigned r.opening ∷ [])

abbrev pub findings_numbers : ℕ → List Finding → List ℕ
findings_numbers kind [] = []
findings_numbers kind (r ∷ rs) = finding_numbers kind r ++ findings_numbers kind rs

abbrev pub flooding_numbers : Flooding → List ℕ
flooding_numbers w = w.displacement ∷ w.moment ∷ w.lever ∷ w.range ∷ w.heel ∷ w.roro ∷ []

abbrev pub floodings_numbers : List Flooding → List ℕ
floodings_numbers [] = []
floodings_numbers (w ∷ ws) = flooding_numbers w ++ floodings_numbers ws

abbrev pub result_numbers : ℕ → Results → List ℕ
result_numbers kind rs = findings_numbers kind rs.findings ++ floodings_numbers rs.floodings

-- the row of a frame's bytes
abbrev pub row_of : List ℕ → Row
row_of bs = record { head = head_of (kind_of bs) (fields_of bs); results = results_of (kind_of bs) (fields_of bs) }

-- 0f: row count (two)
abbrev pub count_of : List ℕ → ℕ
count_of bs = word_at (fields_of bs) 0

-- ---- and back

abbrev pub words : List ℕ → List ℕ
words [] = []
words (n ∷ ns) = bytes 2 n ++ words ns

-- the inner bulkheads: those between 0 and Ls
abbrev pub inner_of : Hull → List ℕ
inner_of h = take (h.zones - 1) (drop 1 h.places)

-- a passenger ship's persons
abbrev pub persons_of : Hull → List ℕ
persons_of h = cond (eqb h.kind 6) (h.lifeboats ∷ h.excess ∷ []) []

-- and its rule
abbrev pub rule_of : Hull → List ℕ
rule_of h = cond (eqb h.kind 6) (h.rule ∷ []) []

-- its values, the kind first
abbrev pub hull_values : Hull → List ℕ
hull_values h = h.kind ∷ h.length ∷ h.breadth ∷ h.deepest ∷ h.light ∷ persons_of h ++ rule_of h ++ h.zones ∷ inner_of h

unfoldable pub hull_bytes : Hull → List ℕ
hull_bytes h = h.kind ∷ words (h.length ∷ h.breadth ∷ h.deepest ∷ h.light ∷ persons_of h) ++ rule_of h ++ h.zones ∷ words (inner_of h)

unfoldable pub finding_bytes : ℕ → Finding → List ℕ
finding_bytes kind r = words (finding_numbers kind r)

abbrev pub findings_bytes : ℕ → List Finding → List ℕ
findings_bytes kind [] = []
findings_bytes kind (r ∷ rs) = finding_bytes kind r ++ findings_bytes kind rs

unfoldable pub flooding_bytes : Flooding → List ℕ
flooding_bytes w = bytes 4 w.displacement ++ bytes 4 w.moment ++ words (w.lever ∷ w.range ∷ w.heel ∷ []) ++ w.roro ∷ []

abbrev pub floodings_bytes : List Flooding → List ℕ
floodings_bytes [] = []
floodings_bytes (w ∷ ws) = flooding_bytes w ++ floodings_bytes ws

abbrev pub results_bytes : ℕ → Results → List ℕ
results_bytes kind rs = findings_bytes kind rs.findings ++ floodings_bytes rs.floodings

unfoldable pub row_bytes : Row → List ℕ
row_bytes r =
    r.head.kind ∷ r.head.first ∷ r.head.count ∷ words (r.head.depth ∷ r.head.height ∷ []) ++ results_bytes r.head.kind r.results

unfoldable pub end_bytes : ℕ → List ℕ
end_bytes count = 15 ∷ bytes 2 count
