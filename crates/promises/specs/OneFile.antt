-- Document 01, "One file in full", with document 02's openings and marks: what `damindex` reads and what it writes, character by character, and the case that it is; a file
-- with a second set, and a passenger ship's. Assumes nothing.
use Rattle.std.specs.Prelude.{ℕ, ◌≡◌, List, [], ◌∷◌, ◌++◌, pos}
use Prim.Native.Char.{code}
use Prim.Native.String.{String, [] as none, ◌∷◌ as ◌then◌}
use Rattle.records.specs.declared.Finding.{Finding}
use Rattle.records.specs.Results.{found}
use Rattle.casefile.specs.Record.{Row, Case}
use Rattle.casefile.specs.Reading.{accepted, reading}
use Rattle.answers.specs.Report.{report}

-- a line's characters as bytes, closed by a line feed
abbrev pub line : String → List ℕ
line none = 10 ∷ []
line (c then s) = code c ∷ line s

abbrev pub file : List ℕ
file =
    line "0126ac064017700fa00205dc"
    ++ line "02010103204844001e019000000000001e019000000000001e019000000000"
    ++ line "03010203204844000000000000"
    ++ line "03020103204844271027102710"
    ++ line "0f0003"

-- the same characters with more after them, and the line feed
abbrev pub line_with : String → String → List ℕ
line_with none more = line more
line_with (c then s) more = code c ∷ line_with s more

-- document 01's lines as they stand there, each row's with its marks after it
abbrev pub text : List ℕ
text =
    line "810134243ab934243abb34243ab934243abb34243ab934243abb34243ab934243abb"
    ++ line_with "82072648b6072648b7" "030303"
    ++ line_with "8203e36aea03e36aec" "000000"
    ++ line_with "823091165e3091165f" "000000"

-- 99 m long, 16 m broad, draughts of 6 and 4 m, two zones that meet at 15 m; three groups, each with one layer of one row
abbrev row : ℕ → ℕ → ℕ → Finding → Row
row kind a n r = record { head = record { kind = kind; first = a; count = n; depth = 800; height = 18500 }; results = found (r ∷ r ∷ r ∷ []) }

abbrev pub printed_case : Case
printed_case =
    record {
      hull = record { kind = 1; length = 9900; breadth = 1600; deepest = 6000; light = 4000; lifeboats = 0; excess = 0; rule = 0; zones = 2; places = 0 ∷ 1500 ∷ 9900 ∷ 0 ∷ 0 ∷ 0 ∷ 0 ∷ 0 ∷ 0 ∷ 0 ∷ 0 ∷ 0 ∷ 0 ∷ 0 ∷ 0 ∷ 0 ∷ 0 ∷ 0 ∷ 0 ∷ 0 ∷ 0 ∷ [] };
      rows =
          row 2 1 1 (record { lever = 30; range = 400; heel = 0; opening = pos 0; given = 0 })
          ∷ row 3 1 2 (record { lever = 0; range = 0; heel = 0; opening = pos 0; given = 0 })
          ∷ row 3 2 1 (record { lever = 0; range = 0; heel = 0; opening = pos 0; given = 10000 })
          ∷ [];
    }

abbrev pub OneFileIsRead : Type 0
OneFileIsRead = reading file ≡ accepted printed_case

abbrev pub OneFileInFull : Type 0
OneFileInFull = report (reading file) ≡ text

-- ---- a file with a second set: 80 m long, 13 m broad, one zone. The first set is the worse at the deepest draught, the second at the partial one, and at the
-- light one both are survived alike, where the mark is the first's
abbrev pub two_sets : List ℕ
two_sets =
    line "011f40051413880bb801"
    ++ line "050101028a445c003c032000000000007806400000012c003c0640000000000078064000000000007806400bb300000078032000000000"
    ++ line "0f0001"

abbrev pub text_of_two_sets : List ℕ
text_of_two_sets = line "81021d4410c01d44fb202a257d602a27040005f5e10005f5e100321d9700321f1da0" ++ line_with "823b9aca003b9aca00" "030401"

abbrev pub TwoSetsInFull : Type 0
TwoSetsInFull = report (reading two_sets) ≡ text_of_two_sets

-- ---- a passenger ship's file: 24 m long, 6 m broad, 90 persons with a place in a lifeboat and 30 without, one zone. At the deepest draught lever, range and heel
-- hold the final stage down, and the moment leaves some half of that; at the partial one, a ro-ro case with a lever of 160, the intermediate stage is the worse; at the
-- light one nothing is marked, and the moment leaves nine tenths
abbrev pub passenger_file : List ℕ
passenger_file =
    line "060960025805dc03e8005a001e0001"
    ++ line "070101012c36b0006405dc0384000000a007d0000000c80082064000000000000000780000000e003c0320012c000000006e0000000c001e02bc05dc010000005a00000009003202bc000000"
    ++ line "0f0001"

abbrev pub text_of_passengers : List ℕ
text_of_passengers = line "810229b1d40029b30c8018f4dae018f66180347542a03476c94035a4e90035a4e900" ++ line_with "823b9aca003b9aca00" "070100"

abbrev pub PassengersInFull : Type 0
PassengersInFull = report (reading passenger_file) ≡ text_of_passengers

-- ---- one ship under both rules: 24 m long, 6 m broad, 90 persons with a place in a lifeboat and 30 without, one zone, with survivals of seven tenths. The files differ in the
-- rule's two digits, the answers in the verdict's: seven tenths are above R of the earlier rule and below 0.722
abbrev pub under_rule : String → List ℕ
under_rule rule =
    line_with "060960025805dc03e8005a001e" rule
    ++ line "070101012c36b0003c030000000000003c030000000000003c0300000000000000012c00000006003202bc0000000000012c00000006003202bc0000000000012c00000006003202bc000000"
    ++ line "0f0001"

abbrev pub text_under : String → List ℕ
text_under verdict = line_with verdict "29b7a06029b9270029b7a06029b9270029b7a06029b9270029b7a06029b92700" ++ line_with "823b9aca003b9aca00" "030303"

abbrev pub RulesInFull : Type 0
RulesInFull = (report (reading (under_rule "0001")) ≡ text_under "8101") × (report (reading (under_rule "0101")) ≡ text_under "8102")
