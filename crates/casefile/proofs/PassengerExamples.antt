-- A passenger ship's file, byte by byte, read by the definition, and files beside it that are refused, those of the band of 2020 among them. Assumes nothing.
use Prim.Native.Nat.{ℕ}
use mathlib.Core.Path.{◌≡◌, refl}
use mathlib.Core.List.{List, [], ◌∷◌, ◌++◌, replicate}
use lib.IntN.{pos, negsuc}
use lib.ListN.{take}
use Rattle.records.specs.declared.Hull.{Hull}
use Rattle.lines.specs.Lines.{lines}
use Rattle.hexadecimal.specs.Hex.{line_of}
use Rattle.casefile.specs.Record.{Row}
use Rattle.casefile.specs.Layout.{hull_bytes, row_bytes}
use Rattle.casefile.specs.Kept.{kept_row}
use Rattle.casefile.specs.Reading.{Reading, refused, accepted, begin, reading}
use Rattle.casefile.specs.Answer.{first_judged, frame_of, judged}
use Rattle.casefile.specs.Acceptance.{values_from}
use Rattle.casefile.specs.Refusal.{old_hull_bytes, old_hull_number}
use Rattle.casefile.specs.Encode.{encode}
use Rattle.casefile.proofs.LimitExamples.{found, survival, row, flooded}
use Rattle.casefile.proofs.Examples.{hull_line, second_set_row, end_of_one, case, read}

-- 20 m long, 4 m broad, lifeboats for 100 persons and 3 in excess, under the rule of 2020, zones that meet at 6 m

-- 0607d0019003e801f40064000301020258
abbrev ferry_line : List ℕ
ferry_line = 48 ∷ 54 ∷ 48 ∷ 55 ∷ 100 ∷ 48 ∷ 48 ∷ 49 ∷ 57 ∷ 48 ∷ 48 ∷ 51 ∷ 101 ∷ 56 ∷ 48 ∷ 49 ∷ 102 ∷ 52 ∷ 48 ∷ 48 ∷ 54 ∷ 52 ∷ 48 ∷ 48 ∷ 48 ∷ 51 ∷ 48 ∷ 49 ∷ 48 ∷ 50 ∷ 48 ∷ 50 ∷ 53 ∷ 56 ∷ 10 ∷ []

-- 07010100c834bc000100020003ffff00040005000675300007000800098ad00001117000000001000a000b000c01000493e0001e8480000d000e000f00000000010001000000100011001201
abbrev ferry_row : List ℕ
ferry_row = 48 ∷ 55 ∷ 48 ∷ 49 ∷ 48 ∷ 49 ∷ 48 ∷ 48 ∷ 99 ∷ 56 ∷ 51 ∷ 52 ∷ 98 ∷ 99 ∷ 48 ∷ 48 ∷ 48 ∷ 49 ∷ 48 ∷ 48 ∷ 48 ∷ 50 ∷ 48 ∷ 48 ∷ 48 ∷ 51 ∷ 102 ∷ 102 ∷ 102 ∷ 102 ∷ 48 ∷ 48 ∷ 48 ∷ 52 ∷ 48 ∷ 48 ∷ 48 ∷ 53 ∷ 48 ∷ 48 ∷ 48 ∷ 54 ∷ 55 ∷ 53 ∷ 51 ∷ 48 ∷ 48 ∷ 48 ∷ 48 ∷ 55 ∷ 48 ∷ 48 ∷ 48 ∷ 56 ∷ 48 ∷ 48 ∷ 48 ∷ 57 ∷ 56 ∷ 97 ∷ 100 ∷ 48 ∷ 48 ∷ 48 ∷ 48 ∷ 49 ∷ 49 ∷ 49 ∷ 55 ∷ 48 ∷ 48 ∷ 48 ∷ 48 ∷ 48 ∷ 48 ∷ 48 ∷ 48 ∷ 49 ∷ 48 ∷ 48 ∷ 48 ∷ 97 ∷ 48 ∷ 48 ∷ 48 ∷ 98 ∷ 48 ∷ 48 ∷ 48 ∷ 99 ∷ 48 ∷ 49 ∷ 48 ∷ 48 ∷ 48 ∷ 52 ∷ 57 ∷ 51 ∷ 101 ∷ 48 ∷ 48 ∷ 48 ∷ 49 ∷ 101 ∷ 56 ∷ 52 ∷ 56 ∷ 48 ∷ 48 ∷ 48 ∷ 48 ∷ 100 ∷ 48 ∷ 48 ∷ 48 ∷ 101 ∷ 48 ∷ 48 ∷ 48 ∷ 102 ∷ 48 ∷ 48 ∷ 48 ∷ 48 ∷ 48 ∷ 48 ∷ 48 ∷ 48 ∷ 48 ∷ 49 ∷ 48 ∷ 48 ∷ 48 ∷ 49 ∷ 48 ∷ 48 ∷ 48 ∷ 48 ∷ 48 ∷ 48 ∷ 49 ∷ 48 ∷ 48 ∷ 48 ∷ 49 ∷ 49 ∷ 48 ∷ 48 ∷ 49 ∷ 50 ∷ 48 ∷ 49 ∷ 10 ∷ []

abbrev ferry_of : ℕ → ℕ → ℕ → ℕ → ℕ → Hull
ferry_of Ls B n e r = record {
  kind = 6;
  length = Ls;
  breadth = B;
  deepest = 1000;
  light = 500;
  lifeboats = n;
  excess = e;
  rule = r;
  zones = 2;
  places = 0 ∷ 600 ∷ Ls ∷ 0 ∷ 0 ∷ 0 ∷ 0 ∷ 0 ∷ 0 ∷ 0 ∷ 0 ∷ 0 ∷ 0 ∷ 0 ∷ 0 ∷ 0 ∷ 0 ∷ 0 ∷ 0 ∷ 0 ∷ 0 ∷ [];
}

abbrev ferry : Hull
ferry = ferry_of 2000 400 100 3 1

abbrev ferry_results : Row
ferry_results =
    record {
      head = record { kind = 7; first = 1; count = 1; depth = 200; height = 13500 };
      results = record {
        findings = found 1 2 3 (negsuc 0) ∷ found 4 5 6 (pos 30000) ∷ found 7 8 9 (negsuc 29999) ∷ [];
        floodings = flooded 70000 1 10 11 12 1 ∷ flooded 300000 2000000 13 14 15 0 ∷ flooded 1 65536 16 17 18 1 ∷ [];
      };
    }

pub ferry_accepted : reading (ferry_line ++ ferry_row ++ end_of_one) ≡ accepted (case ferry (ferry_results ∷ []))
unfolding read
ferry_accepted = refl

ferry_encoded : encode (case ferry (ferry_results ∷ [])) ≡ ferry_line ++ ferry_row ++ end_of_one
unfolding read
ferry_encoded = refl

ferry_values : values_from begin (lines (ferry_line ++ ferry_row ++ end_of_one))
    ≡ (6 ∷ 2000 ∷ 400 ∷ 1000 ∷ 500 ∷ 100 ∷ 3 ∷ 1 ∷ 2 ∷ 600 ∷ [])
    ∷ (7 ∷ 1 ∷ 1 ∷ 200 ∷ 13500 ∷ 1 ∷ 2 ∷ 3 ∷ 65535 ∷ 4 ∷ 5 ∷ 6 ∷ 30000 ∷ 7 ∷ 8 ∷ 9 ∷ 35536 ∷ 70000 ∷ 1 ∷ 10 ∷ 11 ∷ 12 ∷ 1 ∷ 300000 ∷ 2000000 ∷ 13 ∷ 14 ∷ 15 ∷ 0 ∷ 1 ∷ 65536 ∷ 16 ∷ 17 ∷ 18 ∷ 1 ∷ [])
    ∷ (15 ∷ 1 ∷ [])
    ∷ []
unfolding read first_judged frame_of judged values_from
ferry_values = refl

-- its rows are of kind 07 alone, and a cargo ship has none of that kind
cargo_row_in_a_ferry : reading (ferry_line ++ line_of (row_bytes (row 2 1 1 200 13500 (found 0 0 0 (pos 0)))) ++ end_of_one) ≡ refused 3 2
unfolding read
cargo_row_in_a_ferry = refl

given_row_in_a_ferry : reading (ferry_line ++ line_of (row_bytes (row 3 1 1 200 13500 (survival 10000))) ++ end_of_one) ≡ refused 3 2
unfolding read
given_row_in_a_ferry = refl

second_set_in_a_ferry : reading (ferry_line ++ second_set_row ++ end_of_one) ≡ refused 3 2
unfolding read
second_set_in_a_ferry = refl

ferry_row_in_a_cargo_ship : reading (hull_line ++ ferry_row ++ end_of_one) ≡ refused 3 2
unfolding read
ferry_row_in_a_cargo_ship = refl

-- a frame of 14 bytes is too short for one zone, one of 15 is not, and there one of the wrong length gets 5
ferry_too_short : reading (line_of (take 14 (hull_bytes ferry))) ≡ refused 3 1
unfolding read
ferry_too_short = refl

abbrev undivided : Hull
undivided = record { kind = 6; length = 2000; breadth = 400; deepest = 1000; light = 500; lifeboats = 100; excess = 3; rule = 1; zones = 1; places = 0 ∷ 2000 ∷ replicate 19 0 }

ferry_of_one_zone : reading (line_of (take 14 (hull_bytes ferry) ++ 1 ∷ []) ++ 48 ∷ 102 ∷ 48 ∷ 48 ∷ 48 ∷ 48 ∷ 10 ∷ []) ≡ accepted (case undivided [])
unfolding read
ferry_of_one_zone = refl

ferry_too_long : reading (line_of (take 14 (hull_bytes ferry) ++ 1 ∷ 2 ∷ 88 ∷ [])) ≡ refused 5 1
unfolding read
ferry_too_long = refl

-- a frame without the rule's byte: one of one zone is too short, and of one of two zones the zone count is taken for the rule
no_rule_in_one_zone : reading (line_of (take 13 (hull_bytes ferry) ++ 1 ∷ [])) ≡ refused 3 1
unfolding read
no_rule_in_one_zone = refl

no_rule_in_two_zones : reading (line_of (take 13 (hull_bytes ferry) ++ 2 ∷ 2 ∷ 88 ∷ [])) ≡ refused 4 1
unfolding read
no_rule_in_two_zones = refl

-- they are the old hulls of these two ships, with the numbers that are promised of all such hulls
old_ferries : (old_hull_bytes undivided ≡ take 13 (hull_bytes ferry) ++ 1 ∷ []) × (old_hull_bytes ferry ≡ take 13 (hull_bytes ferry) ++ 2 ∷ 2 ∷ 88 ∷ [])
unfolding read old_hull_bytes
old_ferries = (refl, refl)

old_of_one_zone : reading (line_of (old_hull_bytes undivided)) ≡ refused (old_hull_number 1) 1
unfolding read old_hull_bytes
old_of_one_zone = refl

old_of_two_zones : reading (line_of (old_hull_bytes ferry)) ≡ refused (old_hull_number 2) 1
unfolding read old_hull_bytes
old_of_two_zones = refl

-- the row without what it adds, and a byte short of it
ferry_row_short : reading (ferry_line ++ line_of (take 31 (row_bytes ferry_results)) ++ end_of_one) ≡ refused 3 2
unfolding read
ferry_row_short = refl

ferry_row_a_byte_short : reading (ferry_line ++ line_of (take 75 (row_bytes ferry_results)) ++ end_of_one) ≡ refused 3 2
unfolding read
ferry_row_a_byte_short = refl

ferry_below_20_m : reading (encode (case (ferry_of 1999 400 100 3 1) [])) ≡ refused 4 1
unfolding read
ferry_below_20_m = refl

too_many_persons : reading (encode (case (ferry_of 2000 400 100 10001 1) [])) ≡ refused 4 1
unfolding read
too_many_persons = refl

rule_mark_of_2 : reading (encode (case (ferry_of 2000 400 100 3 2) [])) ≡ refused 4 1
unfolding read
rule_mark_of_2 = refl

-- ---- 13: under the rule of 2020, and under it alone, from 1,351 to 6,000 persons

-- by the rule and the persons, with no row
abbrev carried : ℕ → ℕ → ℕ → Reading
carried r n e = reading (encode (case (ferry_of 2000 400 n e r) []))

abbrev as_carried : ℕ → ℕ → ℕ → Reading
as_carried r n e = accepted (case (ferry_of 2000 400 n e r) [])

persons_1_350 : carried 1 1000 350 ≡ as_carried 1 1000 350
unfolding read
persons_1_350 = refl

persons_1_351 : carried 1 1000 351 ≡ refused 13 1
unfolding read
persons_1_351 = refl

persons_6_000 : carried 1 3000 3000 ≡ refused 13 1
unfolding read
persons_6_000 = refl

persons_6_001 : carried 1 3000 3001 ≡ as_carried 1 3000 3001
unfolding read
persons_6_001 = refl

earlier_1_351 : carried 0 1000 351 ≡ as_carried 0 1000 351
unfolding read
earlier_1_351 = refl

earlier_6_000 : carried 0 3000 3000 ≡ as_carried 0 3000 3000
unfolding read
earlier_6_000 = refl

-- after 4, and before 5: with a bulkhead at the bow too
band_below_20_m : reading (encode (case (ferry_of 1999 400 1000 351 1) [])) ≡ refused 4 1
unfolding read
band_below_20_m = refl

band_bulkhead_at_the_bow : reading (line_of (take 14 (hull_bytes (ferry_of 2000 400 1000 351 1)) ++ 2 ∷ 7 ∷ 208 ∷ [])) ≡ refused 13 1
unfolding read
band_bulkhead_at_the_bow = refl

roro_mark_of_2 : reading (encode (case ferry (record { head = ferry_results.head; results = record { findings = ferry_results.results.findings; floodings = flooded 1 1 0 0 0 0 ∷ flooded 1 1 0 0 0 0 ∷ flooded 1 1 0 0 0 2 ∷ [] } } ∷ []))) ≡ refused 7 2
unfolding read
roro_mark_of_2 = refl

-- a row that is kept at the second place
ferry_kept : kept_row (replicate 76 9 ++ row_bytes ferry_results) 1 ≡ ferry_results
unfolding read kept_row
ferry_kept = refl
