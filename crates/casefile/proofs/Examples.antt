-- Document 01, "One file in full", read by the definition, and files beside it that are refused. Assumes nothing.
use Prim.Native.Nat.{ℕ}
use mathlib.Core.Path.{◌≡◌, refl}
use mathlib.Core.Bool.{false}
use mathlib.Core.List.{List, [], ◌∷◌, ◌++◌, replicate}
use lib.IntN.{pos, negsuc}
use lib.ListN.{drop}
use Rattle.laws.specs.Lists.{tabulate}
use Rattle.laws.specs.Bytes.{bytes}
use Rattle.records.specs.declared.Hull.{Hull}
use Rattle.lines.specs.Lines.{lines}
use Rattle.hexadecimal.specs.Hex.{digit_of, pair_of, pairs, digits_only, proper, badly_written, digit, hex, line_of}
use Rattle.fields.specs.Fields.{word_at, long_at, signed, unsigned}
use Rattle.casefile.specs.Record.{Row, Case}
use Rattle.casefile.specs.Layout.{takes, frame_length, place_of, hull_of, head_of, finding_of, set_of, flooding_of, floodings_of, results_of, hull_bytes, finding_bytes, flooding_bytes, row_bytes, end_bytes}
use Rattle.casefile.specs.Limits.{between, sizes_fit, persons_fit, rising_to, zones_fit, head_fits, opening_fits, finding_fits, findings_fit, flooding_fits, floodings_fit, results_fit, row_fits}
use Rattle.casefile.specs.Order.{at_top, closes_group, same_group, same_layer, earlier_group, out_of_order, leaves_open, ends_open}
use Rattle.casefile.specs.Table.{first_holds, wrong_hull_frame, wrong_frame, wrong_zones, hull_checks, row_checks, end_checks, line_checks}
use Rattle.casefile.specs.Kept.{kept_row, kept_rows}
use Rattle.casefile.specs.Reading.{Reading, refused, accepted, begin, start, read_from, reading}
use Rattle.casefile.specs.Answer.{first_judged, frame_of, judged, judgement_of}
use Rattle.casefile.specs.Acceptance.{values_from}
use Rattle.casefile.specs.Refusal.{after, number_at}
use Rattle.casefile.specs.Encode.{row_lines, encode}
use Rattle.casefile.proofs.LimitExamples.{found, survival, row}

-- 0126ac064017700fa00205dc
abbrev pub hull_line : List ℕ
hull_line = 48 ∷ 49 ∷ 50 ∷ 54 ∷ 97 ∷ 99 ∷ 48 ∷ 54 ∷ 52 ∷ 48 ∷ 49 ∷ 55 ∷ 55 ∷ 48 ∷ 48 ∷ 102 ∷ 97 ∷ 48 ∷ 48 ∷ 50 ∷ 48 ∷ 53 ∷ 100 ∷ 99 ∷ 10 ∷ []

-- 02010103204844001e019000000000001e019000000000001e019000000000
abbrev first_row : List ℕ
first_row = 48 ∷ 50 ∷ 48 ∷ 49 ∷ 48 ∷ 49 ∷ 48 ∷ 51 ∷ 50 ∷ 48 ∷ 52 ∷ 56 ∷ 52 ∷ 52 ∷ 48 ∷ 48 ∷ 49 ∷ 101 ∷ 48 ∷ 49 ∷ 57 ∷ 48 ∷ 48 ∷ 48 ∷ 48 ∷ 48 ∷ 48 ∷ 48 ∷ 48 ∷ 48 ∷ 48 ∷ 48 ∷ 49 ∷ 101 ∷ 48 ∷ 49 ∷ 57 ∷ 48 ∷ 48 ∷ 48 ∷ 48 ∷ 48 ∷ 48 ∷ 48 ∷ 48 ∷ 48 ∷ 48 ∷ 48 ∷ 49 ∷ 101 ∷ 48 ∷ 49 ∷ 57 ∷ 48 ∷ 48 ∷ 48 ∷ 48 ∷ 48 ∷ 48 ∷ 48 ∷ 48 ∷ 48 ∷ 10 ∷ []

-- 03010203204844000000000000
abbrev second_row : List ℕ
second_row = 48 ∷ 51 ∷ 48 ∷ 49 ∷ 48 ∷ 50 ∷ 48 ∷ 51 ∷ 50 ∷ 48 ∷ 52 ∷ 56 ∷ 52 ∷ 52 ∷ 48 ∷ 48 ∷ 48 ∷ 48 ∷ 48 ∷ 48 ∷ 48 ∷ 48 ∷ 48 ∷ 48 ∷ 48 ∷ 48 ∷ 10 ∷ []

-- 03020103204844271027102710
abbrev third_row : List ℕ
third_row = 48 ∷ 51 ∷ 48 ∷ 50 ∷ 48 ∷ 49 ∷ 48 ∷ 51 ∷ 50 ∷ 48 ∷ 52 ∷ 56 ∷ 52 ∷ 52 ∷ 50 ∷ 55 ∷ 49 ∷ 48 ∷ 50 ∷ 55 ∷ 49 ∷ 48 ∷ 50 ∷ 55 ∷ 49 ∷ 48 ∷ 10 ∷ []

-- 0f0003
abbrev end_line : List ℕ
end_line = 48 ∷ 102 ∷ 48 ∷ 48 ∷ 48 ∷ 51 ∷ 10 ∷ []

abbrev printed : List ℕ
printed = hull_line ++ first_row ++ second_row ++ third_row ++ end_line

-- the definitions, open to computation
unfoldable pub read : List ℕ → Reading
unfolding reading read_from lines first_holds hull_checks row_checks end_checks line_checks wrong_hull_frame wrong_frame wrong_zones between sizes_fit persons_fit rising_to zones_fit head_fits opening_fits finding_fits findings_fit flooding_fits floodings_fit results_fit row_fits at_top closes_group same_group same_layer earlier_group out_of_order leaves_open ends_open takes frame_length place_of hull_of head_of finding_of set_of flooding_of floodings_of results_of digit_of pair_of pairs digits_only proper badly_written word_at long_at signed unsigned tabulate bytes hull_bytes finding_bytes flooding_bytes row_bytes end_bytes digit hex line_of row_lines encode
read f = reading f

-- 16 m broad, two zones
abbrev hull : ℕ → ℕ → ℕ → ℕ → Hull
hull Ls ds dl bulkhead = record {
  kind = 1;
  length = Ls;
  breadth = 1600;
  deepest = ds;
  light = dl;
  lifeboats = 0;
  excess = 0;
  rule = 0;
  zones = 2;
  places = 0 ∷ bulkhead ∷ Ls ∷ 0 ∷ 0 ∷ 0 ∷ 0 ∷ 0 ∷ 0 ∷ 0 ∷ 0 ∷ 0 ∷ 0 ∷ 0 ∷ 0 ∷ 0 ∷ 0 ∷ 0 ∷ 0 ∷ 0 ∷ 0 ∷ [];
}

abbrev pub case : Hull → List Row → Case
case h rs = record { hull = h; rows = rs }

-- 99 m long, zones that meet at 15 m; three groups, each with one layer of one row
abbrev printed_hull : Hull
printed_hull = hull 9900 6000 4000 1500

abbrev printed_rows : List Row
printed_rows = row 2 1 1 800 18500 (found 30 400 0 (pos 0)) ∷ row 3 1 2 800 18500 (survival 0) ∷ row 3 2 1 800 18500 (survival 10000) ∷ []

pub printed_accepted : reading printed ≡ accepted (case printed_hull printed_rows)
unfolding read
printed_accepted = refl

-- what its lines are judged to be, in document 01's numbers
printed_values : values_from begin (lines printed) ≡ (1 ∷ 9900 ∷ 1600 ∷ 6000 ∷ 4000 ∷ 2 ∷ 1500 ∷ []) ∷ (2 ∷ 1 ∷ 1 ∷ 800 ∷ 18500 ∷ 30 ∷ 400 ∷ 0 ∷ 0 ∷ 30 ∷ 400 ∷ 0 ∷ 0 ∷ 30 ∷ 400 ∷ 0 ∷ 0 ∷ []) ∷ (3 ∷ 1 ∷ 2 ∷ 800 ∷ 18500 ∷ 0 ∷ 0 ∷ 0 ∷ []) ∷ (3 ∷ 2 ∷ 1 ∷ 800 ∷ 18500 ∷ 10000 ∷ 10000 ∷ 10000 ∷ []) ∷ (15 ∷ 3 ∷ []) ∷ []
unfolding read first_judged frame_of judged values_from
printed_values = refl

rows_counted : (judgement_of (reading printed)).rows ≡ 3
unfolding read
rows_counted = refl

printed_encoded : encode (case printed_hull printed_rows) ≡ printed
unfolding read
printed_encoded = refl

-- ---- the three draughts' results, each its own: deepest, partial, light; openings of either sign

-- 02010103204844000100020003ffff00040005000675300007000800098ad0
abbrev unlike_row : List ℕ
unlike_row = 48 ∷ 50 ∷ 48 ∷ 49 ∷ 48 ∷ 49 ∷ 48 ∷ 51 ∷ 50 ∷ 48 ∷ 52 ∷ 56 ∷ 52 ∷ 52 ∷ 48 ∷ 48 ∷ 48 ∷ 49 ∷ 48 ∷ 48 ∷ 48 ∷ 50 ∷ 48 ∷ 48 ∷ 48 ∷ 51 ∷ 102 ∷ 102 ∷ 102 ∷ 102 ∷ 48 ∷ 48 ∷ 48 ∷ 52 ∷ 48 ∷ 48 ∷ 48 ∷ 53 ∷ 48 ∷ 48 ∷ 48 ∷ 54 ∷ 55 ∷ 53 ∷ 51 ∷ 48 ∷ 48 ∷ 48 ∷ 48 ∷ 55 ∷ 48 ∷ 48 ∷ 48 ∷ 56 ∷ 48 ∷ 48 ∷ 48 ∷ 57 ∷ 56 ∷ 97 ∷ 100 ∷ 48 ∷ 10 ∷ []

-- 0f0001
abbrev pub end_of_one : List ℕ
end_of_one = 48 ∷ 102 ∷ 48 ∷ 48 ∷ 48 ∷ 49 ∷ 10 ∷ []

abbrev unlike_results : Row
unlike_results = record { head = record { kind = 2; first = 1; count = 1; depth = 800; height = 18500 }; results = record { findings = found 1 2 3 (negsuc 0) ∷ found 4 5 6 (pos 30000) ∷ found 7 8 9 (negsuc 29999) ∷ []; floodings = [] } }

deepest_partial_light : reading (hull_line ++ unlike_row ++ end_of_one) ≡ accepted (case printed_hull (unlike_results ∷ []))
unfolding read
deepest_partial_light = refl

-- and a second set's after them

-- 05010103204844000100020003ffff00040005000675300007000800098ad0000a000b000cfff3000e000f00100011001200130014ffeb
abbrev pub second_set_row : List ℕ
second_set_row = 48 ∷ 53 ∷ 48 ∷ 49 ∷ 48 ∷ 49 ∷ 48 ∷ 51 ∷ 50 ∷ 48 ∷ 52 ∷ 56 ∷ 52 ∷ 52 ∷ 48 ∷ 48 ∷ 48 ∷ 49 ∷ 48 ∷ 48 ∷ 48 ∷ 50 ∷ 48 ∷ 48 ∷ 48 ∷ 51 ∷ 102 ∷ 102 ∷ 102 ∷ 102 ∷ 48 ∷ 48 ∷ 48 ∷ 52 ∷ 48 ∷ 48 ∷ 48 ∷ 53 ∷ 48 ∷ 48 ∷ 48 ∷ 54 ∷ 55 ∷ 53 ∷ 51 ∷ 48 ∷ 48 ∷ 48 ∷ 48 ∷ 55 ∷ 48 ∷ 48 ∷ 48 ∷ 56 ∷ 48 ∷ 48 ∷ 48 ∷ 57 ∷ 56 ∷ 97 ∷ 100 ∷ 48 ∷ 48 ∷ 48 ∷ 48 ∷ 97 ∷ 48 ∷ 48 ∷ 48 ∷ 98 ∷ 48 ∷ 48 ∷ 48 ∷ 99 ∷ 102 ∷ 102 ∷ 102 ∷ 51 ∷ 48 ∷ 48 ∷ 48 ∷ 101 ∷ 48 ∷ 48 ∷ 48 ∷ 102 ∷ 48 ∷ 48 ∷ 49 ∷ 48 ∷ 48 ∷ 48 ∷ 49 ∷ 49 ∷ 48 ∷ 48 ∷ 49 ∷ 50 ∷ 48 ∷ 48 ∷ 49 ∷ 51 ∷ 48 ∷ 48 ∷ 49 ∷ 52 ∷ 102 ∷ 102 ∷ 101 ∷ 98 ∷ 10 ∷ []

abbrev unlike_sets : Row
unlike_sets =
    record {
      head = record { kind = 5; first = 1; count = 1; depth = 800; height = 18500 };
      results = record {
        findings =
            found 1 2 3 (negsuc 0)
            ∷ found 4 5 6 (pos 30000)
            ∷ found 7 8 9 (negsuc 29999)
            ∷ found 10 11 12 (negsuc 12)
            ∷ found 14 15 16 (pos 17)
            ∷ found 18 19 20 (negsuc 20)
            ∷ [];
        floodings = [];
      };
    }

second_set_after_the_first : reading (hull_line ++ second_set_row ++ end_of_one) ≡ accepted (case printed_hull (unlike_sets ∷ []))
unfolding read
second_set_after_the_first = refl

second_set_values : values_from begin (lines (hull_line ++ second_set_row ++ end_of_one))
    ≡ (1 ∷ 9900 ∷ 1600 ∷ 6000 ∷ 4000 ∷ 2 ∷ 1500 ∷ [])
    ∷ (5 ∷ 1 ∷ 1 ∷ 800 ∷ 18500 ∷ 1 ∷ 2 ∷ 3 ∷ 65535 ∷ 4 ∷ 5 ∷ 6 ∷ 30000 ∷ 7 ∷ 8 ∷ 9 ∷ 35536 ∷ 10 ∷ 11 ∷ 12 ∷ 65523 ∷ 14 ∷ 15 ∷ 16 ∷ 17 ∷ 18 ∷ 19 ∷ 20 ∷ 65515 ∷ [])
    ∷ (15 ∷ 1 ∷ [])
    ∷ []
unfolding read first_judged frame_of judged values_from
second_set_values = refl

-- a first set alone is no row of kind 05, and two sets are none of kind 02
second_set_missing : reading (hull_line ++ line_of (5 ∷ drop 1 (row_bytes unlike_results)) ++ end_of_one) ≡ refused 3 2
unfolding read
second_set_missing = refl

-- nor are two sets without their openings; and 04 is no kind
second_set_without_openings : reading (hull_line ++ line_of (5 ∷ replicate 42 0) ++ end_of_one) ≡ refused 3 2
unfolding read
second_set_without_openings = refl

kind_04 : reading (hull_line ++ line_of (4 ∷ replicate 54 0) ++ end_of_one) ≡ refused 3 2
unfolding read
kind_04 = refl

second_set_too_many : reading (hull_line ++ line_of (2 ∷ drop 1 (row_bytes unlike_sets)) ++ end_of_one) ≡ refused 3 2
unfolding read
second_set_too_many = refl

-- ---- rows as they are kept: 76 bytes each, whatever stands after a shorter frame

abbrev kept_frames : List ℕ
kept_frames = row_bytes unlike_sets ++ replicate 21 9 ++ row_bytes unlike_results ++ replicate 45 9 ++ row_bytes (row 3 1 2 800 18500 (survival 0)) ++ replicate 63 9

three_kept : kept_rows 3 kept_frames 0 ≡ unlike_sets ∷ unlike_results ∷ row 3 1 2 800 18500 (survival 0) ∷ []
unfolding read kept_rows kept_row
three_kept = refl

-- ---- 10: no end frame, and whatever follows it

empty_input : reading [] ≡ refused 10 1
unfolding read
empty_input = refl

no_end : reading (hull_line ++ first_row) ≡ refused 10 3
unfolding read
no_end = refl

one_line_feed_more : reading (printed ++ 10 ∷ []) ≡ refused 10 6
unfolding read
one_line_feed_more = refl

one_byte_more : reading (printed ++ 90 ∷ []) ≡ refused 10 6
unfolding read
one_byte_more = refl

-- ---- 2: written badly

end_not_closed : reading (hull_line ++ 48 ∷ 102 ∷ 48 ∷ 48 ∷ 48 ∷ 48 ∷ []) ≡ refused 2 2
unfolding read
end_not_closed = refl

empty_line : reading (hull_line ++ 10 ∷ end_line) ≡ refused 2 2
unfolding read
empty_line = refl

odd_digits : reading (hull_line ++ 48 ∷ end_line) ≡ refused 2 2
unfolding read
odd_digits = refl

upper_case : reading (hull_line ++ 48 ∷ 70 ∷ 48 ∷ 48 ∷ 48 ∷ 48 ∷ 10 ∷ []) ≡ refused 2 2
unfolding read
upper_case = refl

-- ---- 3: kinds and lengths

end_first : reading end_line ≡ refused 3 1
unfolding read
end_first = refl

hull_again : reading (hull_line ++ hull_line) ≡ refused 3 2
unfolding read
hull_again = refl

-- the numbers of the two lines: the first passes
hull_again_numbers : (number_at (lines (hull_line ++ hull_line)) 1 ≡ 0) × (number_at (lines (hull_line ++ hull_line)) 2 ≡ 3)
unfolding read first_judged frame_of judged after number_at
hull_again_numbers = (refl, refl)

-- 02 with no openings, 25 bytes
abbrev old_row : List ℕ
old_row = 48 ∷ 50 ∷ 48 ∷ 49 ∷ 48 ∷ 49 ∷ 48 ∷ 51 ∷ 50 ∷ 48 ∷ 52 ∷ 56 ∷ 52 ∷ 52 ∷ 48 ∷ 48 ∷ 49 ∷ 101 ∷ 48 ∷ 49 ∷ 57 ∷ 48 ∷ 48 ∷ 48 ∷ 48 ∷ 48 ∷ 48 ∷ 48 ∷ 49 ∷ 101 ∷ 48 ∷ 49 ∷ 57 ∷ 48 ∷ 48 ∷ 48 ∷ 48 ∷ 48 ∷ 48 ∷ 48 ∷ 49 ∷ 101 ∷ 48 ∷ 49 ∷ 57 ∷ 48 ∷ 48 ∷ 48 ∷ 48 ∷ 48 ∷ 10 ∷ []

old_length : reading (hull_line ++ old_row ++ end_of_one) ≡ refused 3 2
unfolding read
old_length = refl

end_too_long : reading (hull_line ++ 48 ∷ 48 ∷ end_line) ≡ refused 3 2
unfolding read
end_too_long = refl

-- ---- 4, 5: the hull

too_short : reading (encode (case (hull 7999 6000 4000 1500) [])) ≡ refused 4 1
unfolding read
too_short = refl

light_no_fifths : reading (encode (case (hull 9900 6000 4001 1500) [])) ≡ refused 4 1
unfolding read
light_no_fifths = refl

bulkhead_at_the_bow : reading (encode (case (hull 9900 6000 4000 9900) [])) ≡ refused 5 1
unfolding read
bulkhead_at_the_bow = refl

-- ---- 6 to 9: rows and the end

abbrev rows_of : List Row → Reading
rows_of rs = reading (encode (case printed_hull rs))

wrong_count : reading (hull_line ++ first_row ++ end_line) ≡ refused 6 3
unfolding read
wrong_count = refl

row_501 : first_holds (row_checks printed_hull (record { rows = 500; last = start.last; ended = false }) (row 2 0 0 0 0 (found 0 0 0 (pos 0)))) ≡ 6
unfolding read
row_501 = refl

no_wrap : rows_of (row 3 255 2 800 18500 (survival 0) ∷ []) ≡ refused 7 2
unfolding read
no_wrap = refl

range_too_great : rows_of (row 2 1 1 800 18500 (found 30 9001 0 (pos 0)) ∷ []) ≡ refused 7 2
unfolding read
range_too_great = refl

opening_too_low : rows_of (row 2 1 1 800 18500 (found 30 400 0 (negsuc 30000)) ∷ []) ≡ refused 7 2
unfolding read
opening_too_low = refl

second_heel_too_great : rows_of (record { head = unlike_sets.head; results = record { findings = found 0 0 0 (pos 0) ∷ found 0 0 0 (pos 0) ∷ found 0 0 0 (pos 0) ∷ found 0 0 0 (pos 0) ∷ found 0 0 0 (pos 0) ∷ found 0 0 9001 (pos 0) ∷ []; floodings = [] } } ∷ []) ≡ refused 7 2
unfolding read
second_heel_too_great = refl

earlier_group_lem : rows_of (row 3 2 1 800 18500 (survival 0) ∷ row 3 1 2 800 18500 (survival 0) ∷ []) ≡ refused 8 3
unfolding read
earlier_group_lem = refl

earlier_group_open : rows_of (row 3 2 1 800 18499 (survival 0) ∷ row 3 1 2 800 18500 (survival 0) ∷ []) ≡ refused 8 3
unfolding read
earlier_group_open = refl

after_the_top : rows_of (row 3 1 1 800 18500 (survival 0) ∷ row 3 1 1 800 18501 (survival 0) ∷ []) ≡ refused 8 3
unfolding read
after_the_top = refl

layer_open : rows_of (row 3 1 1 400 18499 (survival 0) ∷ row 3 1 1 800 18500 (survival 0) ∷ []) ≡ refused 9 3
unfolding read
layer_open = refl

last_layer_inside : rows_of (row 3 1 1 799 18500 (survival 0) ∷ row 3 1 2 800 18500 (survival 0) ∷ []) ≡ refused 9 3
unfolding read
last_layer_inside = refl

end_open : rows_of (row 3 1 1 800 18499 (survival 0) ∷ []) ≡ refused 9 3
unfolding read
end_open = refl

layers : rows_of (row 3 1 1 400 18500 (survival 0) ∷ row 3 1 1 800 9000 (survival 0) ∷ row 3 1 1 800 18500 (survival 0) ∷ []) ≡ accepted (case printed_hull (row 3 1 1 400 18500 (survival 0) ∷ row 3 1 1 800 9000 (survival 0) ∷ row 3 1 1 800 18500 (survival 0) ∷ []))
unfolding read
layers = refl

no_rows : rows_of [] ≡ accepted (case printed_hull [])
unfolding read
no_rows = refl
