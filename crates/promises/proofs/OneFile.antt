-- "One file in full" by computation: the file is read, its case is worked out, and its answer is printed. Assumes nothing.
use Prim.Native.Nat.{ℕ}
use mathlib.Core.Path.{◌≡◌, refl, ◌∙◌, ap}
use mathlib.Core.List.{[], ◌∷◌}
use lib.IntN.{ℤ, pos}
use Rattle.laws.specs.Fraction.{◌less◌over◌, ◌≼?◌, lesser, ◌⊹◌, ◌⊛◌}
use Rattle.records.specs.declared.Finding.{Finding}
use Rattle.records.specs.declared.Flooding.{Flooding}
use Rattle.records.specs.Results.{found as alone}
use Rattle.laws.specs.Rounding.{ceil}
use Rattle.laws.specs.Lists.{tabulate}
use Rattle.laws.specs.Bytes.{bytes}
use Rattle.numbers.specs.Figures.{billionths_of, portion_of, halves_of}
use Rattle.roots.specs.Root.{with_digits, root_down, root_up}
use Rattle.solas.specs.Span.{touch, p, P}
use Rattle.solas.specs.Penetration.{c, d, G1, G3}
use Rattle.solas.specs.Count.{added, taken}
use Rattle.solas.specs.Height.{v, v_at, row_v}
use Rattle.solas.specs.Survival.{k, s⁴, unless_immersed}
use Rattle.solas.specs.Passengers.{k_of_passengers, final⁴, intermediate⁴, s_mom, together⁴}
use Rattle.solas.specs.Index.{dp, R, partial_mark, persons, passenger_R, R2020, passenger_mark}
use Rattle.spans.specs.Rounded as rounded
use Rattle.spans.specs.Span.{p_ends, PEnds}
use Rattle.layers.specs.Layer.{G1Ends, G3Ends}
use Rattle.penetration.specs.Figures.{plus, minus}
use Rattle.penetration.specs.Penetration.{part_ends, GEnds, mixed, QEnds}
use Rattle.chances.specs.Share.{within_ends, sums_of, lowest, highest, row_of, row_ends}
use Rattle.numbers.specs.Ratio.{ratio_of}
use Rattle.heights.specs.Height.{row_vs}
use Rattle.survival.specs.Marks.{found_marks, marks_of, passenger_marks}
use Rattle.survival.specs.Survival.{worse_of, counts_at, factor_of, scaled_of, rounded_of, survival_of, passenger_survival, survival_at, survivals_of}
use Rattle.indices.specs.Index.{adds_of, row_adds, partials, attained_of}
use Rattle.verdicts.specs.Required.{passenger_required, required_of, mark_of}
use Rattle.verdicts.specs.Verdict.{reaches, all_reach, verdict_of}
use Rattle.lines.specs.Lines.{lines}
use Rattle.hexadecimal.specs.Hex.{digit_of, pair_of, pairs, digits_only, proper, badly_written, digit, hex, line_of}
use Rattle.fields.specs.Fields.{word_at, long_at, signed}
use Rattle.casefile.specs.Layout.{takes, frame_length, place_of, hull_of, head_of, finding_of, set_of, flooding_of, floodings_of, results_of}
use Rattle.casefile.specs.Limits.{between, sizes_fit, persons_fit, rising_to, zones_fit, head_fits, opening_fits, finding_fits, findings_fit, flooding_fits, floodings_fit, results_fit, row_fits}
use Rattle.casefile.specs.Order.{at_top, closes_group, same_group, same_layer, earlier_group, out_of_order, leaves_open, ends_open}
use Rattle.casefile.specs.Table.{first_holds, wrong_hull_frame, wrong_frame, wrong_zones, hull_checks, row_checks, end_checks, line_checks}
use Rattle.casefile.specs.Record.{Case}
use Rattle.casefile.specs.Reading.{accepted, read_from, reading}
use Rattle.digits.specs.Fields.{ends_field, partial_field, partials_field}
use Rattle.printing.specs.Marks.{mark_byte, marks_at, marks_field}
use Rattle.printing.specs.Printed.{printed, figures_frame, refusal_frame, row_frame, row_lines}
use Rattle.rows.specs.Standing.{stands}
use Rattle.rows.specs.Work.{share_at, adds_at, adds_from, lines_from}
use Rattle.answers.specs.Answer.{partials_of, figures, answer, answered}
use Rattle.answers.specs.Report.{lines_in, report}
use Rattle.promises.specs.OneFile.{printed_case, text, OneFileIsRead, OneFileInFull, two_sets, text_of_two_sets, TwoSetsInFull, passenger_file, text_of_passengers, PassengersInFull, under_rule, text_under, RulesInFull}

pub file_read : OneFileIsRead
unfolding reading read_from lines first_holds hull_checks row_checks end_checks line_checks wrong_hull_frame wrong_frame wrong_zones between sizes_fit persons_fit rising_to zones_fit head_fits opening_fits finding_fits findings_fit floodings_fit results_fit row_fits
    at_top closes_group same_group same_layer earlier_group out_of_order leaves_open ends_open takes frame_length place_of hull_of head_of finding_of set_of results_of digit_of pair_of pairs digits_only proper badly_written word_at signed tabulate
file_read = refl

case_printed : report (accepted printed_case) ≡ text
unfolding report answered answer figures partials_of lines_in lines_from adds_from adds_at share_at stands same_group same_layer
    row_ends row_of lowest highest sums_of within_ends added taken QEnds mixed c d PEnds GEnds p_ends part_ends G1Ends G3Ends minus plus rounded.ends_of billionths_of portion_of halves_of ceil touch P p G1 G3 ◌⊹◌ ◌⊛◌ ◌less◌over◌
    row_vs row_v v_at v dp counts_at survivals_of survival_at survival_of factor_of unless_immersed marks_of found_marks s⁴ k ratio_of scaled_of rounded_of root_down root_up with_digits adds_of row_adds partials attained_of required_of mark_of R partial_mark reaches all_reach verdict_of
    printed line_of figures_frame refusal_frame row_frame row_lines mark_byte marks_at marks_field ends_field partial_field partials_field bytes digit hex
case_printed = refl

pub one_file_in_full : OneFileInFull
one_file_in_full = ap report file_read ∙ case_printed

-- ---- the file with a second set

abbrev found : ℕ → ℕ → ℕ → ℤ → Finding
found lever range heel opening = record { lever = lever; range = range; heel = heel; opening = opening; given = 0 }

abbrev case_of_two_sets : Case
case_of_two_sets =
    record {
      hull = record { kind = 1; length = 8000; breadth = 1300; deepest = 5000; light = 3000; lifeboats = 0; excess = 0; rule = 0; zones = 1; places = 0 ∷ 8000 ∷ 0 ∷ 0 ∷ 0 ∷ 0 ∷ 0 ∷ 0 ∷ 0 ∷ 0 ∷ 0 ∷ 0 ∷ 0 ∷ 0 ∷ 0 ∷ 0 ∷ 0 ∷ 0 ∷ 0 ∷ 0 ∷ 0 ∷ [] };
      rows =
          record {
            head = record { kind = 5; first = 1; count = 1; depth = 650; height = 17500 };
            results =
                alone
                (found 60 800 0 (pos 0)
                ∷ found 120 1600 0 (pos 300)
                ∷ found 60 1600 0 (pos 0)
                ∷ found 120 1600 0 (pos 0)
                ∷ found 120 1600 2995 (pos 0)
                ∷ found 120 800 0 (pos 0)
                ∷ []);
          }
          ∷ [];
    }

two_sets_read : reading two_sets ≡ accepted case_of_two_sets
unfolding reading read_from lines first_holds hull_checks row_checks end_checks line_checks wrong_hull_frame wrong_frame wrong_zones between sizes_fit persons_fit rising_to zones_fit head_fits opening_fits finding_fits findings_fit floodings_fit results_fit row_fits
    at_top closes_group same_group same_layer earlier_group out_of_order leaves_open ends_open takes frame_length place_of hull_of head_of finding_of set_of results_of digit_of pair_of pairs digits_only proper badly_written word_at signed tabulate
two_sets_read = refl

two_sets_printed : report (accepted case_of_two_sets) ≡ text_of_two_sets
unfolding report answered answer figures partials_of lines_in lines_from adds_from adds_at share_at stands same_group same_layer
    row_ends row_of lowest highest sums_of within_ends added taken QEnds mixed c d PEnds GEnds p_ends part_ends G1Ends G3Ends minus plus rounded.ends_of billionths_of portion_of halves_of ceil touch P p G1 G3 ◌⊹◌ ◌⊛◌ ◌≼?◌ ◌less◌over◌
    row_vs row_v v_at v dp worse_of counts_at survivals_of survival_at survival_of factor_of unless_immersed marks_of found_marks s⁴ k ratio_of scaled_of rounded_of root_down root_up with_digits adds_of row_adds partials attained_of required_of mark_of R partial_mark reaches all_reach verdict_of
    printed line_of figures_frame refusal_frame row_frame row_lines mark_byte marks_at marks_field ends_field partial_field partials_field bytes digit hex
two_sets_printed = refl

pub two_sets_in_full : TwoSetsInFull
two_sets_in_full = ap report two_sets_read ∙ two_sets_printed

-- ---- the passenger ship's file

abbrev case_of_passengers : Case
case_of_passengers =
    record {
      hull = record { kind = 6; length = 2400; breadth = 600; deepest = 1500; light = 1000; lifeboats = 90; excess = 30; rule = 0; zones = 1; places = 0 ∷ 2400 ∷ 0 ∷ 0 ∷ 0 ∷ 0 ∷ 0 ∷ 0 ∷ 0 ∷ 0 ∷ 0 ∷ 0 ∷ 0 ∷ 0 ∷ 0 ∷ 0 ∷ 0 ∷ 0 ∷ 0 ∷ 0 ∷ 0 ∷ [] };
      rows =
          record {
            head = record { kind = 7; first = 1; count = 1; depth = 300; height = 14000 };
            results =
                record {
                  findings = found 100 1500 900 (pos 0) ∷ found 160 2000 0 (pos 200) ∷ found 130 1600 0 (pos 0) ∷ [];
                  floodings =
                      record { displacement = 120; moment = 14; lever = 60; range = 800; heel = 300; roro = 0 }
                      ∷ record { displacement = 110; moment = 12; lever = 30; range = 700; heel = 1500; roro = 1 }
                      ∷ record { displacement = 90; moment = 9; lever = 50; range = 700; heel = 0; roro = 0 }
                      ∷ [];
                };
          }
          ∷ [];
    }

passengers_read : reading passenger_file ≡ accepted case_of_passengers
unfolding reading read_from lines first_holds hull_checks row_checks end_checks line_checks wrong_hull_frame wrong_frame wrong_zones between sizes_fit persons_fit rising_to zones_fit head_fits opening_fits finding_fits findings_fit flooding_fits floodings_fit results_fit row_fits
    at_top closes_group same_group same_layer earlier_group out_of_order leaves_open ends_open takes frame_length place_of hull_of head_of finding_of set_of flooding_of floodings_of results_of digit_of pair_of pairs digits_only proper badly_written word_at long_at signed tabulate
passengers_read = refl

passengers_printed : report (accepted case_of_passengers) ≡ text_of_passengers
unfolding report answered answer figures partials_of lines_in lines_from adds_from adds_at share_at stands same_group same_layer
    row_ends row_of lowest highest sums_of within_ends added taken QEnds mixed c d PEnds GEnds p_ends part_ends G1Ends G3Ends minus plus rounded.ends_of billionths_of portion_of halves_of ceil touch P p G1 G3 ◌⊹◌ ◌⊛◌ ◌≼?◌ ◌less◌over◌
    row_vs row_v v_at v dp survivals_of survival_at passenger_survival passenger_marks unless_immersed together⁴ intermediate⁴ final⁴ s_mom k_of_passengers lesser ratio_of scaled_of rounded_of root_down root_up with_digits adds_of row_adds partials attained_of required_of mark_of passenger_required persons passenger_R passenger_mark reaches all_reach verdict_of
    printed line_of figures_frame refusal_frame row_frame row_lines mark_byte marks_at marks_field ends_field partial_field partials_field bytes digit hex
passengers_printed = refl

pub passengers_in_full : PassengersInFull
passengers_in_full = ap report passengers_read ∙ passengers_printed

-- ---- one ship under both rules

abbrev case_under : ℕ → Case
case_under rule =
    record {
      hull = record { kind = 6; length = 2400; breadth = 600; deepest = 1500; light = 1000; lifeboats = 90; excess = 30; rule = rule; zones = 1; places = 0 ∷ 2400 ∷ 0 ∷ 0 ∷ 0 ∷ 0 ∷ 0 ∷ 0 ∷ 0 ∷ 0 ∷ 0 ∷ 0 ∷ 0 ∷ 0 ∷ 0 ∷ 0 ∷ 0 ∷ 0 ∷ 0 ∷ 0 ∷ 0 ∷ [] };
      rows =
          record {
            head = record { kind = 7; first = 1; count = 1; depth = 300; height = 14000 };
            results =
                let r = found 60 768 0 (pos 0) in
                let w : Flooding = record { displacement = 300; moment = 6; lever = 50; range = 700; heel = 0; roro = 0 } in
                record { findings = r ∷ r ∷ r ∷ []; floodings = w ∷ w ∷ w ∷ [] };
          }
          ∷ [];
    }

rules_read : (reading (under_rule "0001") ≡ accepted (case_under 0)) × (reading (under_rule "0101") ≡ accepted (case_under 1))
unfolding reading read_from lines first_holds hull_checks row_checks end_checks line_checks wrong_hull_frame wrong_frame wrong_zones between sizes_fit persons_fit rising_to zones_fit head_fits opening_fits finding_fits findings_fit flooding_fits floodings_fit results_fit row_fits
    at_top closes_group same_group same_layer earlier_group out_of_order leaves_open ends_open takes frame_length place_of hull_of head_of finding_of set_of flooding_of floodings_of results_of digit_of pair_of pairs digits_only proper badly_written word_at long_at signed tabulate
rules_read = (refl, refl)

rules_printed : (report (accepted (case_under 0)) ≡ text_under "8101") × (report (accepted (case_under 1)) ≡ text_under "8102")
unfolding report answered answer figures partials_of lines_in lines_from adds_from adds_at share_at stands same_group same_layer
    row_ends row_of lowest highest sums_of within_ends added taken QEnds mixed c d PEnds GEnds p_ends part_ends G1Ends G3Ends minus plus rounded.ends_of billionths_of portion_of halves_of ceil touch P p G1 G3 ◌⊹◌ ◌⊛◌ ◌≼?◌ ◌less◌over◌
    row_vs row_v v_at v dp survivals_of survival_at passenger_survival passenger_marks unless_immersed together⁴ intermediate⁴ final⁴ s_mom k_of_passengers lesser ratio_of scaled_of rounded_of root_down root_up with_digits adds_of row_adds partials attained_of required_of mark_of passenger_required persons passenger_R R2020 passenger_mark reaches all_reach verdict_of
    printed line_of figures_frame refusal_frame row_frame row_lines mark_byte marks_at marks_field ends_field partial_field partials_field bytes digit hex
rules_printed = (refl, refl)

pub rules_in_full : RulesInFull
rules_in_full = (ap report rules_read.0 ∙ rules_printed.0, ap report rules_read.1 ∙ rules_printed.1)
