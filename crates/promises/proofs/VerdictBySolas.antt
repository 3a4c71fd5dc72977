-- The verdict is right by the regulation's own sums: a ship that is said to meet reaches every mark, and one that is said to fail falls short of one
-- where no row but a layer's last is too high. Assumes nothing.
use Prim.Native.Nat.{suc, ◌+◌}
use mathlib.Core.Path.{◌≡◌, refl, ◌∙◌, ap}
use mathlib.Core.List.{List, [], ◌∷◌}
use lib.ListN.{length}
use Rattle.laws.specs.Fraction.{Fraction, ◌≈◌, ◌≺◌}
use Rattle.laws.proofs.Fraction.{≈_sym, ≼_of_≈, ≼_trans}
use lib.Dec.{eqb}
use borrow.Author.Tests.{eqb-true}
use Rattle.laws.proofs.Tests.{told}
use Rattle.laws.proofs.FractionCompare.{strictly_then_below, below_then_strictly}
use Rattle.solas.specs.Index.{NoLogarithm}
use Rattle.verdicts.specs.Required.{passenger_required, required_of, mark_of}
use Rattle.regulation.specs.RegulationIndex.{Boundary, vm}
use Rattle.regulation.specs.RegulationSums.{plain}
use Rattle.regulation.specs.OfSolasSums.{NoneNegative}
use Rattle.regulation.proofs.RegulationIndices.{required_is_01's, partial_mark_is_01's}
use Rattle.regulation.proofs.RegulationPassengers.{passenger_required_is_02's, rule_of_2020_is_02's, passenger_mark_is_02's}
use Rattle.indices.specs.Exact.{RowAt, Each, NoneBelow, Thrice, AtAll, AtEach}
use Rattle.verdicts.specs.Promises.{attained, at_deepest, at_partial, at_light, ReachAll, OneShort}
use Rattle.casefile.specs.Record.{Case}
use Rattle.casefile.specs.Groups.{Grouped}
use Rattle.casefile.proofs.Band.{band_is_not_taken}
use Rattle.promises.specs.Rows.{rows_of}
use Rattle.promises.specs.Sums.{LowButTops, OneEach, SummedUp}
use Rattle.promises.specs.VerdictBySolas.{passengers_in, required_in, mark_in, ReachBySolas, ShortBySolas, MeetsBySolas, PlainMeetsBySolas, FailsBySolas, PlainFailsBySolas}
use Rattle.promises.proofs.CaseRows.{as_many}
use Rattle.promises.proofs.CutLists.{low_at_middle}
use Rattle.promises.proofs.Kept.{promise}
use Rattle.promises.proofs.Sums.{sums_of_solas, plain_sums_of_solas}
-- checked first, so that a sentence that is not so is refused at a number
use Rattle.promises.proofs.WitnessBySolas.{not_where_it_rises}

-- ---- a list that has something for each row has one fraction a row; with none below its row, none is negative
one_each : (P : RowAt → Fraction → Type 0) (rs : List RowAt) (xs : List Fraction) → Each P rs xs → length xs ≡ length rs
one_each P [] [] n = refl
one_each P [] (x ∷ xs) n = absurd n
one_each P (r ∷ rs) [] n = absurd n
one_each P (r ∷ rs) (x ∷ xs) n = ap suc (one_each P rs xs n.1)

none_negative : (rs : List RowAt) (xs : List Fraction) → NoneBelow rs xs → NoneNegative xs
none_negative [] [] n = tt
none_negative [] (x ∷ xs) n = absurd n
none_negative (r ∷ rs) [] n = absurd n
none_negative (r ∷ rs) (x ∷ xs) n = (n.0.0, none_negative rs xs n.1)

-- R and the mark are the regulation's, by the ship's type and rule; of the rule of 2020 for persons that are taken
abbrev Taken : Case → Type 0
Taken c = c.hull.rule ≡ 1 → NoLogarithm (c.hull.lifeboats + c.hull.excess)

passengers_same : (c : Case) → Taken c → passengers_in c ≈ passenger_required c.hull
unfolding passenger_required
passengers_same c n =
    let h = c.hull in
    told (eqb h.rule 1) (λ t. rw t (rule_of_2020_is_02's (h.lifeboats + h.excess) (n (eqb-true h.rule 1 t)))) (λ t. rw t (passenger_required_is_02's h.length h.lifeboats h.excess))

required_same : (c : Case) → Taken c → required_in c ≈ required_of c.hull
unfolding required_of
required_same c n = let h = c.hull in told (eqb h.kind 6) (λ t. rw t (passengers_same c n)) (λ t. rw t (required_is_01's h.length))

mark_same : (c : Case) → Taken c → mark_in c ≈ mark_of c.hull
unfolding mark_of
mark_same c n =
    let h = c.hull in
    told (eqb h.kind 6) (λ t. rw t (passenger_mark_is_02's (passengers_in c) (passenger_required h) (passengers_same c n))) (λ t. rw t (partial_mark_is_01's h.length))

of_equals : {f f' g g' : Fraction} → f' ≈ f → g ≈ g' → f ≺ g → f' ≺ g'
of_equals p q l = below_then_strictly (≼_of_≈ p) (strictly_then_below l (≼_of_≈ q))

module _ (difference : Boundary → Boundary → Fraction → Fraction) (c : Case) (√ : Fraction) (q : Grouped c.hull c.rows)
    {Such : List Fraction → Type 0} (sums : SummedUp difference c √ q Such) (taken : Taken c) where
  abbrev required : Fraction
  required = required_of c.hull

  abbrev mark : Fraction
  mark = mark_of c.hull

  module _ (P : RowAt → Fraction → Type 0) where
    at_deepest_lem : (xs : List Fraction) → Each P (rows_of c).deepest xs → OneEach c xs
    at_deepest_lem xs n = one_each P (rows_of c).deepest xs n ∙ (as_many c).0

    at_partial_lem : (xs : List Fraction) → Each P (rows_of c).partial xs → OneEach c xs
    at_partial_lem xs n = one_each P (rows_of c).partial xs n ∙ (as_many c).1

    at_light_lem : (xs : List Fraction) → Each P (rows_of c).light xs → OneEach c xs
    at_light_lem xs n = one_each P (rows_of c).light xs n ∙ (as_many c).2

    at_all : (xs : Thrice (List Fraction)) → AtEach (Each P) (rows_of c) xs → AtAll (OneEach c) xs
    at_all xs n = (at_deepest_lem xs.deepest n.0, at_partial_lem xs.partial n.1, at_light_lem xs.light n.2)

  reach : (xs : Thrice (List Fraction)) → AtAll (OneEach c) xs → AtAll Such xs → ReachAll (rows_of c) required mark xs →
      ReachBySolas difference c √ q xs
  reach xs n e all =
      let up = ≼_of_≈ (mark_same c taken) in
      record {
        attained = ≼_trans (≼_of_≈ (required_same c taken)) (≼_trans all.attained (sums.attained_not_above xs n e));
        at_deepest = ≼_trans up (≼_trans all.at_deepest (sums.deepest.not_above xs.deepest n.0 e.0));
        at_partial = ≼_trans up (≼_trans all.at_partial (sums.partial.not_above xs.partial n.1 e.1));
        at_light = ≼_trans up (≼_trans all.at_light (sums.light.not_above xs.light n.2 e.2));
      }

  short : LowButTops c c.hull.light → OneShort (rows_of c) required mark → ShortBySolas difference c √ q
  short low (attained l) =
      attained (λ xs n. of_equals (sums.attained_same low xs (at_all _ xs n)) (≈_sym (required_same c taken)) (l xs n))
  short low (at_deepest l) =
      at_deepest (λ xs n. of_equals (sums.same_at_deepest xs (at_deepest_lem _ xs n)) (≈_sym (mark_same c taken)) (l xs n))
  short low (at_partial l) =
      let low-there = low_at_middle c low in
      at_partial (λ xs n. of_equals (sums.partial.same low-there xs (at_partial_lem _ xs n)) (≈_sym (mark_same c taken)) (l xs n))
  short low (at_light l) =
      at_light (λ xs n. of_equals (sums.light.same low xs (at_light_lem _ xs n)) (≈_sym (mark_same c taken)) (l xs n))

pub meets_by_solas : MeetsBySolas
meets_by_solas f c e √ root q one xs n =
    let sums = sums_of_solas f c e √ root q in
    let none : AtAll NoneNegative xs = (
      none_negative (rows_of c).deepest xs.deepest n.0,
      none_negative (rows_of c).partial xs.partial n.1,
      none_negative (rows_of c).light xs.light n.2,
    ) in
    let taken = band_is_not_taken f c e in
    reach vm c √ q sums taken xs (at_all vm c √ q sums taken _ xs n) none ((promise f c e).verdict.meets one xs n)

pub plain_meets_by_solas : PlainMeetsBySolas
plain_meets_by_solas f c e √ root q one xs n falls =
    let sums = plain_sums_of_solas f c e √ root q in
    let taken = band_is_not_taken f c e in
    reach plain c √ q sums taken xs (at_all plain c √ q sums taken _ xs n) falls ((promise f c e).verdict.meets one xs n)

pub fails_by_solas : FailsBySolas
fails_by_solas f c e √ root q two low = short vm c √ q (sums_of_solas f c e √ root q) (band_is_not_taken f c e) low ((promise f c e).verdict.fails two)

pub plain_fails_by_solas : PlainFailsBySolas
plain_fails_by_solas f c e √ root q two low = short plain c √ q (plain_sums_of_solas f c e √ root q) (band_is_not_taken f c e) low ((promise f c e).verdict.fails two)
