-- The four promises are kept by the answer of every accepted file, and by what the entry returns. Assumes nothing.
use Prim.Native.Nat.{ℕ, ◌+◌, ◌*◌, ◌≤◌}
use mathlib.Core.Path.{◌≡◌, refl, sym, ◌∙◌, ap, subst}
use mathlib.Core.Bool.{Bool, true, false, cond, not}
use mathlib.Core.List.{List, [], ◌∷◌}
use mathlib.Core.Logic.{◌⊎◌, inl, inr}
use native.Mathlib.Omega.{arith}
use lib.Dec.{ltb}
use lib.ListN.{length}
use Rattle.laws.specs.Lists.{Every}
use Rattle.laws.specs.Fraction.{Fraction}
use Rattle.laws.specs.Rounding.{ceil}
use Rattle.records.specs.declared.Answer.{Answer}
use Rattle.records.specs.declared.Ends.{Ends}
use Rattle.verdicts.specs.Required.{required_of, mark_of}
use Rattle.records.specs.declared.Ratio.{Ratio}
use Rattle.numbers.specs.Ratio.{ratio_of}
use Rattle.indices.specs.Index.{attained_of}
use Rattle.verdicts.specs.Verdict.{all_reach, verdict_of}
use Rattle.indices.specs.Exact as exact
use Rattle.indices.specs.Exact.{RowAt, Close, Thrice, AtAll, partial_ends}
use Rattle.indices.specs.Promises.{AtMostOne}
use Rattle.indices.proofs.Enclosure.{no_more_than_upper, no_less_than_lower, attained_no_more, attained_no_less}
use Rattle.indices.proofs.Width.{partial_width, attained_width}
use Rattle.verdicts.proofs.Verdicts.{verdict_by_ends, meets_is_right, fails_is_right}
use Rattle.verdicts.proofs.ByHull.{required_of_not_negative, mark_of_not_negative}
use Rattle.casefile.specs.Record.{Row, Case}
use Rattle.casefile.specs.Valid.{Valid}
use Rattle.casefile.specs.Reading.{Reading, refused, accepted, reading}
use Rattle.casefile.proofs.Soundness.{sound}
use Rattle.casefile.proofs.Refusal.{nonzero, is_refusal}
use Rattle.answers.specs.Answer.{figures, answer, refusal, answered}
use Rattle.promises.specs.Rows.{exact_rows, rows_of}
use Rattle.promises.specs.Promises.{Enclosure, Near, Width, Chances, Verdict, Kept, Promise, PromiseOfTheEntry}
use Rattle.promises.proofs.CaseRows.{sums_are, as_many, all_sound, all_close}
use Rattle.promises.proofs.Chances.{chances_at_most_one, chances_one}
use Rattle.promises.proofs.Widths.{rows_ordered, attained_ordered, lower_at_most_one}
-- checked first, so that a sentence that is not so is refused at a number
use Rattle.promises.proofs.WitnessVerdict.{meets}

-- ---- over the rows of a valid case, whatever else the answer says
module _ (c : Case) (v : Valid c) where
  abbrev rows : Thrice (List RowAt)
  rows = rows_of c

  abbrev made : Answer
  made = figures c.hull (length c.rows) (exact.partials_of rows)

  enclosed : Enclosure c made
  unfolding figures
  enclosed =
      let s = all_sound c v in
      record {
        no_more = (no_more_than_upper rows.deepest s.0, no_more_than_upper rows.partial s.1, no_more_than_upper rows.light s.2);
        no_less = (no_less_than_lower rows.deepest s.0, no_less_than_lower rows.partial s.1, no_less_than_lower rows.light s.2);
        attained_no_more = attained_no_more rows s;
        attained_no_less = attained_no_less rows s;
      }

  near_at : (rs : List RowAt) → Every exact.Sound rs → Every (Close 32) rs → AtMostOne rs → length rs ≡ length c.rows → Near c made (partial_ends rs)
  near_at rs s k m n = record { ordered = rows_ordered rs s; near = omega (arith, partial_width 32 rs k m, n) }

  -- A's ends are one further apart than a partial index's may be, which the first row pays for; with no rows they are the same
  near_attained : (rs : List Row) → c.rows ≡ rs → (attained_of (exact.partials_of rows)).upper ≤ (attained_of (exact.partials_of rows)).lower + (100000 + 40 * length c.rows)
  unfolding rows_of exact_rows attained_of ceil
  near_attained [] e = rw e (omega arith)
  near_attained (r ∷ rs) e =
      let s = all_sound c v in
      let m = chances_at_most_one c v in
      let one : AtAll AtMostOne rows = (lower_at_most_one rows.deepest s.0 m.0, lower_at_most_one rows.partial s.1 m.1, lower_at_most_one rows.light s.2 m.2) in
      let n = as_many c in
      let some : length c.rows ≡ length rs + 1 = ap length e ∙ omega arith in
      omega (arith, some, attained_width 32 (length c.rows) rows (all_close c v) one (omega (arith, n.0), omega (arith, n.1), omega (arith, n.2)))

  wide : Width c made
  unfolding figures
  wide =
      let s = all_sound c v in
      let k = all_close c v in
      let m = chances_at_most_one c v in
      let n = as_many c in
      record {
        partials = (
          near_at rows.deepest s.0 k.0 (lower_at_most_one rows.deepest s.0 m.0) n.0,
          near_at rows.partial s.1 k.1 (lower_at_most_one rows.partial s.1 m.1) n.1,
          near_at rows.light s.2 k.2 (lower_at_most_one rows.light s.2 m.2) n.2,
        );
        attained = record { ordered = attained_ordered rows s; near = near_attained c.rows refl };
      }

  totals : Chances c made
  totals = record { at_most_one = chances_at_most_one c v; one = chances_one c v }

  -- ---- the verdict
  abbrev required : Fraction
  required = required_of c.hull

  abbrev mark : Fraction
  mark = mark_of c.hull

  one_of_three : (a : Ends) (t : List Ends) (q m : Ratio) → (verdict_of a t q m ≡ 1) ⊎ ((verdict_of a t q m ≡ 2) ⊎ (verdict_of a t q m ≡ 3))
  unfolding verdict_of
  one_of_three a t q m = by (all_reach (λ e. e.lower) a t q m) (not (all_reach (λ e. e.upper) a t q m))
    where
      by : (x y : Bool) → let n : ℕ = cond x 1 (cond y 2 3) in (n ≡ 1) ⊎ ((n ≡ 2) ⊎ (n ≡ 3))
      by true y = inl refl
      by false true = inr (inl refl)
      by false false = inr (inr refl)

  judged : Verdict c made
  unfolding figures
  judged =
      let s = all_sound c v in
      let p = required_of_not_negative c.hull in
      let q = mark_of_not_negative c.hull in
      record {
        meets = meets_is_right rows s required mark p q;
        fails = fails_is_right rows s required mark p q;
        by_ends_lem = verdict_by_ends (attained_of (exact.partials_of rows)) (exact.partials_of rows) required mark p q;
        no_other = one_of_three (attained_of (exact.partials_of rows)) (exact.partials_of rows) (ratio_of required) (ratio_of mark);
      }

  kept : Kept c (answer c)
  unfolding answer figures
  kept = rw (sums_are c) (record { no_line = refl; rows = refl; enclosure = enclosed; width = wide; chances = totals; verdict = judged })

pub promise : Promise
promise f c e = kept c (sound f c e).1

-- ---- of what the entry returns: number 0 is an accepted file with room on the sheet
accepted_only : (f : List ℕ) (size : ℕ) (d : Reading) → reading f ≡ d → (answered d size).number ≡ 0 → (c : Case) × (d ≡ accepted c) × (answered d size ≡ answer c)
unfolding answered
accepted_only f size (refused k l) e z = absurd (nonzero f k l (is_refusal f k l e) z)
accepted_only f size (accepted c) e z = by (ltb size (2 * length c.rows)) refl
  where
    by : (b : Bool) → ltb size (2 * length c.rows) ≡ b → (d : Case) × (accepted c ≡ accepted d) × (cond (ltb size (2 * length c.rows)) (refusal 11 0) (answer c) ≡ answer d)
    by true t = absurd (omega (arith, rw t at z))
    by false t = (c, refl, rw t refl)

pub promise_of_the_entry : PromiseOfTheEntry
promise_of_the_entry f size r e z =
    let (c, a, b) = accepted_only f size (reading f) refl (sym (ap (λ r. r.number) e) ∙ z) in
    (c, a, subst (Kept c) (sym (e ∙ b)) (promise f c a))
