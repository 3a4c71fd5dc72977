-- What a line's answer says: the number of the first check that holds, or the kind and the fields of a line that passes. Assumes nothing.
use Prim.Native.Nat.{ℕ, ◌+◌, ◌-◌, ◌*◌}
use mathlib.Core.Path.{◌≡◌, refl, sym, ◌∙◌, ap}
use mathlib.Core.Bool.{Bool, true, false, cond}
use mathlib.Core.List.{List, [], ◌∷◌, ◌++◌}
use lib.Dec.{eqb}
use borrow.Author.Tests.{eqb-true}
use Rattle.laws.specs.Lists.{tabulate}
use Rattle.laws.proofs.Tests.{picked}
use Rattle.records.specs.declared.Hull.{Hull}
use Rattle.lines.specs.Lines.{Line}
use Rattle.hexadecimal.specs.Hex.{pairs}
use Rattle.hexadecimal.proofs.Pairs.{pairs_octets}
use Rattle.fields.specs.Fields.{byte_at, word_at}
use Rattle.fields.proofs.Fields.{octets_drop}
use Rattle.casefile.specs.Judged.{Frame}
use Rattle.casefile.specs.declared.Progress.{Progress}
use Rattle.casefile.specs.Layout.{kind_of, fields_of, is_row, persons_length, zones_at, hull_of, head_of, results_of, row_of, count_of, persons_of, rule_of, hull_values}
use Rattle.casefile.specs.Table.{first_holds, hull_checks, line_checks}
use Rattle.casefile.specs.Reading.{Stage, begin, inside, checks}
use Rattle.casefile.specs.Answer.{number_of, values_of, given_first, refused_first, unless_refused, first_judged, frame_of, judged, none, SaysTheLine, frame_at}
use Rattle.casefile.proofs.Checks.{HullPasses, LinePasses, hull_passes, passes_first}
use Rattle.casefile.proofs.Limits.{zones_are}
use Rattle.casefile.proofs.HullLayout.{inner_words}
use Rattle.casefile.proofs.RowKinds.{of_row_kind}
use Rattle.casefile.proofs.RowNumbers.{results_read}
use Rattle.casefile.proofs.Passing.{hull_zones, then_end}

-- ---- line 1

module _ (l : Line) where
  abbrev hull : Hull
  hull = hull_of (kind_of (pairs l.text)) (fields_of (pairs l.text))

  first_by : (k : ℕ) → first_holds (hull_checks l) ≡ k → first_judged l ≡ unless_refused k hull
  unfolding first_judged
  first_by k e = rw e refl

  pub first_passes : first_holds (hull_checks l) ≡ 0 → first_judged l ≡ given_first hull
  first_passes e = first_by 0 e

  number_first : (k : ℕ) (t : Bool) → eqb k 0 ≡ t → number_of (cond t (given_first hull) (refused_first k)).frame ≡ k
  number_first k true e = sym (eqb-true k 0 e)
  number_first k false e = refl

  pub first_says_number : number_of (first_judged l).frame ≡ first_holds (hull_checks l)
  first_says_number = let k : ℕ = first_holds (hull_checks l) in ap (λ a. number_of a.frame) (first_by k refl) ∙ number_first k (eqb k 0) refl

  -- the fields of a hull's line: the numbers after the zone count are its inner bulkheads
  hull_values_lem : (p : HullPasses l) → let kind = kind_of (pairs l.text) in let f = fields_of (pairs l.text) in
      hull_values hull
      ≡ kind ∷ word_at f 0 ∷ word_at f 2 ∷ word_at f 4 ∷ word_at f 6 ∷ persons_of hull ++ rule_of hull ++ byte_at f (zones_at kind) ∷ tabulate (λ i. word_at f (9 + persons_length kind + 2 * i)) (byte_at f (zones_at kind) - 1)
  unfolding hull_of
  hull_values_lem p =
      let kind : ℕ = kind_of (pairs l.text) in
      let f : List ℕ = fields_of (pairs l.text) in
      ap (λ ns. kind ∷ word_at f 0 ∷ word_at f 2 ∷ word_at f 4 ∷ word_at f 6 ∷ persons_of hull ++ rule_of hull ++ byte_at f (zones_at kind) ∷ ns) (inner_words kind f (zones_are hull (hull_zones l p.written p).0).most)

  passed_values : first_holds (hull_checks l) ≡ 0 → values_of (first_judged l).hull none (first_judged l).frame ≡ hull_values hull
  passed_values e = ap (λ a. values_of a.hull none a.frame) (first_passes e)

  cargo_values : first_holds (hull_checks l) ≡ 0 → kind_of (pairs l.text) ≡ 1 → let f = fields_of (pairs l.text) in
      values_of (first_judged l).hull none (first_judged l).frame
      ≡ 1 ∷ word_at f 0 ∷ word_at f 2 ∷ word_at f 4 ∷ word_at f 6 ∷ byte_at f 8 ∷ tabulate (λ i. word_at f (9 + 2 * i)) (byte_at f 8 - 1)
  unfolding hull_of
  cargo_values e k = passed_values e ∙ hull_values_lem (hull_passes l e) ∙ rw k refl

  passenger_values : first_holds (hull_checks l) ≡ 0 → kind_of (pairs l.text) ≡ 6 → let f = fields_of (pairs l.text) in
      values_of (first_judged l).hull none (first_judged l).frame
      ≡ 6 ∷ word_at f 0 ∷ word_at f 2 ∷ word_at f 4 ∷ word_at f 6 ∷ word_at f 8 ∷ word_at f 10 ∷ byte_at f 12 ∷ byte_at f 13 ∷ tabulate (λ i. word_at f (14 + 2 * i)) (byte_at f 13 - 1)
  unfolding hull_of
  passenger_values e k = passed_values e ∙ hull_values_lem (hull_passes l e) ∙ rw k refl

-- ---- a line after the hull

module _ (h : Hull) (p : Progress) (l : Line) where
  abbrev bytes : List ℕ
  bytes = pairs l.text

  by_number : (k : ℕ) → first_holds (line_checks h p l) ≡ k → judged h p l ≡ cond (eqb k 0) (frame_of bytes) (Frame.Wrong k)
  unfolding judged
  by_number k e = rw e refl

  row_frame_lem : is_row (kind_of bytes) ≡ true → frame_of bytes ≡ Frame.Row (row_of bytes).head
  unfolding frame_of
  row_frame_lem r = rw r refl

  end_frame : is_row (kind_of bytes) ≡ false → frame_of bytes ≡ Frame.End (count_of bytes)
  unfolding frame_of
  end_frame r = rw r refl

  pub row_judged_lem : first_holds (line_checks h p l) ≡ 0 → is_row (kind_of bytes) ≡ true → judged h p l ≡ Frame.Row (row_of bytes).head
  row_judged_lem e k = by_number 0 e ∙ row_frame_lem k

  pub end_judged_lem : first_holds (line_checks h p l) ≡ 0 → is_row (kind_of bytes) ≡ false → judged h p l ≡ Frame.End (count_of bytes)
  end_judged_lem e k = by_number 0 e ∙ end_frame k

-- ---- what the answer says

number_case : (k : ℕ) (f : Frame) (t : Bool) → eqb k 0 ≡ t → number_of f ≡ 0 → number_of (cond t f (Frame.Wrong k)) ≡ k
number_case k f true e z = z ∙ sym (eqb-true k 0 e)
number_case k f false e z = refl

frame_number : (bs : List ℕ) → number_of (frame_of bs) ≡ 0
unfolding frame_of
frame_number bs = picked (λ f. number_of f ≡ 0) (is_row (kind_of bs)) (Frame.Row (row_of bs).head) (Frame.End (count_of bs)) (λ e. refl) (λ e. refl)

-- a frame that passes and is no row is an end
end_kind : (h : Hull) (p : Progress) (l : Line) → first_holds (line_checks h p l) ≡ 0 → is_row (kind_of (pairs l.text)) ≡ false → 15 ≡ kind_of (pairs l.text)
end_kind h p l e k =
    let q : LinePasses h p l = (passes_first h p l e).0 in
    sym (eqb-true (kind_of (pairs l.text)) 15 (then_end l q.written h.kind q.frame k))

pub says_the_line : SaysTheLine
unfolding head_of
says_the_line = record {
  first_number = first_says_number;
  cargo = cargo_values;
  passenger = passenger_values;
  number = λ h p l. let k : ℕ = first_holds (line_checks h p l) in ap number_of (by_number h p l k refl) ∙ number_case k (frame_of (pairs l.text)) (eqb k 0) refl (frame_number (pairs l.text));
  row = λ h p l e k.
      let kind : ℕ = kind_of (pairs l.text) in
      let f : List ℕ = fields_of (pairs l.text) in
      ap (values_of h (results_of kind f)) (row_judged_lem h p l e k) ∙ ap (λ ns. kind ∷ byte_at f 0 ∷ byte_at f 1 ∷ word_at f 2 ∷ word_at f 4 ∷ ns) (results_read f (octets_drop 1 (pairs l.text) (pairs_octets l.text)) (of_row_kind kind k));
  end = λ h p l e k. ap (values_of h none) (end_judged_lem h p l e k) ∙ ap (◌∷ word_at (fields_of (pairs l.text)) 0 ∷ []) (end_kind h p l e k);
}

-- ---- the lines in turn

pub stage_number : (s : Stage) (l : Line) → number_of (frame_at s l) ≡ first_holds (checks s l)
stage_number begin l = says_the_line.first_number l
stage_number (inside h p) l = says_the_line.number h p l
