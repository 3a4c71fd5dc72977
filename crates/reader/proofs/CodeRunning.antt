-- What the loop over the lines keeps: the reading of the whole is that of the rest in the present state, after the rows that are kept. Assumes nothing.
use Prim.Native.Nat.{ℕ, ◌+◌, ◌-◌, ◌*◌, ◌^◌, ◌≤◌, ◌<◌}
use mathlib.Core.Path.{◌≡◌, refl, sym, ◌∙◌, ap}
use mathlib.Core.Bool.{true, false}
use mathlib.Core.List.{List, [], ◌∷◌, ◌++◌}
use mathlib.Core.Logic.{inl, inr}
use native.Mathlib.Nat.{zero-add, sub-zero}
use native.Mathlib.Numerals.{add-one}
use native.Mathlib.Omega.{arith}
use lib.Dec.{ltb}
use lib.ListN.{length, take, drop}
use lib.Seq.{sets}
use borrow.Rule.Slice.PartMut.{mid_of, put_mid}
use Rattle.std.specs.Prelude.{Result, Ok, Err}
use Rattle.records.specs.declared.Hull.{Hull}
use Rattle.lines.specs.Lines.{Line, lines, line_length}
use Rattle.lines.proofs.Lines.{lines_end, lines_next}
use Rattle.hexadecimal.specs.Hex.{pairs, bytes_of}
use Rattle.casefile.specs.Judged.{Frame, FirstLine, Step, Judgement}
use Rattle.casefile.specs.declared.Fault.{Fault}
use Rattle.casefile.specs.declared.Progress.{Progress}
use Rattle.casefile.specs.Record.{Row}
use Rattle.casefile.specs.Layout.{row_of}
use Rattle.casefile.specs.Kept.{place_width, kept_row, kept_rows, Keeps}
use Rattle.casefile.specs.Limits.{longest_input, most_rows}
use Rattle.casefile.specs.Table.{first_holds, hull_checks}
use Rattle.casefile.specs.Reading.{Reading, refused, begin, inside, start, with_end, read_from, reading}
use Rattle.casefile.specs.Answer.{number_of, given_first, refused_first, first_judged, judged, judgement_of}
use Rattle.casefile.specs.Judging.{stepped, judgement_at}
use Rattle.casefile.proofs.Steps.{not_too_long, no_line_lem, line_passes, line_refused, row_goes_on, end_goes_on, judged_no_hull, wrong_stops, row_counts, row_passes_as, after, after_none, after_row, after_end, no_end}
use Rattle.casefile.proofs.LineJudging.{first_passes, first_says_number}
use Rattle.casefile.specs.Told.{number_of_fault, first_told}
use Rattle.casefile.proofs.Told.{some_number}
use Rattle.casefile.proofs.Kept.{Placed, length_kept, same_rows, kept_next, row_placed}
use Rattle.reader.proofs.Places.{placed}

-- what the last step and the buffer say of a reading
abbrev pub Said : Reading → Hull → Step → List ℕ → Type 0
Said r h s kept = (judgement_at h s ≡ judgement_of r) × Keeps r kept

-- ---- one line

module _ (h : Hull) (p : Progress) (l : Line) (n : ℕ) (ls : List Line) (few : p.rows ≤ most_rows) (kept was : List ℕ) (room : place_width * most_rows + place_width ≤ length was)
    (w : Placed kept was p.rows l.text) where
  -- what is said of the line and those after it is the refusal, or what is said of those after it in the next state
  abbrev Taken : Step → Type 0
  Taken (Step.Next q) =
      (q.rows ≤ most_rows) × (after (kept_rows p.rows was 0) (read_from (inside h p) n (l ∷ ls)) ≡ after (kept_rows q.rows kept 0) (read_from (inside h q) (n + 1) ls))
  Taken (Step.Refused k m) = read_from (inside h p) n (l ∷ ls) ≡ refused k m

  -- the rows before are kept as they were
  stay : kept_rows p.rows was 0 ≡ kept_rows p.rows kept 0
  stay = sym (same_rows kept was (place_width * p.rows) w.before p.rows 0 (omega arith))

  by_frame : (f : Frame) → judged h p l ≡ f → Taken (stepped f p n)
  by_frame Frame.Hull e = absurd (judged_no_hull h p l e)
  by_frame (Frame.Row r) e =
      let fewer : p.rows < most_rows = row_counts h p l r e in
      let row : Row = row_of (pairs l.text) in
      let (passes, is) = row_passes_as h p l r e in
      let here : kept_row kept (0 + p.rows) ≡ row = ap (kept_row kept) (zero-add p.rows) ∙ row_placed kept was p.rows h p l w (omega arith) passes is in
      let more : kept_rows (p.rows + 1) kept 0 ≡ kept_rows p.rows was 0 ++ (row ∷ []) = rw (add-one, kept_next p.rows kept 0, here, stay) refl in
      let rest : Reading = read_from (inside h (record { rows = p.rows + 1; last = r; ended = false })) (n + 1) ls in
      (omega (arith, fewer), ap (after (kept_rows p.rows was 0)) (row_goes_on h p l n r ls e) ∙ after_row (kept_rows p.rows was 0) row rest ∙ ap (λ rs. after rs rest) (sym more))
  by_frame (Frame.End count) e = (few, ap (after (kept_rows p.rows was 0)) (end_goes_on h p l n count ls e) ∙ ap (λ rs. after rs (read_from (inside h (with_end p)) (n + 1) ls)) stay)
  by_frame (Frame.Wrong k) e = wrong_stops h p l n k ls e

  taken : (f : Frame) (s : Step) → f ≡ judged h p l → stepped f p n ≡ s → Taken s
  taken f s e g = rw (← g) (by_frame f (sym e))

-- ---- the lines in turn

-- some lines have passed and left p, and their rows are kept; of all of them those are left whose first is line n, and the first of all was line m
pub record Running (h : Hull) (all : List Line) (m size : ℕ) (kept : List ℕ) (p : Progress) (left : List Line) (n : ℕ) : Type 0 where
  pub few : p.rows ≤ most_rows
  pub long : length kept ≡ size
  pub room : place_width * most_rows + place_width ≤ size
  pub lines_passed : n + length left ≤ m + length all
  pub same : read_from (inside h start) m all ≡ after (kept_rows p.rows kept 0) (read_from (inside h p) n left)

pub none_run : (h : Hull) (all left : List Line) (m : ℕ) (kept : List ℕ) (p : Progress) → place_width * most_rows + place_width ≤ length kept → p ≡ start → left ≡ all →
    Running h all m (length kept) kept p left m
unfolding kept_rows
none_run h all left m kept p r e i = rw (e, i) (record { few = omega arith; long = refl; room = r; lines_passed = omega arith; same = after_none (read_from (inside h start) m all) })

module _ (h : Hull) (all : List Line) (m size : ℕ) (was : List ℕ) (p : Progress) (left : List Line) (n : ℕ) (i : Running h all m size was p left n) where
  wide : place_width * most_rows + place_width ≤ length was
  wide = omega (arith, i.long, i.room)

  -- a line's bytes written to the place after the rows that are kept
  pub place_written : (text part : List ℕ) → part ≡ sets (mid_of (p.rows * place_width) (p.rows * place_width + place_width - p.rows * place_width) was) 0 (bytes_of text) →
      Placed (put_mid (p.rows * place_width) (p.rows * place_width + place_width - p.rows * place_width) was part) was p.rows text
  place_written text part w = placed was p.rows text part (p.rows * place_width) (p.rows * place_width + place_width - p.rows * place_width) (omega arith) (omega arith) (omega (arith, i.few, wide)) w

  -- a line, and those after it
  module _ (line : Line) (others : List Line) (e : left ≡ line ∷ others) where
    pub line_fits : length all < 2 ^ 63 → m ≤ 4294967296 → n + 1 < 2 ^ 64
    line_fits few low = omega (arith, i.lines_passed, ap length e, few, low)

    cut : read_from (inside h start) m all ≡ after (kept_rows p.rows was 0) (read_from (inside h p) n (line ∷ others))
    cut = i.same ∙ ap (λ ls. after (kept_rows p.rows was 0) (read_from (inside h p) n ls)) e

    -- the line's frame, what it steps to, and the buffer after it
    module _ (f : Frame) (s : Step) (g : f ≡ judged h p line) (k : s ≡ stepped f p n) (kept : List ℕ) (w : Placed kept was p.rows line.text) where
      pub one_run : (q : Progress) → s ≡ Step.Next q → Running h all m size kept q others (n + 1)
      one_run q d =
          let (few, same) = taken h p line n others i.few kept was wide w f (Step.Next q) g (sym k ∙ d) in
          record { few = few; long = w.long ∙ i.long; room = i.room; lines_passed = omega (arith, i.lines_passed, ap length e); same = cut ∙ same }

      stops : (x y : ℕ) → s ≡ Step.Refused x y → read_from (inside h start) m all ≡ refused x y
      stops x y d = cut ∙ rw (taken h p line n others i.few kept was wide w f (Step.Refused x y) g (sym k ∙ d)) refl

      pub run_stops : (x y : ℕ) → s ≡ Step.Refused x y → Said (read_from (inside h start) m all) h s kept
      run_stops x y d = rw (d, stops x y d) (refl, tt)

  -- no line is left
  module _ (b : left ≡ []) where
    last : read_from (inside h start) m all ≡ after (kept_rows p.rows was 0) (read_from (inside h p) n [])
    last = i.same ∙ ap (λ ls. after (kept_rows p.rows was 0) (read_from (inside h p) n ls)) b

    pub run_ends : p.ended ≡ true → Said (read_from (inside h start) m all) h (Step.Next p) was
    run_ends e =
        let long : length (kept_rows p.rows was 0) ≡ p.rows = length_kept p.rows was 0 in
        rw (last ∙ after_end (kept_rows p.rows was 0) h p n e, long) (refl, refl)

    pub run_has_no_end : p.ended ≡ false → Said (read_from (inside h start) m all) h (Step.Refused 10 n) was
    run_has_no_end e = rw (last ∙ ap (after (kept_rows p.rows was 0)) (no_end h p n e)) (refl, tt)

-- ---- the whole input

-- what a judgement and the buffer say of a reading
abbrev pub Told : Reading → Judgement → List ℕ → Type 0
Told r j kept = (j ≡ judgement_of r) × Keeps r kept

pub told_refused : {r : Reading} {k l : ℕ} {j : Judgement} (kept : List ℕ) → r ≡ refused k l → j ≡ judgement_of (refused k l) → Told r j kept
told_refused kept e g = rw e (g, tt)

pub no_line_at_all : (f : List ℕ) → length f ≡ 0 → reading f ≡ refused 10 1
no_line_at_all f e = not_too_long f (omega arith) ∙ ap (read_from begin 1) (lines_end f 0 (omega arith)) ∙ no_line_lem begin 1

-- line 1: a refusal stops the reading, a hull goes on
module _ (l : Line) (ls : List Line) where
  number_is : {o : FirstLine} → o ≡ first_judged l → number_of o.frame ≡ first_holds (hull_checks l)
  number_is g = ap (λ (a : FirstLine). number_of a.frame) g ∙ first_says_number l

  first_stops : (k : ℕ) → (k ≡ 0 → ⊥) → refused_first k ≡ first_judged l → read_from begin 1 (l ∷ ls) ≡ refused k 1
  first_stops k some g = line_refused begin 1 l ls k (sym (number_is g)) some

  first_goes_on : (h : Hull) → given_first h ≡ first_judged l → read_from (inside h start) 2 ls ≡ read_from begin 1 (l ∷ ls)
  first_goes_on h g =
      let p : first_holds (hull_checks l) ≡ 0 = sym (number_is g) in
      rw (ap (λ (a : FirstLine). a.hull) (g ∙ first_passes l p)) (sym (line_passes begin 1 l ls p))

module _ (f : List ℕ) (few : length f ≤ longest_input) (some : 0 < length f) (end : ℕ) (e : end ≡ 0 + line_length (drop 0 f)) where
  abbrev opening : Line
  opening = record { text = take end f; closed = ltb end (length f) }

  opens : reading f ≡ read_from begin 1 (opening ∷ lines (drop (end + 1) f))
  opens = not_too_long f few ∙ ap (read_from begin 1) (lines_next f 0 end e some ∙ rw (sub-zero end) refl)

  module _ (r : Result Hull Fault) (g : first_told r ≡ first_judged opening) (kept : List ℕ) where
    pub input_stops : (k : Fault) → r ≡ Err k → Told (reading f) (judgement_of (refused (number_of_fault k) 1)) kept
    input_stops k e = told_refused kept (opens ∙ first_stops opening (lines (drop (end + 1) f)) (number_of_fault k) (some_number k) (rw e at g)) refl

    pub input_goes_on : (h : Hull) → r ≡ Ok h → (j : Judgement) → Told (read_from (inside h start) 2 (lines (drop (end + 1) f))) j kept → Told (reading f) j kept
    input_goes_on h e j d =
        let same : read_from (inside h start) 2 (lines (drop (end + 1) f)) ≡ reading f = first_goes_on opening (lines (drop (end + 1) f)) h (rw e at g) ∙ sym opens in
        rw same at d
