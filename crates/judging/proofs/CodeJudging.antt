-- A line's judging, step by step as the code goes: a row, the end, a frame, a line. Assumes nothing.
use Prim.Native.Nat.{ℕ, ◌+◌, ◌-◌, ◌*◌, ◌≤◌, ◌<◌}
use mathlib.Core.Path.{◌≡◌, refl, sym, ◌∙◌}
use mathlib.Core.Bool.{Bool, true, false, cond, not, ◌&&◌, or-true, and-true, and_assoc}
use mathlib.Core.Logic.{◌⊎◌, inl, inr, ⊎_elim}
use mathlib.Core.List.{List, [], ◌∷◌, ◌++◌, append-nil}
use native.Mathlib.Omega.{arith}
use lib.Dec.{eqb}
use lib.ListN.{length, take, drop}
use borrow.Author.Tests.{le-leb, lt-leb, eq-eqb, ne_eqb}
use Rattle.laws.proofs.Lists.{rest_of}
use Rattle.records.specs.declared.Finding.{Finding}
use Rattle.records.specs.declared.Flooding.{Flooding}
use Rattle.records.specs.declared.Hull.{Hull}
use Rattle.records.specs.declared.RowHead.{RowHead}
use Rattle.records.specs.Results.{Results}
use Rattle.lines.specs.Lines.{Line}
use Rattle.hexadecimal.specs.Hex.{pairs, proper, badly_written}
use Rattle.std.specs.Prelude.{Some}
use Rattle.frames.specs.Decoding.{written_of}
use Rattle.frames.proofs.CodeDecoding.{well_written}
use Rattle.fields.specs.Fields.{word_at}
use Rattle.casefile.specs.Judged.{Frame}
use Rattle.casefile.specs.declared.Progress.{Progress}
use Rattle.casefile.specs.Record.{Row}
use Rattle.casefile.specs.Layout.{kind_of, is_row, takes, frame_length, result_length, result_count, flooding_length, flooding_count, head_of, set_of, floodings_of, results_of, row_of, count_of}
use Rattle.casefile.specs.Limits.{head_fits, finding_fits, findings_fit, floodings_fit, results_fit, row_fits}
use Rattle.casefile.specs.Order.{out_of_order, leaves_open, ends_open}
use Rattle.casefile.specs.Kept.{place_width}
use Rattle.casefile.specs.Table.{◌when◌, first_holds, wrong_frame, row_checks, end_checks, line_checks}
use Rattle.casefile.specs.Answer.{unless_wrong, frame_of, judged}
use Rattle.casefile.specs.Judging.{row_number, row_judged, end_judged, frame_judged}
use Rattle.casefile.proofs.Checks.{first_passed}
use Rattle.casefile.proofs.RowKinds.{is_row_lem, of_taken, not_taken}
use Rattle.rowlines.proofs.CodeFrames.{wrong_kind, right_row, right_end, part, frame_too_long}

-- ---- the number of a row

pub both_fit : (h : Hull) (head : RowHead) (t fit u : Bool) → t ≡ head_fits h head → (t && fit) ≡ u → (head_fits h head && fit) ≡ u
both_fit h head t fit u e f = rw (← e) f

module _ (h : Hull) (p : Progress) (head : RowHead) (fit : Bool) where
  pub row_too_many : 500 ≤ p.rows → 6 ≡ row_number h p head fit
  unfolding first_holds row_number
  row_too_many k = rw (le-leb 500 p.rows k) refl

  module _ (few : p.rows < 500) where
    pub row_outside : (head_fits h head && fit) ≡ false → 7 ≡ row_number h p head fit
    unfolding first_holds row_number
    row_outside e = rw (lt-leb 500 p.rows few, e) refl

    module _ (fits : (head_fits h head && fit) ≡ true) where
      pub row_disordered : out_of_order h p.last head ≡ true → 8 ≡ row_number h p head fit
      unfolding first_holds row_number
      row_disordered e = rw (lt-leb 500 p.rows few, fits, e) refl

      module _ (order : out_of_order h p.last head ≡ false) where
        pub row_by_closure : (t : Bool) → leaves_open h p.last head ≡ t → cond t 9 0 ≡ row_number h p head fit
        unfolding first_holds row_number
        row_by_closure t e = rw (lt-leb 500 p.rows few, fits, order, e) refl

-- results fit by their sets
sets_fit : (rs ss : List Finding) → findings_fit (rs ++ ss) ≡ (findings_fit rs && findings_fit ss)
unfolding findings_fit
sets_fit [] ss = refl
sets_fit (r ∷ rs) ss = rw (sets_fit rs ss) (sym (and_assoc (finding_fits r) (findings_fit rs) (findings_fit ss)))

-- and they go in: of every kind a first set, of kind 05 a second, of kind 07 what a passenger ship's row tells besides
abbrev Long : ℕ → ℕ → Type 0
Long kind n = 6 + result_count kind * result_length kind + flooding_count kind * flooding_length ≤ n

pub first_goes_in : (kind n : ℕ) → Long kind n → 6 + 3 * result_length kind ≤ n
first_goes_in kind n = by (eqb kind 5)
  where
    by : (t : Bool) → 6 + cond t 6 3 * result_length kind + flooding_count kind * flooding_length ≤ n → 6 + 3 * result_length kind ≤ n
    by true l = omega arith
    by false l = omega arith

pub second_goes_in : (kind n : ℕ) → kind ≡ 5 → Long kind n → 30 + 3 * result_length kind ≤ n
second_goes_in kind n k l = rw k (rw k at l)

pub floodings_go_in : (kind n : ℕ) → kind ≡ 7 → Long kind n → 30 + 3 * flooding_length ≤ n
floodings_go_in kind n k l = rw k at l

module _ (kind : ℕ) (f : List ℕ) (x : List Finding) (a : Bool) (e : x ≡ set_of kind (take (length f - 6) (drop 6 f))) (p : a ≡ findings_fit x) where
  -- the first set, as it stands in the row
  first : a ≡ findings_fit (set_of kind (drop 6 f))
  first = p ∙ rw (e, rest_of f 6) refl

  pub one_set_fits : (kind ≡ 5 → ⊥) → (kind ≡ 7 → ⊥) → a ≡ results_fit (results_of kind f)
  unfolding results_of results_fit floodings_fit
  one_set_fits k l = rw (ne_eqb kind 5 k, ne_eqb kind 7 l, append-nil (set_of kind (drop 6 f)), and-true (findings_fit (set_of kind (drop 6 f)))) first

  pub two_sets_fit : kind ≡ 5 → (y : List Finding) (b : Bool) → y ≡ set_of kind (take (length f - 30) (drop 30 f)) → b ≡ findings_fit y
      → (a && b) ≡ results_fit (results_of kind f)
  unfolding results_of results_fit floodings_fit
  two_sets_fit k y b g q =
      let one : List Finding = set_of kind (drop 6 f) in
      let two : List Finding = set_of kind (drop 30 f) in
      rw (eq-eqb kind 5 k, ne_eqb kind 7 (λ l. omega arith), and-true (findings_fit (one ++ two)), sets_fit one two, first, q, g, rest_of f 30) refl

  pub set_and_floodings_fit : (kind ≡ 5 → ⊥) → kind ≡ 7 → (ws : List Flooding) (b : Bool) → ws ≡ floodings_of (take (length f - 30) (drop 30 f)) → b ≡ floodings_fit ws
      → (a && b) ≡ results_fit (results_of kind f)
  unfolding results_of results_fit
  set_and_floodings_fit k l ws b g q = rw (ne_eqb kind 5 k, eq-eqb kind 7 l, append-nil (set_of kind (drop 6 f)), first, q, g, rest_of f 30) refl

-- ---- the number of the end

module _ (h : Hull) (p : Progress) (count : ℕ) where
  pub end_miscounts : (count ≡ p.rows → ⊥) → 6 ≡ first_holds (end_checks h p count)
  unfolding first_holds end_checks
  end_miscounts f = rw (ne_eqb count p.rows f) refl

  pub end_by_closure : count ≡ p.rows → (t : Bool) → ends_open h p.last ≡ t → cond t 9 0 ≡ first_holds (end_checks h p count)
  unfolding first_holds end_checks
  end_by_closure e t f = rw (eq-eqb count p.rows e, f) refl

-- ---- a frame by its number

module _ (h : Hull) (p : Progress) (head to : RowHead) (fit : Bool) (results : Results) (k : ℕ) (e : head ≡ to) (f : fit ≡ results_fit results)
    (g : k ≡ row_number h p head fit) where
  given : k ≡ first_holds (row_checks h p (record { head = to; results = results }))
  unfolding row_number row_checks row_fits
  given = g ∙ rw (e, f) refl

  pub row_wrong : (k ≡ 0 → ⊥) → Frame.Wrong k ≡ row_judged h p (record { head = to; results = results })
  unfolding row_judged
  row_wrong n = rw (← given, ne_eqb k 0 n) refl

  pub row_right : k ≡ 0 → Frame.Row head ≡ row_judged h p (record { head = to; results = results })
  unfolding row_judged
  row_right n = rw (← given, eq-eqb k 0 n, e) refl

module _ (h : Hull) (p : Progress) (count n : ℕ) (k : ℕ) (e : count ≡ n) (g : k ≡ first_holds (end_checks h p count)) where
  counted : k ≡ first_holds (end_checks h p n)
  counted = g ∙ rw e refl

  pub end_wrong : (k ≡ 0 → ⊥) → Frame.Wrong k ≡ end_judged h p n
  unfolding end_judged
  end_wrong f = rw (← counted, ne_eqb k 0 f) refl

  pub end_right : k ≡ 0 → Frame.End count ≡ end_judged h p n
  unfolding end_judged
  end_right f = rw (← counted, eq-eqb k 0 f, e) refl

-- ---- a frame by its bytes, of kind k and with n of them

module _ (bs : List ℕ) (k : ℕ) (e : k ≡ kind_of bs) (n : length bs ≡ frame_length k) (h : Hull) (p : Progress) (r : Frame) where
  pub frame_row : takes h.kind k ≡ true → r ≡ row_judged h p (record { head = head_of k (part bs); results = results_of k (part bs) }) → r ≡ frame_judged h p bs
  unfolding frame_judged
  frame_row t g = g ∙ rw (right_row h.kind bs k e n t, rest_of bs 1, e, rw e at (is_row_lem (of_taken h.kind k t))) refl

  pub frame_end : k ≡ 15 → r ≡ end_judged h p (word_at (part bs) 0) → r ≡ frame_judged h p bs
  unfolding frame_judged
  frame_end f g = g ∙ rw (right_end h.kind bs k e n f, rest_of bs 1, ← e, f) refl

pub frame_wrong : (h : Hull) (p : Progress) (bs : List ℕ) → wrong_frame h.kind bs ≡ true → Frame.Wrong 3 ≡ frame_judged h p bs
unfolding frame_judged
frame_wrong h p bs e = rw e refl

module _ (h : Hull) (p : Progress) (bs : List ℕ) (k : ℕ) (e : k ≡ kind_of bs) where
  -- a row that the hull does not take, its kind as the code's `match` tells it: 05 or 07, or, below 4, 02 or 03
  pub frame_not_taken : takes h.kind k ≡ false → ((k ≡ 5) ⊎ (k ≡ 7)) ⊎ (k < 4) → Frame.Wrong 3 ≡ frame_judged h p bs
  frame_not_taken t m = frame_wrong h p bs (wrong_kind h.kind bs k e t (λ f. ⊎_elim (⊎_elim (λ g. omega arith) (λ g. omega arith)) (λ l. omega arith) m))

  -- neither a row nor the end
  pub frame_other : (k ≡ 2 → ⊥) → (k ≡ 3 → ⊥) → ((k ≡ 5) ⊎ (k ≡ 7) → ⊥) → (k ≡ 15 → ⊥) → Frame.Wrong 3 ≡ frame_judged h p bs
  frame_other two three others end = frame_wrong h p bs (wrong_kind h.kind bs k e (not_taken h.kind k no_row) end)
    where
      no_row : is_row k ≡ false
      no_row = rw (ne_eqb k 2 two, ne_eqb k 3 three, ne_eqb k 5 (λ f. others (inl f)), ne_eqb k 7 (λ f. others (inr f))) refl

-- ---- a line

module _ (h : Hull) (p : Progress) (l : Line) where
  pub line_after_end : p.ended ≡ true → Frame.Wrong 10 ≡ judged h p l
  unfolding judged first_holds line_checks
  line_after_end e = rw e refl

  module _ (going : p.ended ≡ false) where
    pub line_badly : badly_written l ≡ true → Frame.Wrong 2 ≡ judged h p l
    unfolding judged first_holds line_checks
    line_badly e = rw (going, e) refl

    number_of_frame : badly_written l ≡ false → first_holds (line_checks h p l)
        ≡ first_holds ((3 when wrong_frame h.kind (pairs l.text)) ∷ cond (is_row (kind_of (pairs l.text))) (row_checks h p (row_of (pairs l.text))) (end_checks h p (count_of (pairs l.text))))
    unfolding line_checks
    number_of_frame e = first_passed 10 p.ended _ going ∙ first_passed 2 (badly_written l) _ e

    pub line_by_frame : badly_written l ≡ false → frame_judged h p (pairs l.text) ≡ judged h p l
    unfolding judged first_holds frame_judged row_judged end_judged frame_of
    line_by_frame e = rw (number_of_frame e) (by (wrong_frame h.kind (pairs l.text)) (is_row (kind_of (pairs l.text))))
      where
        by : (t u : Bool) →
            cond t (Frame.Wrong 3) (cond u (row_judged h p (row_of (pairs l.text))) (end_judged h p (count_of (pairs l.text))))
            ≡ unless_wrong (cond t 3 (first_holds (cond u (row_checks h p (row_of (pairs l.text))) (end_checks h p (count_of (pairs l.text))))))
            (cond u (Frame.Row (row_of (pairs l.text)).head) (Frame.End (count_of (pairs l.text))))
        by true u = refl
        by false true = refl
        by false false = refl

-- ---- a line by its text, as the code decodes it

module _ (h : Hull) (p : Progress) (text : List ℕ) (going : p.ended ≡ false) where
  pub line_not_closed : Frame.Wrong 2 ≡ judged h p (record { text = text; closed = false })
  line_not_closed = line_badly h p _ going (unfold badly_written in or-true (not (proper text)))

  pub line_no_digits : proper text ≡ false → Frame.Wrong 2 ≡ judged h p (record { text = text; closed = true })
  line_no_digits e = line_badly h p _ going (unfold badly_written in rw e refl)

  module _ (n : ℕ) (w : written_of text ≡ Some n) where
    well : badly_written (record { text = text; closed = true }) ≡ false
    unfolding badly_written
    well = rw (well_written text n w).0 refl

    pub line_too_long : place_width < n → Frame.Wrong 3 ≡ judged h p (record { text = text; closed = true })
    line_too_long l =
        frame_wrong h p (pairs text) (frame_too_long h.kind (pairs text) (omega (arith, (well_written text n w).1)))
        ∙ line_by_frame h p (record { text = text; closed = true }) going well

    pub line_decoded : (bs : List ℕ) (r : Frame) → bs ≡ pairs text → r ≡ frame_judged h p bs → r ≡ judged h p (record { text = text; closed = true })
    line_decoded bs r e g = g ∙ rw e (line_by_frame h p (record { text = text; closed = true }) going well)
