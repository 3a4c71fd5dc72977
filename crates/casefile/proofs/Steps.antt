-- The reading line by line: what each line's judging makes of the rest, in a form that a loop over the bytes can keep. Assumes nothing.
use Prim.Native.Nat.{ℕ, ◌+◌, ◌≤◌, ◌<◌}
use mathlib.Core.Path.{◌≡◌, refl, sym, ◌∙◌}
use mathlib.Core.Bool.{Bool, true, false, cond}
use mathlib.Core.List.{List, [], ◌∷◌, ◌++◌, append-nil, append_assoc}
use native.Mathlib.Omega.{arith}
use lib.Dec.{eqb}
use lib.ListN.{length}
use borrow.Author.Tests.{eq-eqb, ne_eqb, eqb-true, eqb-false, lt-ltb, le-ltb}
use Rattle.records.specs.declared.Hull.{Hull}
use Rattle.records.specs.declared.RowHead.{RowHead}
use Rattle.lines.specs.Lines.{Line, lines}
use Rattle.hexadecimal.specs.Hex.{pairs}
use Rattle.casefile.specs.Judged.{Frame}
use Rattle.casefile.specs.declared.Progress.{Progress}
use Rattle.casefile.specs.Record.{Row}
use Rattle.casefile.specs.Layout.{kind_of, is_row, row_of, count_of}
use Rattle.casefile.specs.Limits.{longest_input, most_rows}
use Rattle.casefile.specs.Table.{first_holds, line_checks}
use Rattle.casefile.specs.Reading.{Reading, refused, accepted, Stage, begin, inside, with_row, with_end, checks, next, before, gathered, finished, read_from, reading}
use Rattle.casefile.specs.Answer.{frame_of, judged}
use Rattle.casefile.proofs.Checks.{LinePasses, line_of_row}

-- ---- the input as a whole

pub too_long : (f : List ℕ) → longest_input < length f → reading f ≡ refused 1 0
unfolding reading
too_long f h = rw (lt-ltb longest_input (length f) h) refl

pub not_too_long : (f : List ℕ) → length f ≤ longest_input → reading f ≡ read_from begin 1 (lines f)
unfolding reading
not_too_long f h = rw (le-ltb longest_input (length f) h) refl

-- ---- a line that passes, a line that is refused, and no line

module _ (s : Stage) (n : ℕ) where
  pub no_line_lem : read_from s n [] ≡ finished s n
  unfolding read_from
  no_line_lem = refl

  pub line_passes : (l : Line) (ls : List Line) → first_holds (checks s l) ≡ 0 → read_from s n (l ∷ ls) ≡ gathered s l (read_from (next s l) (n + 1) ls)
  unfolding read_from
  line_passes l ls e = rw (eq-eqb (first_holds (checks s l)) 0 e) refl

  pub line_refused : (l : Line) (ls : List Line) (k : ℕ) → first_holds (checks s l) ≡ k → (k ≡ 0 → ⊥) → read_from s n (l ∷ ls) ≡ refused k n
  unfolding read_from
  line_refused l ls k e h = rw (e, ne_eqb k 0 h) refl

-- ---- a line after the hull, by its frame

module _ (h : Hull) (p : Progress) (l : Line) where
  abbrev bytes : List ℕ
  bytes = pairs l.text

  abbrev number : ℕ
  number = first_holds (line_checks h p l)

  wrong_case : (k : ℕ) (t u : Bool) → eqb number 0 ≡ t → cond t (cond u (Frame.Row (row_of bytes).head) (Frame.End (count_of bytes))) (Frame.Wrong number) ≡ Frame.Wrong k → (number ≡ k) × (k ≡ 0 → ⊥)
  wrong_case k true true e g = let z : ◌≡◌ {A = ℕ} 0 1 = cc in absurd (omega arith)
  wrong_case k true false e g = let z : ◌≡◌ {A = ℕ} 0 1 = cc in absurd (omega arith)
  wrong_case k false u e g = let z : number ≡ k = cc in (z, λ w. eqb-false number 0 e (z ∙ w))

  row_case : (r : RowHead) (t u : Bool) → eqb number 0 ≡ t → cond t (cond u (Frame.Row (row_of bytes).head) (Frame.End (count_of bytes))) (Frame.Wrong number) ≡ Frame.Row r → (number ≡ 0) × (u ≡ true) × (r ≡ (row_of bytes).head)
  row_case r true true e g = let z : (row_of bytes).head ≡ r = cc in (eqb-true number 0 e, refl, sym z)
  row_case r true false e g = let z : ◌≡◌ {A = ℕ} 0 1 = cc in absurd (omega arith)
  row_case r false u e g = let z : ◌≡◌ {A = ℕ} 0 1 = cc in absurd (omega arith)

  end_case : (c : ℕ) (t u : Bool) → eqb number 0 ≡ t → cond t (cond u (Frame.Row (row_of bytes).head) (Frame.End (count_of bytes))) (Frame.Wrong number) ≡ Frame.End c → (number ≡ 0) × (u ≡ false) × (c ≡ count_of bytes)
  end_case c true true e g = let z : ◌≡◌ {A = ℕ} 0 1 = cc in absurd (omega arith)
  end_case c true false e g = let z : count_of bytes ≡ c = cc in (eqb-true number 0 e, refl, sym z)
  end_case c false u e g = let z : ◌≡◌ {A = ℕ} 0 1 = cc in absurd (omega arith)

  hull_case : (t u : Bool) → cond t (cond u (Frame.Row (row_of bytes).head) (Frame.End (count_of bytes))) (Frame.Wrong number) ≡ Frame.Hull → ⊥
  hull_case true true g = let z : ◌≡◌ {A = ℕ} 0 1 = cc in omega arith
  hull_case true false g = let z : ◌≡◌ {A = ℕ} 0 1 = cc in omega arith
  hull_case false u g = let z : ◌≡◌ {A = ℕ} 0 1 = cc in omega arith

  -- no later line is judged to be a hull
  pub judged_no_hull : judged h p l ≡ Frame.Hull → ⊥
  unfolding judged frame_of
  judged_no_hull e = hull_case (eqb number 0) (is_row (kind_of bytes)) e

  pub judged_wrong : (k : ℕ) → judged h p l ≡ Frame.Wrong k → (number ≡ k) × (k ≡ 0 → ⊥)
  unfolding judged frame_of
  judged_wrong k e = wrong_case k (eqb number 0) (is_row (kind_of bytes)) refl e

  pub judged_row : (r : RowHead) → judged h p l ≡ Frame.Row r → (number ≡ 0) × (is_row (kind_of bytes) ≡ true) × (r ≡ (row_of bytes).head)
  unfolding judged frame_of
  judged_row r e = row_case r (eqb number 0) (is_row (kind_of bytes)) refl e

  pub judged_end : (c : ℕ) → judged h p l ≡ Frame.End c → (number ≡ 0) × (is_row (kind_of bytes) ≡ false) × (c ≡ count_of bytes)
  unfolding judged frame_of
  judged_end c e = end_case c (eqb number 0) (is_row (kind_of bytes)) refl e

  pub row_passes_on : (n : ℕ) (ls : List Line) → number ≡ 0 → is_row (kind_of bytes) ≡ true →
      read_from (inside h p) n (l ∷ ls) ≡ before (row_of bytes) (read_from (inside h (with_row p (row_of bytes))) (n + 1) ls)
  row_passes_on n ls e k = line_passes (inside h p) n l ls e ∙ rw k refl

  pub end_passes_on : (n : ℕ) (ls : List Line) → number ≡ 0 → is_row (kind_of bytes) ≡ false → read_from (inside h p) n (l ∷ ls) ≡ read_from (inside h (with_end p)) (n + 1) ls
  end_passes_on n ls e k = line_passes (inside h p) n l ls e ∙ rw k refl

  pub wrong_stops : (n k : ℕ) (ls : List Line) → judged h p l ≡ Frame.Wrong k → read_from (inside h p) n (l ∷ ls) ≡ refused k n
  wrong_stops n k ls e = let (a, b) = judged_wrong k e in line_refused (inside h p) n l ls k a b

  pub row_goes_on : (n : ℕ) (r : RowHead) (ls : List Line) → judged h p l ≡ Frame.Row r →
      read_from (inside h p) n (l ∷ ls) ≡ before (row_of bytes) (read_from (inside h (record { rows = p.rows + 1; last = r; ended = false })) (n + 1) ls)
  row_goes_on n r ls e = let (a, b, c) = judged_row r e in rw c (row_passes_on n ls a b)

  pub end_goes_on : (n c : ℕ) (ls : List Line) → judged h p l ≡ Frame.End c → read_from (inside h p) n (l ∷ ls) ≡ read_from (inside h (with_end p)) (n + 1) ls
  end_goes_on n c ls e = let (a, b, d) = judged_end c e in end_passes_on n ls a b

  pub row_counts : (r : RowHead) → judged h p l ≡ Frame.Row r → p.rows < most_rows
  row_counts r e =
      let (a, b, c) = judged_row r e in
      (line_of_row h p l a b).1.few

  pub row_passes_as : (r : RowHead) → judged h p l ≡ Frame.Row r → LinePasses h p l × (is_row (kind_of bytes) ≡ true)
  row_passes_as r e =
      let (a, b, c) = judged_row r e in
      ((line_of_row h p l a b).0, b)

-- ---- what is said of the whole by what is said of the rest, after some rows

abbrev pub after : List Row → Reading → Reading
after rs (refused n l) = refused n l
after rs (accepted c) = accepted (record { hull = c.hull; rows = rs ++ c.rows })

pub after_none : (s : Reading) → s ≡ after [] s
after_none (refused n l) = refl
after_none (accepted c) = refl

pub after_row : (rs : List Row) (r : Row) (s : Reading) → after rs (before r s) ≡ after (rs ++ (r ∷ [])) s
after_row rs r (refused n l) = refl
after_row rs r (accepted c) = rw (append_assoc rs (r ∷ []) c.rows) refl

-- every line is judged
pub after_end : (rs : List Row) (h : Hull) (p : Progress) (n : ℕ) → p.ended ≡ true → after rs (read_from (inside h p) n []) ≡ accepted (record { hull = h; rows = rs })
unfolding read_from
after_end rs h p n e = rw (e, append-nil rs) refl

pub no_end : (h : Hull) (p : Progress) (n : ℕ) → p.ended ≡ false → read_from (inside h p) n [] ≡ refused 10 n
unfolding read_from
no_end h p n e = rw e refl
