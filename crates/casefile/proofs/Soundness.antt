-- An accepted file is that of a valid case. Assumes nothing.
use Prim.Native.Nat.{ℕ, suc, ◌+◌, ◌≤◌}
use mathlib.Core.Path.{◌≡◌, refl, sym, ◌∙◌}
use mathlib.Core.Bool.{Bool, true, false, true≢false}
use mathlib.Core.List.{List, [], ◌∷◌, ◌++◌, append_assoc, append-nil}
use mathlib.Core.Logic.{◌⊎◌, inl, inr}
use native.Mathlib.Nat.{add-zero, zero-add}
use native.Mathlib.Omega.{arith}
use lib.Dec.{ltb, eqb}
use lib.ListN.{length}
use borrow.Author.Tests.{eqb-true, eqb-false, ltb-true, ltb-false}
use Rattle.laws.specs.Lists.{Every}
use Rattle.records.specs.declared.Hull.{Hull}
use Rattle.lines.specs.Lines.{Line, lines}
use Rattle.lines.proofs.Lines.{written, together, together_lines}
use Rattle.hexadecimal.specs.Hex.{pairs, line_of}
use Rattle.casefile.specs.declared.Progress.{Progress}
use Rattle.casefile.specs.Record.{Row, Case}
use Rattle.casefile.specs.Layout.{kind_of, fields_of, is_row, hull_of, head_of, row_of, count_of, row_bytes, end_bytes}
use Rattle.casefile.specs.Limits.{longest_input, most_rows}
use Rattle.casefile.specs.Order.{out_of_order, leaves_open, ends_open}
use Rattle.casefile.specs.Table.{first_holds, line_checks}
use Rattle.casefile.specs.Reading.{Reading, refused, accepted, Stage, begin, inside, start, with_row, with_end, checks, next, before, gathered, read_from, reading}
use Rattle.casefile.specs.Encode.{row_lines, encode}
use Rattle.casefile.specs.Valid.{ClosesGroup, Follows, ValidRow, Valid}
use Rattle.casefile.proofs.Checks.{LinePasses, HullPasses, RowPasses, EndPasses, hull_passes, passes_first, line_of_row, line_of_end}
use Rattle.casefile.proofs.Steps.{not_too_long, too_long, line_passes, line_refused}
use Rattle.casefile.proofs.Order.{follows, end_closes}
use Rattle.casefile.proofs.RowKinds.{RowKind, one_set, survivals, two_sets_lem, passenger, of_row_kind}
use Rattle.casefile.proofs.Passing.{hull_valid, hull_line_lem, row_taken, row_line, end_line_lem, row_valid}
use Rattle.casefile.proofs.Chain.{OrderedFrom, Some, ordered}

-- ---- the answers apart

pub not_accepted : {A : Type 0} (k l : ℕ) (c : Case) → refused k l ≡ accepted c → A
not_accepted k l c e = let z : ◌≡◌ {A = ℕ} 0 1 = cc in absurd (omega arith)

pub same_case : (c d : Case) → accepted c ≡ accepted d → c ≡ d
same_case c d e = cc

pub with_row_lem : (r : Row) (s : Reading) (c : Case) → before r s ≡ accepted c → (d : Case) × (s ≡ accepted d) × (record { hull = d.hull; rows = r ∷ d.rows } ≡ c)
with_row_lem r (refused k l) c e = not_accepted k l c e
with_row_lem r (accepted d) c e = (d, refl, same_case _ c e)

-- ---- a line of an accepted file passes

module _ (s : Stage) (n : ℕ) (l : Line) (ls : List Line) (c : Case) (e : read_from s n (l ∷ ls) ≡ accepted c) where
  passes_by : (k : ℕ) → first_holds (checks s l) ≡ k → (t : Bool) → eqb k 0 ≡ t → first_holds (checks s l) ≡ 0
  passes_by k f true t = f ∙ eqb-true k 0 t
  passes_by k f false t = not_accepted k n c (sym (line_refused s n l ls k f (eqb-false k 0 t)) ∙ e)

  pub passes : first_holds (checks s l) ≡ 0
  passes = passes_by (first_holds (checks s l)) refl (eqb (first_holds (checks s l)) 0) refl

  pub rest_accepted : gathered s l (read_from (next s l) (n + 1) ls) ≡ accepted c
  rest_accepted = sym (line_passes s n l ls passes) ∙ e

-- ---- after the end nothing comes

pub ended : (h : Hull) (p : Progress) (n : ℕ) (ls : List Line) (c : Case) → p.ended ≡ true → read_from (inside h p) n ls ≡ accepted c → (ls ≡ []) × (c ≡ record { hull = h; rows = [] })
unfolding read_from
ended h p n [] c t e = (refl, sym (same_case (record { hull = h; rows = [] }) c (rw t at e)))
ended h p n (l ∷ ls) c t e = absurd (true≢false (sym t ∙ (passes_first h p l (passes (inside h p) n l ls c e)).0.going))

-- ---- what is left of an accepted file, from a line after the hull on

pub record Accounts (h : Hull) (p : Progress) (ls : List Line) (c : Case) : Type 0 where
  pub hull : c.hull ≡ h
  pub bytes : together ls ≡ row_lines c.rows ++ line_of (end_bytes (p.rows + length c.rows))
  pub rows : Every (ValidRow h) c.rows
  pub some : Every Some c.rows
  pub order : OrderedFrom h p.last c.rows
  pub few : p.rows + length c.rows ≤ most_rows

-- a row stands first in what is left
module _ (h : Hull) (p : Progress) (l : Line) (ls : List Line) (q : LinePasses h p l) where
  abbrev bs : List ℕ
  bs = pairs l.text

  abbrev row : Row
  row = row_of bs

  after_another : (t : Bool) → eqb p.last.kind 0 ≡ t → out_of_order h p.last row.head ≡ false → leaves_open h p.last row.head ≡ false →
      (p.last.kind ≡ 0) ⊎ Follows h p.last row.head
  after_another true e o c = inl (eqb-true p.last.kind 0 e)
  after_another false e o c = inr (follows h p.last row.head (rw e refl) o c)

  is_some : RowKind (kind_of bs) → Some row
  unfolding head_of
  is_some (one_set k) e = omega arith
  is_some (survivals k) e = omega arith
  is_some (two_sets_lem k) e = omega arith
  is_some (passenger k) e = omega arith

  row_first : is_row (kind_of bs) ≡ true → RowPasses h p row → (d : Case) → Accounts h (with_row p row) ls d → Accounts h p (l ∷ ls) (record { hull = d.hull; rows = row ∷ d.rows })
  unfolding row_lines
  row_first k r d a =
      let n : p.rows + suc (length d.rows) ≡ p.rows + 1 + length d.rows = omega arith in
      record {
        hull = a.hull;
        bytes = rw (n, row_line l q.written h.kind q.frame k, a.bytes) (sym (append_assoc (line_of (row_bytes row)) (row_lines d.rows) (line_of (end_bytes (p.rows + 1 + length d.rows)))));
        rows = (row_valid h bs (row_taken l q.written h.kind q.frame k) r.fits, a.rows);
        some = (is_some (of_row_kind (kind_of bs) k), a.some);
        order = (after_another (eqb p.last.kind 0) refl r.order r.closed, a.order);
        few = omega (arith, a.few);
      }

  -- or the end does, and it is all
  closed : (t : Bool) → eqb p.last.kind 0 ≡ t → ends_open h p.last ≡ false → (p.last.kind ≡ 0) ⊎ ClosesGroup h p.last
  closed true e o = inl (eqb-true p.last.kind 0 e)
  closed false e o = inr (end_closes h p.last (rw e refl) o)

  end_first : is_row (kind_of bs) ≡ false → EndPasses h p (count_of bs) → p.rows ≤ most_rows → ls ≡ [] → Accounts h p (l ∷ ls) (record { hull = h; rows = [] })
  unfolding row_lines
  end_first k r f none = record {
    hull = refl;
    bytes = rw (none, add-zero p.rows, ← r.counts, append-nil (written l)) (end_line_lem l q.written h.kind q.frame k);
    rows = tt;
    some = tt;
    order = closed (eqb p.last.kind 0) refl r.closed;
    few = omega arith;
  }

pub accounts : (ls : List Line) (h : Hull) (p : Progress) (n : ℕ) (c : Case) → p.ended ≡ false → p.rows ≤ most_rows → read_from (inside h p) n ls ≡ accepted c → Accounts h p ls c
unfolding read_from
accounts [] h p n c t f e = not_accepted 10 n c (rw t at e)
accounts (l ∷ ls) h p n c t f e = by (is_row (kind_of (pairs l.text))) refl (λ r d k g. accounts ls h (with_row p r) (n + 1) d refl k g)
  where
    bytes_of : List ℕ
    bytes_of = pairs l.text

    passed : first_holds (line_checks h p l) ≡ 0
    passed = passes (inside h p) n l ls c e

    by : (k : Bool) → is_row (kind_of bytes_of) ≡ k →
        ((r : Row) (d : Case) → p.rows + 1 ≤ most_rows → read_from (inside h (with_row p r)) (n + 1) ls ≡ accepted d → Accounts h (with_row p r) ls d) → Accounts h p (l ∷ ls) c
    by true k ih =
        let (q, r) = line_of_row h p l passed k in
        let (d, a, b) = with_row_lem (row_of bytes_of) (read_from (inside h (with_row p (row_of bytes_of))) (n + 1) ls) c (rw k at (rest_accepted (inside h p) n l ls c e)) in
        rw b at (row_first h p l ls q k r d (ih (row_of bytes_of) d (omega (arith, r.few)) a))
    by false k ih =
        let (q, r) = line_of_end h p l passed k in
        let (none, b) = ended h (with_end p) (n + 1) ls c refl (rw k at (rest_accepted (inside h p) n l ls c e)) in
        rw (← b) at (end_first h p l ls q k r f none)

-- ---- the whole file

whole : (ls : List Line) (n : ℕ) (c : Case) → read_from begin n ls ≡ accepted c → Valid c × (together ls ≡ encode c)
unfolding read_from encode
whole [] n c e = not_accepted 10 n c e
whole (l ∷ ls) n c e =
    let q : HullPasses l = hull_passes l (passes begin n l ls c e) in
    let h : Hull = hull_of (kind_of (pairs l.text)) (fields_of (pairs l.text)) in
    let a : Accounts h start ls c = accounts ls h start (n + 1) c refl (omega arith) (rest_accepted begin n l ls c e) in (
      record {
        hull = rw a.hull (hull_valid l q.written q);
        few = omega (arith, a.few);
        rows = rw a.hull a.rows;
        order = rw a.hull (ordered h c.rows a.some a.order);
      },
      rw (hull_line_lem l q.written q, a.bytes, a.hull, zero-add (length c.rows)) refl,
    )

pub sound : (f : List ℕ) (c : Case) → reading f ≡ accepted c → (length f ≤ longest_input) × Valid c × (f ≡ encode c)
sound f c e = by (ltb longest_input (length f)) refl
  where
    by : (t : Bool) → ltb longest_input (length f) ≡ t → (length f ≤ longest_input) × Valid c × (f ≡ encode c)
    by true t = not_accepted 1 0 c (sym (too_long f (ltb-true longest_input (length f) t)) ∙ e)
    by false t =
        let short : length f ≤ longest_input = ltb-false longest_input (length f) t in
        let (v, b) = whole (lines f) 1 c (sym (not_too_long f short) ∙ e) in
        (short, v, sym (together_lines f) ∙ b)
