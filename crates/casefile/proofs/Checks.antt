-- A line passes where no check of its list holds: what that tells of each line. Assumes nothing.
use Prim.Native.Nat.{ℕ, ◌<◌}
use mathlib.Core.Path.{◌≡◌, refl, ◌∙◌}
use mathlib.Core.Bool.{Bool, true, false, cond}
use mathlib.Core.List.{List, ◌∷◌}
use native.Mathlib.Omega.{arith}
use borrow.Author.Tests.{eqb-true, eq-eqb, leb-false, lt-leb, not-false}
use Rattle.records.specs.declared.Hull.{Hull}
use Rattle.lines.specs.Lines.{Line}
use Rattle.hexadecimal.specs.Hex.{pairs, badly_written}
use Rattle.casefile.specs.declared.Progress.{Progress}
use Rattle.casefile.specs.Record.{Row}
use Rattle.casefile.specs.Layout.{kind_of, fields_of, is_row, hull_of, row_of, count_of}
use Rattle.casefile.specs.Limits.{most_rows, sizes_fit, persons_fit, row_fits}
use Rattle.casefile.specs.Order.{out_of_order, leaves_open, ends_open}
use Rattle.casefile.specs.Table.{Check, ◌when◌, first_holds, wrong_hull_frame, wrong_frame, wrong_zones, hull_checks, row_checks, end_checks, line_checks}
-- checked first, so that a definition that reads a worked file otherwise is refused there
use Rattle.casefile.proofs.PassengerExamples.{ferry_accepted}

-- ---- a list of checks

by_first : (k n : ℕ) (t : Bool) (rest : ℕ) → (k ≡ n → ⊥) → cond t k rest ≡ n → (t ≡ false) × (rest ≡ n)
by_first k n true rest h e = absurd (h e)
by_first k n false rest h e = (refl, e)

-- where another number is given than the first check's, that check does not hold
pub first_other : (k n : ℕ) (t : Bool) (cs : List Check) → (k ≡ n → ⊥) → first_holds ((k when t) ∷ cs) ≡ n → (t ≡ false) × (first_holds cs ≡ n)
unfolding first_holds
first_other k n t cs h e = by_first k n t (first_holds cs) h e

pub first_fails : (k : ℕ) (t : Bool) (cs : List Check) → (k ≡ 0 → ⊥) → first_holds ((k when t) ∷ cs) ≡ 0 → (t ≡ false) × (first_holds cs ≡ 0)
first_fails k t cs h e = first_other k 0 t cs h e

pub first_passed : (k : ℕ) (t : Bool) (cs : List Check) → t ≡ false → first_holds ((k when t) ∷ cs) ≡ first_holds cs
unfolding first_holds
first_passed k t cs e = rw e refl

-- ---- what each line's passing says

pub record HullPasses (l : Line) : Type 0 where
  pub written : badly_written l ≡ false
  pub frame : wrong_hull_frame (pairs l.text) ≡ false
  pub sizes : sizes_fit (hull_of (kind_of (pairs l.text)) (fields_of (pairs l.text))) ≡ true
  pub persons : persons_fit (hull_of (kind_of (pairs l.text)) (fields_of (pairs l.text))) ≡ true
  pub zones : wrong_zones (pairs l.text) (hull_of (kind_of (pairs l.text)) (fields_of (pairs l.text))) ≡ false

pub record RowPasses (h : Hull) (p : Progress) (r : Row) : Type 0 where
  pub few : p.rows < most_rows
  pub fits : row_fits h r ≡ true
  pub order : out_of_order h p.last r.head ≡ false
  pub closed : leaves_open h p.last r.head ≡ false

pub record EndPasses (h : Hull) (p : Progress) (count : ℕ) : Type 0 where
  pub counts : count ≡ p.rows
  pub closed : ends_open h p.last ≡ false

-- before the checks of its own kind
pub record LinePasses (h : Hull) (p : Progress) (l : Line) : Type 0 where
  pub going : p.ended ≡ false
  pub written : badly_written l ≡ false
  pub frame : wrong_frame h.kind (pairs l.text) ≡ false

module _ (l : Line) where
  pub hull_passes : first_holds (hull_checks l) ≡ 0 → HullPasses l
  unfolding hull_checks
  hull_passes e =
      let (w, e1) = first_fails _ _ _ (λ z. omega arith) e in
      let (f, e2) = first_fails _ _ _ (λ z. omega arith) e1 in
      let (s, e3) = first_fails _ _ _ (λ z. omega arith) e2 in
      let (n, e4) = first_fails _ _ _ (λ z. omega arith) e3 in
      let (z, e5) = first_fails _ _ _ (λ z. omega arith) e4 in
      record { written = w; frame = f; sizes = not-false _ s; persons = not-false _ n; zones = z }

  pub hull_passed : HullPasses l → first_holds (hull_checks l) ≡ 0
  unfolding hull_checks first_holds
  hull_passed q = rw (q.written, q.frame, q.sizes, q.persons, q.zones) refl

module _ (h : Hull) (p : Progress) where
  pub row_passes : (r : Row) → first_holds (row_checks h p r) ≡ 0 → RowPasses h p r
  unfolding row_checks
  row_passes r e =
      let (n, e1) = first_fails _ _ _ (λ z. omega arith) e in
      let (f, e2) = first_fails _ _ _ (λ z. omega arith) e1 in
      let (o, e3) = first_fails _ _ _ (λ z. omega arith) e2 in
      let (c, e4) = first_fails _ _ _ (λ z. omega arith) e3 in
      record { few = leb-false most_rows p.rows n; fits = not-false _ f; order = o; closed = c }

  pub row_passed : (r : Row) → RowPasses h p r → first_holds (row_checks h p r) ≡ 0
  unfolding row_checks first_holds
  row_passed r q = rw (lt-leb most_rows p.rows q.few, q.fits, q.order, q.closed) refl

  pub end_passes : (count : ℕ) → first_holds (end_checks h p count) ≡ 0 → EndPasses h p count
  unfolding end_checks
  end_passes count e =
      let (c, e1) = first_fails _ _ _ (λ z. omega arith) e in
      let (o, e2) = first_fails _ _ _ (λ z. omega arith) e1 in
      record { counts = eqb-true count p.rows (not-false _ c); closed = o }

  pub end_passed : (count : ℕ) → EndPasses h p count → first_holds (end_checks h p count) ≡ 0
  unfolding end_checks first_holds
  end_passed count q = rw (eq-eqb count p.rows q.counts, q.closed) refl

  module _ (l : Line) where
    abbrev own : List Check
    own = cond (is_row (kind_of (pairs l.text))) (row_checks h p (row_of (pairs l.text))) (end_checks h p (count_of (pairs l.text)))

    pub passes_first : first_holds (line_checks h p l) ≡ 0 → LinePasses h p l × (first_holds own ≡ 0)
    unfolding line_checks
    passes_first e =
        let (g, e1) = first_fails _ _ _ (λ z. omega arith) e in
        let (w, e2) = first_fails _ _ _ (λ z. omega arith) e1 in
        let (f, e3) = first_fails _ _ _ (λ z. omega arith) e2 in
        (record { going = g; written = w; frame = f }, e3)

    pub passed_first : LinePasses h p l → first_holds (line_checks h p l) ≡ first_holds own
    unfolding line_checks first_holds
    passed_first q = rw (q.going, q.written, q.frame) refl

    pub line_of_row : first_holds (line_checks h p l) ≡ 0 → is_row (kind_of (pairs l.text)) ≡ true → LinePasses h p l × RowPasses h p (row_of (pairs l.text))
    line_of_row e k = let (q, o) = passes_first e in (q, row_passes (row_of (pairs l.text)) (rw k at o))

    pub line_of_end : first_holds (line_checks h p l) ≡ 0 → is_row (kind_of (pairs l.text)) ≡ false → LinePasses h p l × EndPasses h p (count_of (pairs l.text))
    line_of_end e k = let (q, o) = passes_first e in (q, end_passes (count_of (pairs l.text)) (rw k at o))

    pub row_line_passes : LinePasses h p l → is_row (kind_of (pairs l.text)) ≡ true → RowPasses h p (row_of (pairs l.text)) → first_holds (line_checks h p l) ≡ 0
    row_line_passes q k r = passed_first q ∙ rw k (row_passed (row_of (pairs l.text)) r)

    pub end_line_passes : LinePasses h p l → is_row (kind_of (pairs l.text)) ≡ false → EndPasses h p (count_of (pairs l.text)) → first_holds (line_checks h p l) ≡ 0
    end_line_passes q k r = passed_first q ∙ rw k (end_passed (count_of (pairs l.text)) r)
