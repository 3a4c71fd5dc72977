-- Lines that pass have read no end frame exactly where none of them is one. Assumes nothing.
use Prim.Native.Nat.{ℕ, zero, suc, ◌<◌, suc-le-suc}
use mathlib.Core.Path.{◌≡◌, refl, sym, ◌∙◌}
use mathlib.Core.Bool.{Bool, true, false, true≢false}
use mathlib.Core.List.{List, [], ◌∷◌}
use native.Mathlib.Nat.{le_of_suc-le-suc}
use native.Mathlib.Omega.{arith}
use lib.ListN.{length, get_or}
use borrow.Author.Tests.{eqb-true}
use Rattle.records.specs.declared.Hull.{Hull}
use Rattle.lines.specs.Lines.{Line}
use Rattle.hexadecimal.specs.Hex.{pairs}
use Rattle.casefile.specs.declared.Progress.{Progress}
use Rattle.casefile.specs.Layout.{kind_of, is_row, is_end}
use Rattle.casefile.specs.Table.{first_holds, hull_checks}
use Rattle.casefile.specs.Reading.{Stage, begin, inside, with_end, checks, next}
use Rattle.casefile.specs.Refusal.{after, IsEndFrame}
use Rattle.casefile.proofs.Checks.{HullPasses, LinePasses, hull_passes, passes_first}
use Rattle.casefile.proofs.HullLayout.{HullKind, of_cargo, of_passengers}
use Rattle.casefile.proofs.RowKinds.{end_no_row}
use Rattle.casefile.proofs.Passing.{hull_frame, then_end}
use Rattle.casefile.proofs.Turns.{no_line, number_first, number_next, PassTo, Open}

pass_rest : (s : Stage) (l : Line) (ls : List Line) (n : ℕ) → PassTo s (l ∷ ls) (suc n) → PassTo (next s l) ls n
pass_rest s l ls n p i h = sym (number_next s l ls i) ∙ p (suc i) (suc-le-suc h)

pass_first : (s : Stage) (l : Line) (ls : List Line) (n : ℕ) → PassTo s (l ∷ ls) (suc n) → first_holds (checks s l) ≡ 0
pass_first s l ls n p = sym (number_first s l ls) ∙ p 0 (omega arith)

-- line 1 is no end frame
hull_no_end : (l : Line) → first_holds (hull_checks l) ≡ 0 → IsEndFrame l → ⊥
hull_no_end l e t =
    let bs : List ℕ = pairs l.text in
    let q : HullPasses l = hull_passes l e in
    by (hull_frame l q.written q).0 (eqb-true (kind_of bs) 15 t)
  where
    by : HullKind (kind_of (pairs l.text)) → kind_of (pairs l.text) ≡ 15 → ⊥
    by (of_cargo k) e = omega arith
    by (of_passengers k) e = omega arith

-- an end frame that is read ends the rows, and only the last line can be one
at_the_end : (h : Hull) (p : Progress) (ls : List Line) → PassTo (inside h (with_end p)) ls (length ls) → Open (after (inside h (with_end p)) ls) → ⊥
unfolding after
at_the_end h p [] q o = true≢false o
at_the_end h p (x ∷ ls) q o = true≢false (passes_first h (with_end p) x (pass_first (inside h (with_end p)) x ls (length ls) q)).0.going

first_no_end : (s : Stage) (l : Line) (ls : List Line) → PassTo s (l ∷ ls) (suc (length ls)) → Open (after (next s l) ls) → IsEndFrame l → ⊥
first_no_end begin l ls q o t = hull_no_end l (pass_first begin l ls (length ls) q) t
first_no_end (inside h p) l ls q o t =
    let k : is_row (kind_of (pairs l.text)) ≡ false = end_no_row (kind_of (pairs l.text)) t in
    at_the_end h p ls (rw k at (pass_rest (inside h p) l ls (length ls) q)) (rw k at o)

pub none_ends : (s : Stage) (ls : List Line) → PassTo s ls (length ls) → Open (after s ls) → (i : ℕ) → i < length ls → IsEndFrame (get_or ls i no_line) → ⊥
unfolding after
none_ends s [] q o i h = absurd (omega arith)
none_ends s (l ∷ ls) q o zero h = first_no_end s l ls q o
none_ends s (l ∷ ls) q o (suc i) h = none_ends (next s l) ls (pass_rest s l ls (length ls) q) o i (le_of_suc-le-suc h)

-- a line that passes and is no end frame leaves the rows open
still_open : (s : Stage) (l : Line) → first_holds (checks s l) ≡ 0 → (IsEndFrame l → ⊥) → Open (next s l)
still_open begin l e n = refl
still_open (inside h p) l e n = by (is_row (kind_of bs)) refl (is_end (kind_of bs)) refl
  where
    bs : List ℕ
    bs = pairs l.text

    by : (t : Bool) → is_row (kind_of bs) ≡ t → (u : Bool) → is_end (kind_of bs) ≡ u → Open (next (inside h p) l)
    by true t u v = rw t refl
    by false t true v = absurd (n v)
    by false t false v =
        let q : LinePasses h p l = (passes_first h p l e).0 in
        absurd (true≢false (sym (then_end l q.written h.kind q.frame t) ∙ v))

pub stays_open : (s : Stage) (ls : List Line) → PassTo s ls (length ls) → Open s → ((i : ℕ) → i < length ls → IsEndFrame (get_or ls i no_line) → ⊥) → Open (after s ls)
unfolding after
stays_open s [] q o n = o
stays_open s (l ∷ ls) q o n =
    stays_open (next s l) ls (pass_rest s l ls (length ls) q) (still_open s l (pass_first s l ls (length ls) q) (n 0 (omega arith))) (λ i h. n (suc i) (suc-le-suc h))
