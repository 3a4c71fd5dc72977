-- Demands 1 and 2 of what the entry returns, from the reading's theorems. Assumes nothing.
use Prim.Native.Nat.{ℕ, ◌*◌, ◌≤◌, ◌<◌}
use mathlib.Core.Path.{◌≡◌, refl, sym, ◌∙◌, ap}
use mathlib.Core.Bool.{Bool, true, false}
use mathlib.Core.List.{List}
use native.Mathlib.Omega.{arith}
use lib.Dec.{ltb}
use lib.ListN.{length}
use borrow.Author.Tests.{ltb-true, ltb-false, lt-ltb, le-ltb}
use Rattle.casefile.specs.Record.{Case}
use Rattle.casefile.specs.Reading.{Reading, refused, accepted, reading}
use Rattle.casefile.proofs.Refusal.{is_refusal, refusal_is, nonzero}
use Rattle.casefile.proofs.CaseLines.{lines_say_the_case}
use Rattle.answers.specs.Answer.{figures, answer, refusal, answered, sheet_after}
use Rattle.promises.specs.Service.{FileOf, AcceptedExactly, AcceptedLineByLine, RefusedFor, by_table, no_room, RefusedExactly, RefusalsAreBare}
use Rattle.promises.proofs.Files.{is_file, file_is}
-- checked first, so that a sentence that is not so is refused at a number
use Rattle.promises.proofs.WitnessService.{too_short}

-- ---- an accepted case, with room and without
no_number : (c : Case) → (answer c).number ≡ 0
unfolding answer figures
no_number c = refl

with_room : (c : Case) (size : ℕ) → 2 * length c.rows ≤ size → answered (accepted c) size ≡ answer c
unfolding answered
with_room c size l = rw (le-ltb size (2 * length c.rows) l) refl

without : (c : Case) (size : ℕ) → size < 2 * length c.rows → answered (accepted c) size ≡ refusal 11 0
unfolding answered
without c size l = rw (lt-ltb size (2 * length c.rows) l) refl

-- ---- which number is given
accepting : (f : List ℕ) (size : ℕ) (r : Reading) → reading f ≡ r → (answered r size).number ≡ 0 → (c : Case) × FileOf f c × (2 * length c.rows ≤ size)
unfolding answered
accepting f size (refused k l) e z = absurd (nonzero f k l (is_refusal f k l e) z)
accepting f size (accepted c) e z = by (ltb size (2 * length c.rows)) refl
  where
    by : (t : Bool) → ltb size (2 * length c.rows) ≡ t → (c : Case) × FileOf f c × (2 * length c.rows ≤ size)
    by true t = absurd (omega (arith, rw t at z))
    by false t = (c, is_file f c e, ltb-false size (2 * length c.rows) t)

pub accepted_exactly : AcceptedExactly
accepted_exactly f size = (
  λ z. accepting f size (reading f) refl z,
  λ (c, k, room). rw (file_is f c k, with_room c size room) (no_number c),
)

pub accepted_line_by_line : AcceptedLineByLine
accepted_line_by_line f size z = let (c, k, room) = accepting f size (reading f) refl z in (c, k, lines_say_the_case f c (file_is f c k))

refusing : (f : List ℕ) (size k l : ℕ) → (k ≡ 0 → ⊥) → (r : Reading) → reading f ≡ r → answered r size ≡ refusal k l → RefusedFor f size k l
unfolding answered
refusing f size k l some (refused j i) e a =
    let n : j ≡ k = ap (λ r. r.number) a in
    let m : i ≡ l = ap (λ r. r.line) a in
    by_table (rw (← n, ← m) (is_refusal f j i e))
refusing f size k l some (accepted c) e a = by (ltb size (2 * length c.rows)) refl
  where
    by : (t : Bool) → ltb size (2 * length c.rows) ≡ t → RefusedFor f size k l
    by true t =
        let b : refusal 11 0 ≡ refusal k l = rw t at a in
        no_room c (is_file f c e) (ltb-true size (2 * length c.rows) t) (sym (ap (λ r. r.number) b)) (sym (ap (λ r. r.line) b))
    by false t =
        let b : answer c ≡ refusal k l = rw t at a in
        absurd (some (sym (ap (λ r. r.number) b) ∙ no_number c))

refused_for : (f : List ℕ) (size k l : ℕ) → RefusedFor f size k l → answered (reading f) size ≡ refusal k l
unfolding answered
refused_for f size k l (by_table r) = rw (refusal_is f k l r) refl
refused_for f size k l (no_room c k' room n m) = rw (file_is f c k', n, m) (without c size room)

pub refused_exactly : RefusedExactly
refused_exactly f size k l some = (λ a. refusing f size k l some (reading f) refl a, λ r. refused_for f size k l r)

-- ---- what a refusal leaves
bare_by : (r : Reading) (sheet : List ℕ) → ((answered r (length sheet)).number ≡ 0 → ⊥) →
    (answered r (length sheet) ≡ refusal (answered r (length sheet)).number (answered r (length sheet)).line) × (sheet_after r sheet ≡ sheet)
unfolding answered sheet_after
bare_by (refused k l) sheet some = (refl, refl)
bare_by (accepted c) sheet some = by (ltb (length sheet) (2 * length c.rows)) refl
  where
    by : (t : Bool) → ltb (length sheet) (2 * length c.rows) ≡ t →
        (answered (accepted c) (length sheet) ≡ refusal (answered (accepted c) (length sheet)).number (answered (accepted c) (length sheet)).line) × (sheet_after (accepted c) sheet ≡ sheet)
    by true t = (rw t refl, rw t refl)
    by false t = absurd (some (rw t (no_number c)))

pub refusals_are_bare : RefusalsAreBare
refusals_are_bare f sheet some = let (z, u) = bare_by (reading f) sheet some in record { zeros = z; unchanged = u }
