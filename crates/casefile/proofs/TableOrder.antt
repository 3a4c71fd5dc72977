-- The table's order, and that every refusal has a number of the table. Assumes nothing.
use Prim.Native.Nat.{ℕ, ◌-◌}
use mathlib.Core.Path.{◌≡◌, refl, sym, ◌∙◌}
use mathlib.Core.Bool.{Bool, true, false, cond, ◌||◌, false≢true}
use mathlib.Core.List.Memᴰ
use mathlib.Core.List.{List, [], ◌∷◌, Memᴰ}
use mathlib.Core.Logic.{inl, inr}
use lib.Dec.{T, eqb}
use lib.ListN.{take}
use borrow.Author.Tests.{eqb-true}
use Rattle.laws.proofs.Table.{every, both_hold}
use Rattle.laws.proofs.Tests.{holds}
use Rattle.records.specs.declared.Hull.{Hull}
use Rattle.lines.specs.Lines.{Line, lines}
use Rattle.hexadecimal.specs.Hex.{pairs}
use Rattle.casefile.specs.declared.Progress.{Progress}
use Rattle.casefile.specs.Layout.{kind_of, is_row}
use Rattle.casefile.specs.Table.{Check, first_holds, hull_checks, row_checks, end_checks, line_checks}
use Rattle.casefile.specs.Reading.{Stage, begin, inside, checks}
use Rattle.casefile.specs.Refusal.{line_at, after, number_at, Refusal, numbers, OfTheTable, numbers_of, InTurn}
use Rattle.casefile.proofs.LineJudging.{stage_number}
use Rattle.casefile.proofs.Refusal.{is_refusal}

pub in_turn : InTurn
unfolding hull_checks row_checks end_checks line_checks
in_turn = record { hull = λ l. refl; row = λ h p l k. rw k refl; end = λ h p l k. rw k refl }

-- a number that is given is one of those asked for
pub given_is_one : (cs : List Check) → (first_holds cs ≡ 0 → ⊥) → Memᴰ (first_holds cs) (numbers_of cs)
unfolding first_holds
given_is_one [] z = absurd (z refl)
given_is_one (c ∷ cs) z = by c.holds (given_is_one cs) z
  where
    by : (t : Bool) → ((first_holds cs ≡ 0 → ⊥) → Memᴰ (first_holds cs) (numbers_of cs)) → (cond t c.number (first_holds cs) ≡ 0 → ⊥) → Memᴰ (cond t c.number (first_holds cs)) (numbers_of (c ∷ cs))
    by true ih z = Memᴰ.head refl
    by false ih z = Memᴰ.tail (ih z)

has : ℕ → List ℕ → Bool
has k [] = false
has k (x ∷ xs) = eqb k x || has k xs

has_it : (k : ℕ) (xs : List ℕ) → has k xs ≡ true → Memᴰ k xs
unfolding has
has_it k [] e = absurd (false≢true e)
has_it k (x ∷ xs) e = by (eqb k x) refl e (has_it k xs)
  where
    by : (t : Bool) → eqb k x ≡ t → (t || has k xs) ≡ true → (has k xs ≡ true → Memᴰ k xs) → Memᴰ k (x ∷ xs)
    by true q e ih = Memᴰ.head (eqb-true k x q)
    by false q e ih = Memᴰ.tail (ih e)

-- a list whose numbers another one has
among : (ys xs : List ℕ) → T (every (λ x. has x ys) xs) → (k : ℕ) → Memᴰ k xs → Memᴰ k ys
among ys [] t k m = elim m [ ]
among ys (x ∷ xs) t k (Memᴰ.head e) = Memᴰ.cast e (has_it x ys (holds (has x ys) (both_hold (has x ys) (every (λ x. has x ys) xs) t).0))
among ys (x ∷ xs) t k (Memᴰ.tail m) = among ys xs (both_hold (has x ys) (every (λ x. has x ys) xs) t).1 k m

line_numbers : (h : Hull) (p : Progress) (l : Line) (k : ℕ) → Memᴰ k (numbers_of (line_checks h p l)) → Memᴰ k numbers
unfolding has
line_numbers h p l k m = by (is_row (kind_of (pairs l.text))) refl
  where
    by : (t : Bool) → is_row (kind_of (pairs l.text)) ≡ t → Memᴰ k numbers
    by true t = among numbers (10 ∷ 2 ∷ 3 ∷ 6 ∷ 7 ∷ 8 ∷ 9 ∷ []) tt k (rw (in_turn.row h p l t) at m)
    by false t = among numbers (10 ∷ 2 ∷ 3 ∷ 6 ∷ 9 ∷ []) tt k (rw (in_turn.end h p l t) at m)

stage_numbers : (s : Stage) (l : Line) (k : ℕ) → Memᴰ k (numbers_of (checks s l)) → Memᴰ k numbers
unfolding has
stage_numbers begin l k m = among numbers (2 ∷ 3 ∷ 4 ∷ 13 ∷ 5 ∷ []) tt k (rw (in_turn.hull l) at m)
stage_numbers (inside h p) l k m = line_numbers h p l k m

pub of_the_table : OfTheTable
unfolding has number_at
of_the_table f k l e = by (is_refusal f k l e)
  where
    by : Refusal f k l → Memᴰ k numbers
    by (inl q) = has_it k numbers (rw q.number refl)
    by (inr (inl q)) =
        let s : Stage = after begin (take (l - 1) (lines f)) in
        let given : first_holds (checks s (line_at (lines f) l)) ≡ k = sym (stage_number s (line_at (lines f) l)) ∙ q.number in
        stage_numbers s (line_at (lines f) l) k (Memᴰ.cast (sym given) (given_is_one (checks s (line_at (lines f) l)) (λ z. q.some (sym given ∙ z))))
    by (inr (inr q)) = has_it k numbers (rw q.number refl)
