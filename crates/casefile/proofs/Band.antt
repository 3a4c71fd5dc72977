-- Refusal 13: line 1 gets it exactly of a ship of the rule of 2020 with 1,351 to 6,000 persons, no other line does, and no such ship is read. Assumes nothing.
use Prim.Native.Nat.{ℕ, zero, suc, ◌+◌, ◌≤◌}
use mathlib.Core.Path.{◌≡◌, refl, sym, ◌∙◌}
use mathlib.Core.Bool.{Bool, true, false, not}
use mathlib.Core.List.Memᴰ
use mathlib.Core.List.{List, [], ◌∷◌}
use mathlib.Core.Logic.{◌⊎◌, inl, inr}
use native.Mathlib.Omega.{arith}
use lib.Dec.{T, eqb}
use lib.ListN.{length, get_or, take}
use borrow.Author.Tests.{not-true, not-false}
use Rattle.laws.proofs.Choice.{split}
use Rattle.laws.proofs.Table.{every, member_passes}
use Rattle.laws.proofs.Tests.{holds}
use Rattle.records.specs.declared.Hull.{Hull}
use Rattle.lines.specs.Lines.{Line, lines}
use Rattle.hexadecimal.specs.Hex.{pairs, badly_written}
use Rattle.casefile.specs.declared.Progress.{Progress}
use Rattle.casefile.specs.Layout.{kind_of, fields_of, is_row, hull_of}
use Rattle.casefile.specs.Limits.{longest_input, sizes_fit, aboard, persons_fit}
use Rattle.casefile.specs.Table.{Check, ◌when◌, first_holds, wrong_hull_frame, hull_checks, line_checks}
use Rattle.casefile.specs.Reading.{refused, begin, inside, start, progressed, checks, read_from, reading}
use Rattle.casefile.specs.Refusal.{line_at, after, first_hull, OfTheBand, ThirteenExactly, BandIsNotTaken, numbers_of}
use Rattle.casefile.proofs.Checks.{first_other}
use Rattle.casefile.proofs.Limits.{in_the_band, band_unfit, outside_the_band}
use Rattle.casefile.proofs.Steps.{too_long, not_too_long, line_refused}
use Rattle.casefile.proofs.Soundness.{sound}
use Rattle.casefile.proofs.Turns.{no_line, number_from, Stops, RunsOut, number_first, number_next, same_refusal, refused_by}
use Rattle.casefile.proofs.TableOrder.{in_turn, given_is_one}

-- ---- a later line

-- 13 is not given where no check has that number
not_given : (cs : List Check) → T (every (λ k. not (eqb k 13)) (numbers_of cs)) → first_holds cs ≡ 13 → ⊥
not_given cs t e = member_passes (λ k. not (eqb k 13)) 13 (numbers_of cs) t (Memᴰ.cast (sym e) (given_is_one cs (λ z. omega (arith, e, z))))

after_the_hull : (ls : List Line) (h : Hull) (p : Progress) (l : Line) → first_holds (checks (after (inside h p) ls) l) ≡ 13 → ⊥
unfolding after
after_the_hull [] h p l e = by (is_row (kind_of (pairs l.text))) refl
  where
    by : (t : Bool) → is_row (kind_of (pairs l.text)) ≡ t → ⊥
    by true t = not_given (line_checks h p l) (rw (in_turn.row h p l t) tt) e
    by false t = not_given (line_checks h p l) (rw (in_turn.end h p l t) tt) e
after_the_hull (x ∷ ls) h p l e = after_the_hull ls h (progressed p (pairs x.text)) l e

-- ---- line 1

module _ (l : Line) where
  abbrev hull : Hull
  hull = hull_of (kind_of (pairs l.text)) (fields_of (pairs l.text))

  -- what comes after it is 5
  by_its_own : (t u : Bool) → first_holds ((13 when t) ∷ (5 when u) ∷ []) ≡ 13 → t ≡ true
  unfolding first_holds
  by_its_own true u e = refl
  by_its_own false u e = absurd (not_given ((5 when u) ∷ []) tt e)

  thirteen_tells : first_holds (hull_checks l) ≡ 13 → (badly_written l ≡ false) × (wrong_hull_frame (pairs l.text) ≡ false) × (sizes_fit hull ≡ true) × (persons_fit hull ≡ false)
  unfolding hull_checks
  thirteen_tells e =
      let (w, e1) = first_other 2 13 _ _ (λ z. omega arith) e in
      let (f, e2) = first_other 3 13 _ _ (λ z. omega arith) e1 in
      let (s, e3) = first_other 4 13 _ _ (λ z. omega arith) e2 in
      (w, f, not-false _ s, not-true _ (by_its_own _ _ e3))

  thirteen_given : badly_written l ≡ false → wrong_hull_frame (pairs l.text) ≡ false → sizes_fit hull ≡ true → persons_fit hull ≡ false → first_holds (hull_checks l) ≡ 13
  unfolding hull_checks first_holds
  thirteen_given w f s n = rw (w, f, s, n) refl

-- ---- the lines

-- of all lines the first alone
thirteen_first : (ls : List Line) (l : ℕ) → read_from begin 1 ls ≡ refused 13 l → (l ≡ 1) × (1 ≤ length ls) × (first_holds (hull_checks (line_at ls 1)) ≡ 13)
unfolding number_from
thirteen_first [] l e = by (refused_by begin 1 [] 13 l e)
  where
    by : {A : Type 0} → Stops begin 1 [] 13 l ⊎ RunsOut begin 1 [] 13 l → A
    by (inl q) = absurd (omega (arith, q.within))
    by (inr q) = absurd (omega (arith, q.number))
thirteen_first (x ∷ ls) l e = by (refused_by begin 1 (x ∷ ls) 13 l e)
  where
    at : (i : ℕ) → number_from begin (x ∷ ls) i ≡ 13 → l ≡ 1 + i → (l ≡ 1) × (1 ≤ suc (length ls)) × (first_holds (hull_checks x) ≡ 13)
    at zero n e = (e, omega arith, sym (number_first begin x ls) ∙ n)
    at (suc i) n e = absurd (after_the_hull (take i ls) (hull x) start (get_or ls i no_line) (sym (number_next begin x ls i) ∙ n))

    by : Stops begin 1 (x ∷ ls) 13 l ⊎ RunsOut begin 1 (x ∷ ls) 13 l → (l ≡ 1) × (1 ≤ suc (length ls)) × (first_holds (hull_checks x) ≡ 13)
    by (inl q) = at q.place q.number q.line
    by (inr q) = absurd (omega (arith, q.number))

first_thirteen : (ls : List Line) → 1 ≤ length ls → first_holds (hull_checks (line_at ls 1)) ≡ 13 → read_from begin 1 ls ≡ refused 13 1
first_thirteen [] some e = absurd (omega arith)
first_thirteen (x ∷ ls) some e = line_refused begin 1 x ls 13 e (λ z. omega arith)

-- ---- the promises

module _ (f : List ℕ) where
  abbrev first : Line
  first = line_at (lines f) 1

  tells_the_band : (l : ℕ) → length f ≤ longest_input → reading f ≡ refused 13 l → (l ≡ 1) × OfTheBand f
  tells_the_band l short e =
      let (one, some, given) = thirteen_first (lines f) l (sym (not_too_long f short) ∙ e) in
      let (w, k, s, n) = thirteen_tells first given in
      let (r, from, to) = in_the_band (first_hull f) n in
      (one, record { short = short; some = some; written = w; frame = k; sizes = s; rule = r; from = from; to = to })

  band_told : OfTheBand f → reading f ≡ refused 13 1
  band_told q =
      not_too_long f q.short
      ∙ first_thirteen (lines f) q.some (thirteen_given first q.written q.frame q.sizes (band_unfit (first_hull f) q.rule q.from q.to))

pub thirteen_exactly : ThirteenExactly
thirteen_exactly f l = (
  λ e. split (length f) longest_input (λ short. tells_the_band f l short e) (λ long. let (a, b) = same_refusal 1 0 13 l (sym (too_long f long) ∙ e) in absurd (omega arith)),
  λ q. rw q.0 (band_told f q.1),
)

pub band_is_not_taken : BandIsNotTaken
band_is_not_taken f c e r = outside_the_band c.hull (holds (persons_fit c.hull) (sound f c e).1.hull.persons) r
