-- The theorem of refusal, and that a file gets one answer only. Assumes nothing.
use Prim.Native.Nat.{ℕ, zero, suc, ◌+◌, ◌-◌, ◌≤◌, ◌<◌}
use mathlib.Core.Path.{◌≡◌, refl, sym, ◌∙◌, ap}
use mathlib.Core.Bool.{Bool, true, false}
use mathlib.Core.List.{List}
use mathlib.Core.Logic.{◌⊎◌, inl, inr}
use native.Mathlib.Omega.{arith}
use lib.Dec.{ltb}
use lib.ListN.{length, get_or, take}
use borrow.Author.Tests.{ltb-true, ltb-false}
use Rattle.lines.specs.Lines.{Line, lines}
use Rattle.casefile.specs.Record.{Case}
use Rattle.casefile.specs.Limits.{longest_input}
use Rattle.casefile.specs.Reading.{Reading, refused, accepted, begin, reading}
use Rattle.casefile.specs.Answer.{judgement_of}
use Rattle.casefile.specs.Refusal.{line_at, after, number_at, IsEndFrame, AtLine, NoEnd, Refusal, Refusals, Answered, OneRefusal, NotBoth}
use Rattle.casefile.proofs.Steps.{too_long, not_too_long}
use Rattle.casefile.proofs.LineJudging.{stage_number}
use Rattle.casefile.proofs.Soundness.{not_accepted}
use Rattle.casefile.proofs.Turns.{no_line, number_from, PassTo, Stops, RunsOut, same_refusal, refused_by, stops, runs_out}
use Rattle.casefile.proofs.EndFrames.{none_ends, stays_open}

-- ---- places and line numbers

number_at_lem : (ls : List Line) (i : ℕ) → number_at ls (suc i) ≡ number_from begin ls i
unfolding number_at number_from
number_at_lem ls i = let e : suc i - 1 ≡ i = omega arith in rw e (stage_number (after begin (take i ls)) (get_or ls i no_line))

-- a fact of each place is one of each line number
by_number : (P : ℕ → Type 0) (n : ℕ) → ((i : ℕ) → i < n → P (suc i)) → (i : ℕ) → 1 ≤ i → i < suc n → P i
by_number P n p zero a b = absurd (omega arith)
by_number P n p (suc i) a b = p i (omega arith)

-- ---- the theorem

module _ (f : List ℕ) (k l : ℕ) where
  at_line : length f ≤ longest_input → Stops begin 1 (lines f) k l → AtLine f k l
  at_line short q =
      let e : l ≡ suc q.place = omega (arith, q.line) in
      record {
        short = short;
        from = omega (arith, e);
        to = omega (arith, e, q.within);
        before = rw e (by_number (λ i. number_at (lines f) i ≡ 0) q.place (λ i h. number_at_lem (lines f) i ∙ q.before i h));
        number = rw e (number_at_lem (lines f) q.place ∙ q.number);
        some = q.some;
      }

  no_end : length f ≤ longest_input → RunsOut begin 1 (lines f) k l → NoEnd f k l
  no_end short q =
      let e : l ≡ suc (length (lines f)) = omega (arith, q.line) in
      record {
        short = short;
        before = rw e (by_number (λ i. number_at (lines f) i ≡ 0) (length (lines f)) (λ i h. number_at_lem (lines f) i ∙ q.before i h));
        none = rw e (by_number (λ i. IsEndFrame (line_at (lines f) i) → ⊥) (length (lines f)) (λ i h. let m : suc i - 1 ≡ i = omega arith in rw m (none_ends begin (lines f) q.before q.unended i h)));
        number = q.number;
        line = omega (arith, q.line);
      }

  judged : length f ≤ longest_input → Stops begin 1 (lines f) k l ⊎ RunsOut begin 1 (lines f) k l → Refusal f k l
  judged short (inl q) = inr (inl (at_line short q))
  judged short (inr q) = inr (inr (no_end short q))

  pub is_refusal : reading f ≡ refused k l → Refusal f k l
  is_refusal e = by (ltb longest_input (length f)) refl
    where
      by : (t : Bool) → ltb longest_input (length f) ≡ t → Refusal f k l
      by true t =
          let long : longest_input < length f = ltb-true longest_input (length f) t in
          let (a, b) = same_refusal 1 0 k l (sym (too_long f long) ∙ e) in
          inl (record { long = long; number = sym a; line = sym b })
      by false t =
          let short : length f ≤ longest_input = ltb-false longest_input (length f) t in
          judged short (refused_by begin 1 (lines f) k l (sym (not_too_long f short) ∙ e))

  pub refusal_is : Refusal f k l → reading f ≡ refused k l
  refusal_is (inl q) = rw (q.number, q.line) (too_long f q.long)
  refusal_is (inr (inl q)) =
      let e : suc (l - 1) ≡ l = omega (arith, q.from) in
      let m : 1 + (l - 1) ≡ l = omega (arith, q.from) in
      let number : number_from begin (lines f) (l - 1) ≡ k = sym (number_at_lem (lines f) (l - 1)) ∙ ap (number_at (lines f)) e ∙ q.number in
      let pass : PassTo begin (lines f) (l - 1) = λ i h. sym (number_at_lem (lines f) i) ∙ q.before (suc i) (omega arith) (omega arith) in
      not_too_long f q.short ∙ (rw m at (stops begin 1 (lines f) k (l - 1) (omega (arith, q.from, q.to)) pass number q.some))
  refusal_is (inr (inr q)) =
      let n : ℕ = length (lines f) in
      let m : 1 + n ≡ l = omega (arith, q.line) in
      let pass : PassTo begin (lines f) n = λ i h. sym (number_at_lem (lines f) i) ∙ q.before (suc i) (omega arith) (omega (arith, q.line)) in
      let none : (i : ℕ) → i < n → IsEndFrame (get_or (lines f) i no_line) → ⊥ = λ i h. let w : suc i - 1 ≡ i = omega arith in rw w at (q.none (suc i) (omega arith) (omega (arith, q.line))) in
      not_too_long f q.short ∙ (rw (m, sym q.number) at (runs_out begin 1 (lines f) pass (stays_open begin (lines f) pass tt none)))

pub refusals : Refusals
refusals f k l = (is_refusal f k l, refusal_is f k l)

-- ---- one answer

pub answered : Answered
answered f = by (reading f) refl
  where
    by : (r : Reading) → reading f ≡ r → ((c : Case) × (reading f ≡ accepted c)) ⊎ ((k : ℕ) × (l : ℕ) × Refusal f k l)
    by (refused k l) e = inr (k, l, is_refusal f k l e)
    by (accepted c) e = inl (c, e)

pub one_refusal : OneRefusal
one_refusal f k l k' l' p q = same_refusal k l k' l' (sym (refusal_is f k l p) ∙ refusal_is f k' l' q)

pub not_both : NotBoth
not_both f c k l e q = not_accepted k l c (sym (refusal_is f k l q) ∙ e)

-- no refusal has the number 0, and so a file that gets it is accepted
pub nonzero : (f : List ℕ) (k l : ℕ) → Refusal f k l → k ≡ 0 → ⊥
nonzero f k l (inl q) e = omega (arith, q.number)
nonzero f k l (inr (inl q)) e = q.some e
nonzero f k l (inr (inr q)) e = omega (arith, q.number)

pub zero_accepts : (f : List ℕ) → (judgement_of (reading f)).number ≡ 0 → (c : Case) × (reading f ≡ accepted c)
zero_accepts f e = by (reading f) refl e
  where
    by : (r : Reading) → reading f ≡ r → (judgement_of r).number ≡ 0 → (c : Case) × (reading f ≡ accepted c)
    by (refused k l) q z = absurd (nonzero f k l (is_refusal f k l q) z)
    by (accepted c) q z = (c, q)
