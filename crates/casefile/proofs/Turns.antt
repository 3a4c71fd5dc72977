-- Lines in turn, from any stage on: which one is refused, and with what number. Assumes nothing.
use Prim.Native.Nat.{ℕ, zero, suc, ◌+◌, ◌<◌, suc-le-suc}
use mathlib.Core.Path.{◌≡◌, refl, sym, ◌∙◌, ap}
use mathlib.Core.Bool.{Bool, true, false, cond}
use mathlib.Core.List.{List, [], ◌∷◌}
use mathlib.Core.Logic.{◌⊎◌, inl, inr}
use native.Mathlib.Nat.{le_of_suc-le-suc, add-zero}
use native.Mathlib.Omega.{arith}
use lib.Dec.{eqb}
use lib.ListN.{length, get_or, take}
use borrow.Author.Tests.{eqb-true, eqb-false}
use Rattle.lines.specs.Lines.{Line}
use Rattle.hexadecimal.specs.Hex.{pairs}
use Rattle.casefile.specs.Layout.{kind_of, is_row, row_of}
use Rattle.casefile.specs.Table.{first_holds}
use Rattle.casefile.specs.Reading.{Reading, refused, accepted, Stage, begin, inside, checks, next, before, gathered, finished, read_from}
use Rattle.casefile.specs.Refusal.{after}
use Rattle.casefile.proofs.Steps.{no_line_lem, line_passes, line_refused}
use Rattle.casefile.proofs.Soundness.{not_accepted}

abbrev pub no_line : Line
no_line = record { text = []; closed = false }

-- the first check that holds at the line of place i, by what the lines before it say
unfoldable pub number_from : Stage → List Line → ℕ → ℕ
number_from s ls i = first_holds (checks (after s (take i ls)) (get_or ls i no_line))

pub number_first : (s : Stage) (l : Line) (ls : List Line) → number_from s (l ∷ ls) 0 ≡ first_holds (checks s l)
unfolding number_from after
number_first s l ls = refl

pub number_next : (s : Stage) (l : Line) (ls : List Line) (i : ℕ) → number_from s (l ∷ ls) (suc i) ≡ number_from (next s l) ls i
unfolding number_from after
number_next s l ls i = refl

abbrev pub PassTo : Stage → List Line → ℕ → Type 0
PassTo s ls n = (i : ℕ) → i < n → number_from s ls i ≡ 0

-- no end frame is read
abbrev pub Open : Stage → Type 0
Open begin = Unit {0}
Open (inside h p) = p.ended ≡ false

-- ---- which line is refused

pub record Stops (s : Stage) (n : ℕ) (ls : List Line) (k l : ℕ) : Type 0 where
  pub place : ℕ
  pub within : place < length ls
  pub before : PassTo s ls place
  pub number : number_from s ls place ≡ k
  pub some : k ≡ 0 → ⊥
  pub line : l ≡ n + place

pub record RunsOut (s : Stage) (n : ℕ) (ls : List Line) (k l : ℕ) : Type 0 where
  pub before : PassTo s ls (length ls)
  pub unended : Open (after s ls)
  pub number : k ≡ 10
  pub line : l ≡ n + length ls

-- two refusals that are one
pub same_refusal : (k l k' l' : ℕ) → refused k l ≡ refused k' l' → (k ≡ k') × (l ≡ l')
same_refusal k l k' l' e = let a : k ≡ k' = cc in let b : l ≡ l' = cc in (a, b)

-- what a line gathers changes no refusal
gathered_refused : (s : Stage) (l : Line) (r : Reading) (k n : ℕ) → gathered s l r ≡ refused k n → r ≡ refused k n
gathered_refused begin l r k n e = e
gathered_refused (inside h p) l r k n e = by (is_row (kind_of (pairs l.text))) r e
  where
    by : (t : Bool) (r : Reading) → cond t (before (row_of (pairs l.text)) r) r ≡ refused k n → r ≡ refused k n
    by true (refused a b) e = e
    by true (accepted c) e = not_accepted k n _ (sym e)
    by false r e = e

refused_gathered : (s : Stage) (l : Line) (k n : ℕ) → gathered s l (refused k n) ≡ refused k n
refused_gathered begin l k n = refl
refused_gathered (inside h p) l k n = by (is_row (kind_of (pairs l.text)))
  where
    by : (t : Bool) → cond t (before (row_of (pairs l.text)) (refused k n)) (refused k n) ≡ refused k n
    by true = refl
    by false = refl

pass_more : (s : Stage) (l : Line) (ls : List Line) (n : ℕ) → first_holds (checks s l) ≡ 0 → PassTo (next s l) ls n → PassTo s (l ∷ ls) (suc n)
pass_more s l ls n e p zero h = number_first s l ls ∙ e
pass_more s l ls n e p (suc i) h = number_next s l ls i ∙ p i (le_of_suc-le-suc h)

-- ---- from the reading

finished_refused : (s : Stage) (n k l : ℕ) → finished s n ≡ refused k l → Open s × (k ≡ 10) × (l ≡ n)
finished_refused begin n k l e = let (a, b) = same_refusal 10 n k l e in (tt, sym a, sym b)
finished_refused (inside h p) n k l e = by p.ended refl e
  where
    by : (t : Bool) → p.ended ≡ t → cond t (accepted (record { hull = h; rows = [] })) (refused 10 n) ≡ refused k l → (p.ended ≡ false) × (k ≡ 10) × (l ≡ n)
    by true t e = not_accepted k l _ (sym e)
    by false t e = let (a, b) = same_refusal 10 n k l e in (t, sym a, sym b)

stops_later : (s : Stage) (n : ℕ) (x : Line) (ls : List Line) (k l : ℕ) → first_holds (checks s x) ≡ 0 → Stops (next s x) (n + 1) ls k l → Stops s n (x ∷ ls) k l
stops_later s n x ls k l e q = record {
  place = suc q.place;
  within = omega (arith, q.within);
  before = pass_more s x ls q.place e q.before;
  number = number_next s x ls q.place ∙ q.number;
  some = q.some;
  line = omega (arith, q.line);
}

runs_out_later : (s : Stage) (n : ℕ) (x : Line) (ls : List Line) (k l : ℕ) → first_holds (checks s x) ≡ 0 → RunsOut (next s x) (n + 1) ls k l → RunsOut s n (x ∷ ls) k l
unfolding after
runs_out_later s n x ls k l e q = record {
  before = pass_more s x ls (length ls) e q.before;
  unended = q.unended;
  number = q.number;
  line = omega (arith, q.line);
}

pub refused_by : (s : Stage) (n : ℕ) (ls : List Line) (k l : ℕ) → read_from s n ls ≡ refused k l → Stops s n ls k l ⊎ RunsOut s n ls k l
unfolding after
refused_by s n [] k l e =
    let (o, a, b) = finished_refused s n k l (sym (no_line_lem s n) ∙ e) in
    inr (record { before = λ i h. absurd (omega arith); unended = o; number = a; line = b ∙ sym (add-zero n) })
refused_by s n (x ∷ ls) k l e = by (eqb (first_holds (checks s x)) 0) refl (λ g. refused_by (next s x) (n + 1) ls k l g)
  where
    later : first_holds (checks s x) ≡ 0 → Stops (next s x) (n + 1) ls k l ⊎ RunsOut (next s x) (n + 1) ls k l → Stops s n (x ∷ ls) k l ⊎ RunsOut s n (x ∷ ls) k l
    later z (inl q) = inl (stops_later s n x ls k l z q)
    later z (inr q) = inr (runs_out_later s n x ls k l z q)

    by : (t : Bool) → eqb (first_holds (checks s x)) 0 ≡ t → (read_from (next s x) (n + 1) ls ≡ refused k l → Stops (next s x) (n + 1) ls k l ⊎ RunsOut (next s x) (n + 1) ls k l) →
        Stops s n (x ∷ ls) k l ⊎ RunsOut s n (x ∷ ls) k l
    by true t ih =
        let z : first_holds (checks s x) ≡ 0 = eqb-true (first_holds (checks s x)) 0 t in
        later z (ih (gathered_refused s x (read_from (next s x) (n + 1) ls) k l (sym (line_passes s n x ls z) ∙ e)))
    by false t ih =
        let z : first_holds (checks s x) ≡ 0 → ⊥ = eqb-false (first_holds (checks s x)) 0 t in
        let (a, b) = same_refusal (first_holds (checks s x)) n k l (sym (line_refused s n x ls (first_holds (checks s x)) refl z) ∙ e) in
        inl (record { place = 0; within = omega arith; before = λ i h. absurd (omega arith); number = number_first s x ls ∙ a; some = λ q. z (a ∙ q); line = sym b ∙ sym (add-zero n) })

-- ---- and back to it

module _ (s : Stage) (n : ℕ) (x : Line) (ls : List Line) where
  goes_on : (k l : ℕ) → first_holds (checks s x) ≡ 0 → read_from (next s x) (n + 1) ls ≡ refused k l → read_from s n (x ∷ ls) ≡ refused k l
  goes_on k l z e = line_passes s n x ls z ∙ ap (gathered s x) e ∙ refused_gathered s x k l

pub stops : (s : Stage) (n : ℕ) (ls : List Line) (k i : ℕ) → i < length ls → PassTo s ls i → number_from s ls i ≡ k → (k ≡ 0 → ⊥) → read_from s n ls ≡ refused k (n + i)
stops s n [] k i h p e z = absurd (omega arith)
stops s n (x ∷ ls) k zero h p e z = rw (add-zero n) (line_refused s n x ls k (sym (number_first s x ls) ∙ e) z)
stops s n (x ∷ ls) k (suc i) h p e z =
    let m : n + suc i ≡ n + 1 + i = omega arith in
    rw m
    (goes_on s n x ls k (n + 1 + i) (sym (number_first s x ls) ∙ p 0 (omega arith))
    (stops (next s x) (n + 1) ls k i (le_of_suc-le-suc h) (λ j q. sym (number_next s x ls j) ∙ p (suc j) (suc-le-suc q)) (sym (number_next s x ls i) ∙ e) z))

finished_open : (s : Stage) (n : ℕ) → Open s → finished s n ≡ refused 10 n
finished_open begin n o = refl
finished_open (inside h p) n o = rw o refl

pub runs_out : (s : Stage) (n : ℕ) (ls : List Line) → PassTo s ls (length ls) → Open (after s ls) → read_from s n ls ≡ refused 10 (n + length ls)
unfolding after
runs_out s n [] p o = rw (add-zero n) (no_line_lem s n ∙ finished_open s n o)
runs_out s n (x ∷ ls) p o =
    let m : n + suc (length ls) ≡ n + 1 + length ls = omega arith in
    rw m
    (goes_on s n x ls 10 (n + 1 + length ls) (sym (number_first s x ls) ∙ p 0 (omega arith))
    (runs_out (next s x) (n + 1) ls (λ j q. sym (number_next s x ls j) ∙ p (suc j) (suc-le-suc q)) o))
