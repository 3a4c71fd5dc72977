-- Of two results the lower survival counts: rounding keeps the order, so the lesser s⁴ has the lesser bottom and the lesser top. Assumes nothing.
use Prim.Native.Nat.{ℕ, zero, suc, ◌+◌, ◌^◌, ◌≤◌, ◌<◌}
use mathlib.Core.List.{List, ◌++◌}
use mathlib.Core.Path.{◌≡◌, refl, ap, ap₂, sym, ◌∙◌}
use native.Mathlib.Omega.{arith}
use lib.Dec.{eqb}
use lib.ListN.{length, get_or, get_or-append}
use lib.Seq.{get_or-append-add}
use borrow.Author.Tests.{ne_eqb}
use Rattle.laws.specs.Fraction.{Fraction, ◌≼◌, ◌≺◌, ◌≼?◌, lesser}
use Rattle.laws.proofs.Fraction.{≼_trans}
use Rattle.laws.proofs.FractionCompare.{times_rises, ≼_of_≺}
use Rattle.laws.proofs.FractionOrder.{ordered, test_passes, test_fails, lesser_first, lesser_second}
use Rattle.laws.proofs.Tests.{picked}
use Rattle.records.specs.declared.Finding.{Finding}
use Rattle.records.specs.Results.{Results}
use Rattle.survival.specs.Marks.{found_marks}
use Rattle.survival.specs.Survival.{root, given, ends, Sensible, marked, factor_of, fourth_of, nothing, no_survival, survival_of, worse_of, counts_at, factor_at, survival_at, factors_of, survivals_of}
use Rattle.survival.specs.Worse.{LesserEnds, LesserHasLesserEnds, LowerCounts, RowCounts, LowerSurvivalCounts}
-- checked first, so that a definition that counts another result is refused there
use Rattle.survival.proofs.Values.{second_sets}
use Rattle.survival.proofs.Factors.{as_found, fourth_sensible}
use Rattle.survival.proofs.Bounds.{bottom_is, top_is}

-- ---- rounding keeps the order
module _ {f g : Fraction} (h : Sensible (root f)) (k : Sensible (root g)) (l : f ≼ g) where
  pub bottom_rises : (ends (root f)).bottom ≤ (ends (root g)).bottom
  bottom_rises = (bottom_is k).greatest (ends (root f)).bottom (≼_trans (bottom_is h).within (times_rises (10 ^ 16) l))

  pub top_rises : (ends (root f)).top ≤ (ends (root g)).top
  top_rises = (top_is h).least (ends (root g)).top (≼_trans (times_rises (10 ^ 16) l) (top_is k).reaches)

pub lesser_has_lesser_ends : LesserHasLesserEnds
lesser_has_lesser_ends f g h k = record {
  bottom = ordered f g (λ l. rw (lesser_first l) (omega (arith, bottom_rises h k l))) (λ l. rw (lesser_second l) (omega (arith, bottom_rises k h (≼_of_≺ l))));
  top = ordered f g (λ l. rw (lesser_first l) (omega (arith, top_rises h k l))) (λ l. rw (lesser_second l) (omega (arith, top_rises k h (≼_of_≺ l))));
}

-- ---- the worse of two results
pub worse_first : (f g : Finding) → fourth_of f ≼ fourth_of g → worse_of f g ≡ f
unfolding worse_of
worse_first f g l = rw (test_passes l) refl

pub worse_second : (f g : Finding) → fourth_of g ≺ fourth_of f → worse_of f g ≡ g
unfolding worse_of
worse_second f g l = rw (test_fails l) refl

-- what holds of both holds of the worse
pub worse_either : (P : Finding → Type 0) (f g : Finding) → P f → P g → P (worse_of f g)
unfolding worse_of
worse_either P f g p q = picked P (fourth_of f ≼? fourth_of g) f g (λ e. p) (λ e. q)

pub worse_exact : (f g : Finding) → fourth_of (worse_of f g) ≡ lesser (fourth_of f) (fourth_of g)
worse_exact f g =
    ordered (fourth_of f) (fourth_of g)
    (λ l. ap fourth_of (worse_first f g l) ∙ sym (lesser_first l))
    (λ l. ap fourth_of (worse_second f g l) ∙ sym (lesser_second l))

-- kind 5 has its survival from what was found
five_found : (f : Finding) → survival_of 5 f ≡ marked (ends (root (fourth_of f))) (found_marks f.lever f.range f.heel f.opening)
five_found f = as_found 5 f (λ e. omega arith)

five_root : (f : Finding) → factor_of 5 f ≡ root (fourth_of f)
unfolding factor_of
five_root f = refl

module _ (f g : Finding) where
  both : LesserEnds (fourth_of f) (fourth_of g)
  both = lesser_has_lesser_ends (fourth_of f) (fourth_of g) (fourth_sensible f) (fourth_sensible g)

  lower_counts : LowerCounts f g
  lower_counts = record {
    bottom = rw (five_found f, five_found g, five_found (worse_of f g), worse_exact f g) both.bottom;
    top = rw (five_found f, five_found g, five_found (worse_of f g), worse_exact f g) both.top;
    exact = worse_exact f g;
    first = λ l. rw (worse_first f g l) (ap (λ s. s.marks) (five_found f));
    second = λ l. rw (worse_second f g l) (ap (λ s. s.marks) (five_found g));
    first_whole = λ l. ap (survival_of 5) (worse_first f g l);
    second_whole = λ l. ap (survival_of 5) (worse_second f g l);
  }

-- ---- the result that counts
pub counts_worse : (fs : List Finding) (j : ℕ) → counts_at 5 fs j ≡ worse_of (get_or fs j nothing) (get_or fs (3 + j) nothing)
unfolding counts_at
counts_worse fs j = refl

-- with a set of three in front of the second
pub counts_of_two : (first second : List Finding) (j : ℕ) → length first ≡ 3 → j < 3 → counts_at 5 (first ++ second) j ≡ worse_of (get_or first j nothing) (get_or second j nothing)
counts_of_two first second j n l =
    let front = get_or-append first second nothing j (omega arith) in
    let behind : get_or (first ++ second) (3 + j) nothing ≡ get_or second j nothing = rw (← n) (get_or-append-add first second j nothing) in
    counts_worse (first ++ second) j ∙ ap₂ worse_of front behind

pub counts_alone : (kind : ℕ) (fs : List Finding) (j : ℕ) → (kind ≡ 5 → ⊥) → counts_at kind fs j ≡ get_or fs j nothing
unfolding counts_at
counts_alone kind fs j n = rw (ne_eqb kind 5 n) refl

-- what holds of both results at a draught holds of the one that counts
pub counts_either : (P : Finding → Type 0) (kind : ℕ) (fs : List Finding) (j : ℕ) → P (get_or fs j nothing) → P (get_or fs (3 + j) nothing) → P (counts_at kind fs j)
unfolding counts_at
counts_either P kind fs j p q =
    picked P (eqb kind 5) (worse_of (get_or fs j nothing) (get_or fs (3 + j) nothing)) (get_or fs j nothing)
    (λ e. worse_either P (get_or fs j nothing) (get_or fs (3 + j) nothing) p q) (λ e. p)

-- ---- at each of the three draughts
pub survivals_at : (kind : ℕ) (rs : Results) (j : ℕ) → j < 3 → get_or (survivals_of kind rs) j no_survival ≡ survival_at kind rs j
unfolding survivals_of
survivals_at kind rs zero l = refl
survivals_at kind rs (suc zero) l = refl
survivals_at kind rs (suc (suc zero)) l = refl
survivals_at kind rs (suc (suc (suc j))) l = absurd (omega arith)

pub factors_at : (kind : ℕ) (rs : Results) (j : ℕ) → j < 3 → get_or (factors_of kind rs) j (given 0) ≡ factor_at kind rs j
unfolding factors_of
factors_at kind rs zero l = refl
factors_at kind rs (suc zero) l = refl
factors_at kind rs (suc (suc zero)) l = refl
factors_at kind rs (suc (suc (suc j))) l = absurd (omega arith)

-- a cargo ship's row has its findings alone
module _ (kind : ℕ) (rs : Results) (j : ℕ) (n : kind ≡ 7 → ⊥) where
  pub cargo_survival : survival_at kind rs j ≡ survival_of kind (counts_at kind rs.findings j)
  unfolding survival_at
  cargo_survival = rw (ne_eqb kind 7 n) refl

  pub cargo_factor : factor_at kind rs j ≡ factor_of kind (counts_at kind rs.findings j)
  unfolding factor_at
  cargo_factor = rw (ne_eqb kind 7 n) refl

module _ (rs : Results) (j : ℕ) (l : j < 3) where
  abbrev first : Finding
  first = get_or rs.findings j nothing

  abbrev second : Finding
  second = get_or rs.findings (3 + j) nothing

  five_not_seven : ◌≡◌ {A = ℕ} 5 7 → ⊥
  five_not_seven e = omega arith

  two : LowerCounts first second
  two = lower_counts first second

  worse_there : get_or (survivals_of 5 rs) j no_survival ≡ survival_of 5 (worse_of first second)
  worse_there = survivals_at 5 rs j l ∙ cargo_survival 5 rs j five_not_seven ∙ ap (survival_of 5) (counts_worse rs.findings j)

  row_counts : RowCounts rs j
  row_counts = record {
    worse = worse_there;
    bottom = ap (λ s. s.bottom) worse_there ∙ two.bottom;
    top = ap (λ s. s.top) worse_there ∙ two.top;
    exact = factors_at 5 rs j l ∙ cargo_factor 5 rs j five_not_seven ∙ ap (factor_of 5) (counts_worse rs.findings j) ∙ five_root (worse_of first second) ∙ ap root two.exact;
    alone = λ kind n p. survivals_at kind rs j l ∙ cargo_survival kind rs j p ∙ ap (survival_of kind) (counts_alone kind rs.findings j n);
  }

pub lower_survival_counts : LowerSurvivalCounts
lower_survival_counts = record { results = lower_counts; rows = row_counts }
