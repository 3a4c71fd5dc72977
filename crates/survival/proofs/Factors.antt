-- Multiples of a fraction that is at most one, and survivals kind by kind, with a dry opening and with an immersed one. Assumes nothing.
use Prim.Native.Nat.{ℕ, ◌*◌, ◌/◌, ◌^◌, ◌≤◌, ◌<◌}
use mathlib.Core.Bool.{Bool, true, false, cond}
use mathlib.Core.Path.{◌≡◌, refl, ap, ap₂, ◌∙◌}
use native.Mathlib.Nat.{div-le_of_le-mul, mul-le-mul_left}
use native.Mathlib.Omega.{arith}
use lib.Dec.{eqb, lit<}
use lib.IntN.{ℤ}
use borrow.Author.Tests.{eq-eqb, ne_eqb}
use Rattle.laws.specs.Fraction.{Fraction, whole}
use Rattle.laws.specs.Rounding.{ceil}
use Rattle.laws.proofs.Fraction.{is_whole, below}
use Rattle.laws.proofs.Rounding.{ceil_least}
use Rattle.records.specs.declared.Finding.{Finding}
use Rattle.records.specs.declared.Marks.{Marks}
use Rattle.records.specs.declared.Rounded.{Rounded}
use Rattle.records.specs.declared.Survival.{Survival}
use Rattle.solas.specs.Survival.{s⁴, immersed, unless_immersed}
use Rattle.solas.proofs.Survival.{s⁴_not_negative, s⁴_at_most_one, lost_if_immersed, kept_if_dry, either_way}
use Rattle.numbers.specs.Ratio.{ratio_of}
use Rattle.survival.specs.Marks.{found_marks, unmarked, marks_of}
use Rattle.survival.specs.Survival.{root, given, fourth_of, no_survival, Sensible, factor_of, rounded_of, marked, survival_of}
use Rattle.survival.specs.declared.Multiple.{Multiple}
use Rattle.survival.proofs.Values.{none}

-- ---- s times n/d is at most s where n/d is at most one
module _ (s : ℕ) {n d : ℕ} (hd : 0 < d) (h : n ≤ d) where
  pub times_down : s * n / d ≤ s
  times_down = div-le_of_le-mul d (omega (arith, mul-le-mul_left s h))

  pub times_up : ceil (s * n) d ≤ s
  times_up = (ceil_least (s * n) d s hd).1 (mul-le-mul_left s h)

pub same_multiple : {a b c d : ℕ} → a ≡ c → b ≡ d → ◌≡◌ {A = Multiple} (record { down = a; up = b }) (record { down = c; up = d })
same_multiple p q = cc

pub same_rounded : {a b c d : ℕ} → a ≡ c → b ≡ d → ◌≡◌ {A = Rounded} (record { bottom = a; top = b }) (record { bottom = c; top = d })
same_rounded p q = cc

-- ---- the default marks and survival, as the code has them
none_marked : {a b c d : Bool} → a ≡ false → b ≡ false → c ≡ false → d ≡ false → record { lever = a; range = b; heel = c; opening = d } ≡ unmarked
none_marked p q r s = cc

pub default_marks : (m : Marks) → (m.lever ≡ false) × ((m.range ≡ false) × ((m.heel ≡ false) × (m.opening ≡ false))) → m ≡ unmarked
default_marks m h = none_marked h.0 h.1.0 h.1.1.0 h.1.1.1

pub default_survival : (s : Survival) → (s.bottom ≡ 0) × ((s.top ≡ 0) × ((s.marks.lever ≡ false) × ((s.marks.range ≡ false) × ((s.marks.heel ≡ false) × (s.marks.opening ≡ false))))) → s ≡ no_survival
default_survival s h = ap₂ marked (same_rounded h.0 h.1.0) (default_marks s.marks h.1.1)

-- ---- kind by kind
pub as_given : (kind : ℕ) (f : Finding) → kind ≡ 3 → survival_of kind f ≡ record { bottom = f.given; top = f.given; marks = unmarked }
unfolding survival_of factor_of marks_of
as_given kind f e = rw (eq-eqb kind 3 e) refl

pub as_found : (kind : ℕ) (f : Finding) → (kind ≡ 3 → ⊥) →
    survival_of kind f ≡ marked (rounded_of (ratio_of (fourth_of f))) (found_marks f.lever f.range f.heel f.opening)
unfolding survival_of factor_of marks_of
as_found kind f n = rw (ne_eqb kind 3 n) refl

-- ---- with an opening o, whatever s⁴ is
module _ (o : ℤ) (f : Fraction) where
  pub lost_roots : immersed o ≡ true → rounded_of (ratio_of (unless_immersed o f)) ≡ record { bottom = 0; top = 0 }
  lost_roots i = ap (λ g. rounded_of (ratio_of g)) (lost_if_immersed o f i) ∙ none

  pub dry_roots : immersed o ≡ false → rounded_of (ratio_of (unless_immersed o f)) ≡ rounded_of (ratio_of f)
  dry_roots i = ap (λ g. rounded_of (ratio_of g)) (kept_if_dry o f i)

pub as_lost : (kind : ℕ) (f : Finding) → (kind ≡ 3 → ⊥) → immersed f.opening ≡ true →
    survival_of kind f ≡ marked (record { bottom = 0; top = 0 }) (found_marks f.lever f.range f.heel f.opening)
as_lost kind f n i = as_found kind f n ∙ ap (λ r. marked r (found_marks f.lever f.range f.heel f.opening)) (lost_roots f.opening (s⁴ f.lever f.range f.heel) i)

pub as_dry : (kind : ℕ) (f : Finding) → (kind ≡ 3 → ⊥) → immersed f.opening ≡ false →
    survival_of kind f ≡ marked (rounded_of (ratio_of (s⁴ f.lever f.range f.heel))) (found_marks f.lever f.range f.heel f.opening)
as_dry kind f n i = as_found kind f n ∙ ap (λ r. marked r (found_marks f.lever f.range f.heel f.opening)) (dry_roots f.opening (s⁴ f.lever f.range f.heel) i)

-- nothing is from 0 to 1, and so is what was found, and what is given
pub nothing_sensible : Sensible (root (whole 0))
nothing_sensible = (below {d = 1} (lit< tt) (is_whole 0 (lit< tt)) (is_whole 0 (lit< tt)) (omega arith), below {d = 1} (lit< tt) (is_whole 0 (lit< tt)) (is_whole 1 (lit< tt)) (omega arith))

pub fourth_sensible : (f : Finding) → Sensible (root (fourth_of f))
fourth_sensible f =
    either_way f.opening (s⁴ f.lever f.range f.heel) (λ x. Sensible (root x)) nothing_sensible
    (s⁴_not_negative f.lever f.range f.heel, s⁴_at_most_one f.lever f.range f.heel)

pub found_sensible : (kind : ℕ) (f : Finding) → f.given ≤ 10 ^ 4 → Sensible (factor_of kind f)
unfolding factor_of
found_sensible kind f h = chosen (eqb kind 3)
  where
    chosen : (b : Bool) → Sensible (cond b (given f.given) (root (fourth_of f)))
    chosen true = h
    chosen false = fourth_sensible f
