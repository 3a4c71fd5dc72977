-- Fractions whose parts are polynomials in some numbers: what sums, products and quotients come to, and which are equal, by computation.
-- Assumes nothing.
use Prim.Native.Nat.{ℕ, ◌<◌}
use mathlib.Core.List.{List, [], ◌∷◌}
use native.Mathlib.Nat.{mul-pos}
use lib.Dec.{T, ltb, lit<}
use Rattle.laws.specs.Polynomial.{Expr, X, C, ◌:+◌, ◌:*◌, place, value}
use Rattle.laws.specs.Fraction.{Fraction, den, ◌less◌over◌, ◌over◌, whole, Is, ◌≈◌, ◌⊹◌, ◌⊝◌, ◌⊛◌, ◌⊘◌}
use Rattle.laws.proofs.Claim.{Claim, ◌:=◌, ◌⊢◌, test}
use Rattle.laws.proofs.Certificate.{claim_holds}
use Rattle.laws.proofs.Excess.{Passed, passed}
use Rattle.laws.proofs.Fraction.{positive, is_over, is_less_over, is_self, is_widened, is_widened_behind, is_recast, is_⊹, is_⊝, is_⊛, is_⊘, same}

infixl 6 ◌⊹ᵗ◌
infixl 6 ◌⊝ᵗ◌
infixl 7 ◌⊛ᵗ◌
-- f is (plus - minus)/under, where the variables are ρ
pub record Term (ρ : List ℕ) (f : Fraction) : Type 0 where
  pub plus : Expr
  pub minus : Expr
  pub under : Expr
  pub positive : 0 < value under ρ
  pub is : Is f (value plus ρ) (value minus ρ) (value under ρ)

-- ---- what stands for itself

-- known to be (a - b)/d
abbrev pub constant : {ρ : List ℕ} {f : Fraction} {a b d : ℕ} → T (ltb 0 d) → Is f a b d → Term ρ f
constant {a} {b} {d} p h = record { plus = C a; minus = C b; under = C d; positive = lit< p; is = h }

-- written as n/d
abbrev pub number : {ρ : List ℕ} (n d : ℕ) → T (ltb 0 d) → Term ρ (n over d)
number n d p = constant p (is_over n (lit< p))

-- known to be a quotient of polynomials
abbrev pub ratio : {ρ : List ℕ} {f : Fraction} (a d : Expr) → 0 < value d ρ → Is f (value a ρ) 0 (value d ρ) → Term ρ f
ratio a d p h = record { plus = a; minus = C 0; under = d; positive = p; is = h }

-- the variable of place i, as a whole number
abbrev pub variable : {ρ : List ℕ} (i : ℕ) → Term ρ (whole (place i ρ))
variable {ρ} i = ratio (X i) (C 1) (lit< tt) (is_over (place i ρ) (lit< tt))

-- written as a difference of polynomials over another
abbrev pub polynomial : {ρ : List ℕ} (a b d : Expr) → 0 < value d ρ → Term ρ (value a ρ less value b ρ over value d ρ)
polynomial {ρ} a b d p = record { plus = a; minus = b; under = d; positive = p; is = is_less_over (value a ρ) (value b ρ) p }

-- the parts of some fractions, as numbers
abbrev pub parts : List Fraction → List ℕ
parts [] = []
parts (f ∷ fs) = f.up ∷ f.down ∷ den f ∷ parts fs

-- fractions that are not looked into: their parts are the first variables
abbrev pub first : {ρ : List ℕ} {f : Fraction} → Term (f.up ∷ f.down ∷ den f ∷ ρ) f
first {f} = record { plus = X 0; minus = X 1; under = X 2; positive = positive f; is = is_self f }

abbrev pub second : {a b c : ℕ} {ρ : List ℕ} {f : Fraction} → Term (a ∷ b ∷ c ∷ f.up ∷ f.down ∷ den f ∷ ρ) f
second {f} = record { plus = X 3; minus = X 4; under = X 5; positive = positive f; is = is_self f }

abbrev pub third : {a b c a' b' c' : ℕ} {ρ : List ℕ} {f : Fraction} → Term (a ∷ b ∷ c ∷ a' ∷ b' ∷ c' ∷ f.up ∷ f.down ∷ den f ∷ ρ) f
third {f} = record { plus = X 6; minus = X 7; under = X 8; positive = positive f; is = is_self f }

abbrev pub fourth : {a b c a' b' c' a'' b'' c'' : ℕ} {ρ : List ℕ} {f : Fraction} → Term (a ∷ b ∷ c ∷ a' ∷ b' ∷ c' ∷ a'' ∷ b'' ∷ c'' ∷ f.up ∷ f.down ∷ den f ∷ ρ) f
fourth {f} = record { plus = X 9; minus = X 10; under = X 11; positive = positive f; is = is_self f }

-- ---- sums, differences, products

abbrev pub ◌⊹ᵗ◌ : {ρ : List ℕ} {f g : Fraction} → Term ρ f → Term ρ g → Term ρ (f ⊹ g)
◌⊹ᵗ◌ {ρ} s t = record {
  plus = t.under :* s.plus :+ s.under :* t.plus;
  minus = t.under :* s.minus :+ s.under :* t.minus;
  under = t.under :* s.under;
  positive = mul-pos t.positive s.positive;
  is = is_⊹ (is_widened (value t.under ρ) s.is) (is_widened_behind (value s.under ρ) t.is);
}

abbrev pub ◌⊝ᵗ◌ : {ρ : List ℕ} {f g : Fraction} → Term ρ f → Term ρ g → Term ρ (f ⊝ g)
◌⊝ᵗ◌ {ρ} s t = record {
  plus = t.under :* s.plus :+ s.under :* t.minus;
  minus = t.under :* s.minus :+ s.under :* t.plus;
  under = t.under :* s.under;
  positive = mul-pos t.positive s.positive;
  is = is_⊝ (is_widened (value t.under ρ) s.is) (is_widened_behind (value s.under ρ) t.is);
}

abbrev pub ◌⊛ᵗ◌ : {ρ : List ℕ} {f g : Fraction} → Term ρ f → Term ρ g → Term ρ (f ⊛ g)
◌⊛ᵗ◌ s t = record {
  plus = s.plus :* t.plus :+ s.minus :* t.minus;
  minus = s.plus :* t.minus :+ s.minus :* t.plus;
  under = s.under :* t.under;
  positive = mul-pos s.positive t.positive;
  is = is_⊛ s.is t.is;
}

-- ---- equal terms, and quotients

-- f is (a - b)/d too
abbrev crossed : {ρ : List ℕ} {f : Fraction} → Term ρ f → Expr → Expr → Expr → Claim
crossed t a b d = [] ⊢ t.plus :* d :+ b :* t.under := a :* t.under :+ t.minus :* d

abbrev pub Also : {ρ : List ℕ} {f : Fraction} → Term ρ f → Expr → Expr → Expr → Type 0
Also t a b d = Passed (test (crossed t a b d)) (crossed t a b d)

pub also : {ρ : List ℕ} {f : Fraction} (t : Term ρ f) (a b d : Expr) → Also t a b d → Is f (value a ρ) (value b ρ) (value d ρ)
also {ρ} t a b d h =
    is_recast (value a ρ) (value b ρ) (value d ρ) t.positive (claim_holds ρ (crossed t a b d) (passed (test (crossed t a b d)) (crossed t a b d) h)) t.is

pub agree : {ρ : List ℕ} {f g : Fraction} (s : Term ρ f) (t : Term ρ g) → Also s t.plus t.minus t.under → f ≈ g
agree s t h = same t.positive (also s t.plus t.minus t.under h) t.is

-- f divided by a g that is c/e and above 0
abbrev pub quotient : {ρ : List ℕ} {f g : Fraction} → Term ρ f → (t : Term ρ g) (c e : Expr) → 0 < value c ρ → Also t c (C 0) e → Term ρ (f ⊘ g)
quotient s t c e p h = record {
  plus = s.plus :* e;
  minus = s.minus :* e;
  under = s.under :* c;
  positive = mul-pos s.positive p;
  is = is_⊘ p s.is (also t c (C 0) e h);
}

-- the same where c/e is a number
abbrev pub quotient_by : {ρ : List ℕ} {f g : Fraction} → Term ρ f → (t : Term ρ g) (c e : ℕ) → T (ltb 0 c) → Also t (C c) (C 0) (C e) → Term ρ (f ⊘ g)
quotient_by s t c e p h = quotient s t (C c) (C e) (lit< p) h
