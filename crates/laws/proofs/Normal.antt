-- The normal form of a polynomial has the polynomial's value, and so coefficients decide. Assumes nothing.
use Prim.Native.Nat.{ℕ, zero, suc, ◌+◌, ◌*◌, ◌^◌, ◌≤◌}
use mathlib.Core.Path.{◌≡◌, refl, sym, ◌∙◌, subst₂}
use mathlib.Core.List.{List}
use native.Mathlib.Nat.{add-le-add, mul-le-mul_left, pow-zero, pow-succ'}
use native.Mathlib.Omega.{arith}
use lib.Dec.{T, leb→le, eqb→eq}
use Rattle.laws.specs.Polynomial.{Expr, X, C, ◌:+◌, ◌:*◌, ◌:^◌, first, others, place, value, Normal, const, horner, amount, raise, ◌⊕◌, multiple, scaled, deeper, ◌⊗◌, variable, power, normal, vanishes, reaches, under}
use Rattle.laws.proofs.Table.{both_hold}

raise_adds : (k : ℕ) (r : Normal) (ρ : List ℕ) → amount (raise k r) ρ ≡ k + amount r ρ
raise_adds k (const j) ρ = refl
raise_adds k (horner p q) ρ = omega (arith, raise_adds k p (others ρ))

⊕_adds : (r s : Normal) (ρ : List ℕ) → amount (r ⊕ s) ρ ≡ amount r ρ + amount s ρ
⊕_adds (const k) s ρ = raise_adds k s ρ
⊕_adds (horner p q) (const k) ρ = omega (arith, raise_adds k p (others ρ))
⊕_adds (horner p q) (horner p' q') ρ = rw (⊕_adds p p' (others ρ), ⊕_adds q q' ρ) (omega arith)

multiple_multiplies : (k : ℕ) (r : Normal) (ρ : List ℕ) → amount (multiple k r) ρ ≡ k * amount r ρ
multiple_multiplies k (const j) ρ = refl
multiple_multiplies k (horner p q) ρ = rw (multiple_multiplies k p (others ρ), multiple_multiplies k q ρ) (omega arith)

scaled_multiplies : (k : ℕ) (r : Normal) (ρ : List ℕ) → amount (scaled k r) ρ ≡ k * amount r ρ
scaled_multiplies zero r ρ = omega arith
scaled_multiplies (suc k) r ρ = multiple_multiplies (suc k) r ρ

deeper_multiplies : (f : Normal → Normal) (p : Normal) → ((s : Normal) (ρ : List ℕ) → amount (f s) ρ ≡ amount p ρ * amount s ρ) →
    (r : Normal) (ρ : List ℕ) → amount (deeper f r) ρ ≡ amount p (others ρ) * amount r ρ
deeper_multiplies f p h (const zero) ρ = omega arith
deeper_multiplies f p h (const (suc k)) ρ = rw (h (const (suc k)) (others ρ)) (omega arith)
deeper_multiplies f p h (horner p' q') ρ = rw (h p' (others ρ), deeper_multiplies f p h q' ρ) (omega arith)

⊗_multiplies : (r s : Normal) (ρ : List ℕ) → amount (r ⊗ s) ρ ≡ amount r ρ * amount s ρ
⊗_multiplies (const k) s ρ = scaled_multiplies k s ρ
⊗_multiplies (horner p q) s ρ =
    ⊕_adds (deeper (λ t. p ⊗ t) s) (horner (const 0) (q ⊗ s)) ρ
    ∙ rw (deeper_multiplies (λ t. p ⊗ t) p (λ t σ. ⊗_multiplies p t σ) s ρ, ⊗_multiplies q s ρ) (omega arith)

variable_amount : (i : ℕ) (ρ : List ℕ) → amount (variable i) ρ ≡ place i ρ
variable_amount zero ρ = omega arith
variable_amount (suc i) ρ = omega (arith, variable_amount i (others ρ))

power_amount : (r : Normal) (n : ℕ) (ρ : List ℕ) → amount (power r n) ρ ≡ amount r ρ ^ n
power_amount r zero ρ = sym (pow-zero (amount r ρ))
power_amount r (suc n) ρ = ⊗_multiplies r (power r n) ρ ∙ rw (pow-succ' (amount r ρ) n, power_amount r n ρ)

pub normal_amount : (e : Expr) (ρ : List ℕ) → amount (normal e) ρ ≡ value e ρ
normal_amount (X i) ρ = variable_amount i ρ
normal_amount (C k) ρ = refl
normal_amount (a :+ b) ρ = ⊕_adds (normal a) (normal b) ρ ∙ rw (normal_amount a ρ, normal_amount b ρ)
normal_amount (a :* b) ρ = ⊗_multiplies (normal a) (normal b) ρ ∙ rw (normal_amount a ρ, normal_amount b ρ)
normal_amount (a :^ k) ρ = power_amount (normal a) k ρ ∙ rw (normal_amount a ρ)

vanishes_amount : (r : Normal) (ρ : List ℕ) → T (vanishes r) → amount r ρ ≡ 0
vanishes_amount (const k) ρ t = eqb→eq k 0 t
vanishes_amount (horner p q) ρ t =
    let (u, w) = both_hold (vanishes p) (vanishes q) t in
    rw (vanishes_amount p (others ρ) u, vanishes_amount q ρ w) (omega arith)

reaches_amount : (k : ℕ) (s : Normal) (ρ : List ℕ) → T (reaches k s) → k ≤ amount s ρ
reaches_amount k (const j) ρ t = leb→le k j t
reaches_amount k (horner p q) ρ t = omega (arith, reaches_amount k p (others ρ) t)

under_amount : (r s : Normal) (ρ : List ℕ) → T (under r s) → amount r ρ ≤ amount s ρ
under_amount (const k) s ρ t = reaches_amount k s ρ t
under_amount (horner p q) (const k) ρ t =
    let (u, w) = both_hold (under p (const k)) (vanishes q) t in
    rw (vanishes_amount q ρ w) (omega (arith, under_amount p (const k) (others ρ) u))
under_amount (horner p q) (horner p' q') ρ t =
    let (u, w) = both_hold (under p p') (under q q') t in
    add-le-add (under_amount p p' (others ρ) u) (mul-le-mul_left (first ρ) (under_amount q q' ρ w))

-- an inequality between polynomials holds where it holds coefficient by coefficient
pub coefficients_decide : (a b : Expr) (ρ : List ℕ) → T (under (normal a) (normal b)) → value a ρ ≤ value b ρ
coefficients_decide a b ρ t = subst₂ ◌≤◌ (normal_amount a ρ) (normal_amount b ρ) (under_amount (normal a) (normal b) ρ t)
