-- Polynomials over ℕ as they are written, and the normal form in which they are compared coefficient by coefficient. Assumes nothing.
use Rattle.std.specs.Prelude.{ℕ, zero, suc, ◌+◌, ◌*◌, ◌^◌, Bool, ◌&&◌, List, [], ◌∷◌, leb, eqb}

infixl 6 ◌:+◌
infixl 7 ◌:*◌
infixr 8 ◌:^◌
-- X i is the variable of place i, C k the number k
pub data Expr : Type 0 where
  X C : ℕ → Expr
  ◌:+◌ ◌:*◌ : Expr → Expr → Expr
  ◌:^◌ : Expr → ℕ → Expr

abbrev pub first : List ℕ → ℕ
first [] = 0
first (x ∷ ρ) = x

abbrev pub others : List ℕ → List ℕ
others [] = []
others (x ∷ ρ) = ρ

abbrev pub place : ℕ → List ℕ → ℕ
place zero ρ = first ρ
place (suc i) ρ = place i (others ρ)

-- what an expression comes to where the variables are ρ
abbrev pub value : Expr → List ℕ → ℕ
value (X i) ρ = place i ρ
value (C k) ρ = k
value (a :+ b) ρ = value a ρ + value b ρ
value (a :* b) ρ = value a ρ * value b ρ
value (a :^ k) ρ = value a ρ ^ k

-- `horner p q` is p + x·q, where x is the first variable, and p is over the other variables
pub data Normal : Type 0 where
  const : ℕ → Normal
  horner : Normal → Normal → Normal

abbrev pub amount : Normal → List ℕ → ℕ
amount (const k) ρ = k
amount (horner p q) ρ = amount p (others ρ) + first ρ * amount q ρ

abbrev pub raise : ℕ → Normal → Normal
raise k (const j) = const (k + j)
raise k (horner p q) = horner (raise k p) q

infixl 6 ◌⊕◌
abbrev pub ◌⊕◌ : Normal → Normal → Normal
const k ⊕ s = raise k s
horner p q ⊕ const k = horner (raise k p) q
horner p q ⊕ horner p' q' = horner (p ⊕ p') (q ⊕ q')

abbrev pub multiple : ℕ → Normal → Normal
multiple k (const j) = const (k * j)
multiple k (horner p q) = horner (multiple k p) (multiple k q)

-- nothing is walked for a factor of zero
abbrev pub scaled : ℕ → Normal → Normal
scaled zero s = const 0
scaled (suc k) s = multiple (suc k) s

-- times a polynomial over the other variables, by which f multiplies; a coefficient of zero stays one number
abbrev pub deeper : (Normal → Normal) → Normal → Normal
deeper f (const zero) = const 0
deeper f (const (suc k)) = horner (f (const (suc k))) (const 0)
deeper f (horner p q) = horner (f p) (deeper f q)

infixl 7 ◌⊗◌
abbrev pub ◌⊗◌ : Normal → Normal → Normal
const k ⊗ s = scaled k s
horner p q ⊗ s = deeper (λ t. p ⊗ t) s ⊕ horner (const 0) (q ⊗ s)

abbrev pub variable : ℕ → Normal
variable zero = horner (const 0) (const 1)
variable (suc i) = horner (variable i) (const 0)

abbrev pub power : Normal → ℕ → Normal
power r zero = const 1
power r (suc n) = r ⊗ power r n

abbrev pub normal : Expr → Normal
normal (X i) = variable i
normal (C k) = const k
normal (a :+ b) = normal a ⊕ normal b
normal (a :* b) = normal a ⊗ normal b
normal (a :^ k) = power (normal a) k

abbrev pub vanishes : Normal → Bool
vanishes (const k) = eqb k 0
vanishes (horner p q) = vanishes p && vanishes q

abbrev pub reaches : ℕ → Normal → Bool
reaches k (const j) = leb k j
reaches k (horner p q) = reaches k p

-- each coefficient of the first is at most that of the second
abbrev pub under : Normal → Normal → Bool
under (const k) s = reaches k s
under (horner p q) (const k) = under p (const k) && vanishes q
under (horner p q) (horner p' q') = under p p' && under q q'
