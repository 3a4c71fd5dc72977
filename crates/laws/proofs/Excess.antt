-- What a claim that is refused shows: each monomial whose coefficient is too great. Assumes nothing.
use Prim.Native.Nat.{ℕ, suc}
use mathlib.Core.Bool.{Bool, true, false}
use mathlib.Core.List.{List, [], ◌∷◌, ◌++◌}
use lib.Dec.{T, leb}
use Rattle.laws.specs.Polynomial.{Expr, ◌:+◌, Normal, const, horner, normal}
use Rattle.laws.proofs.Claim.{◌:≤◌, ◌:<◌, ◌:=◌, lows, highs, Claim, ◌⊩⟨◌⟩◌, left, right}

-- `over es a b`: of the monomial with the exponents es the left side has a, and the right side b, which is less
pub data Excess : Type 0 where
  over : List ℕ → ℕ → ℕ → Excess

pub data Refused : List Excess → Type 0 where

abbrev pub unless : Bool → Excess → List Excess
unless true x = []
unless false x = x ∷ []

-- es are the exponents of the variables that are passed, e that of the present one
abbrev pub number_excess : List ℕ → ℕ → ℕ → Normal → List Excess
number_excess es e a (const b) = unless (leb a b) (over (es ++ e ∷ []) a b)
number_excess es e a (horner p q) = number_excess (es ++ e ∷ []) 0 a p

abbrev pub excess : List ℕ → ℕ → Normal → Normal → List Excess
excess es e (const a) s = number_excess es e a s
excess es e (horner p q) (const b) = excess (es ++ e ∷ []) 0 p (const b) ++ excess es (suc e) q (const 0)
excess es e (horner p q) (horner p' q') = excess (es ++ e ∷ []) 0 p p' ++ excess es (suc e) q q'

abbrev pub between : Expr → Expr → List Excess
between a b = excess [] 0 (normal a) (normal b)

abbrev pub report : Claim → List Excess
report (ss ⊩⟨ k ⟩ (a :≤ b)) = between (left (ss ⊩⟨ k ⟩ a :≤ b)) (right (ss ⊩⟨ k ⟩ a :≤ b))
report (ss ⊩⟨ k ⟩ (a :< b)) = between (left (ss ⊩⟨ k ⟩ a :< b)) (right (ss ⊩⟨ k ⟩ a :< b))
report (ss ⊩⟨ k ⟩ (a := b)) = between (a :+ highs ss) (b :+ lows ss) ++ between (b :+ lows ss) (a :+ highs ss)

abbrev pub Passed : Bool → Claim → Type 0
Passed true c = Unit {0}
Passed false c = Refused (report c)

pub passed : (b : Bool) (c : Claim) → Passed b c → T b
passed true c t = tt
passed false c t = elim t [ ]
