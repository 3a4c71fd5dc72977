-- Claims on polynomials with a certificate: known facts, each times a multiplier, from which the goal follows by coefficients.
-- Assumes nothing.
use Prim.Native.Nat.{ℕ, suc, ◌≤◌, ◌<◌}
use mathlib.Core.Path.{◌≡◌}
use mathlib.Core.Bool.{Bool, true, false, ◌&&◌}
use mathlib.Core.List.{List, [], ◌∷◌}
use Rattle.laws.specs.Polynomial.{Expr, C, ◌:+◌, ◌:*◌, value, normal, under}

infix 4 ◌:≤◌
infix 4 ◌:<◌
infix 4 ◌:=◌
pub data Fact : Type 0 where
  ◌:≤◌ ◌:<◌ ◌:=◌ : Expr → Expr → Fact

abbrev pub Says : List ℕ → Fact → Type 0
Says ρ (a :≤ b) = value a ρ ≤ value b ρ
Says ρ (a :< b) = value a ρ < value b ρ
Says ρ (a := b) = value a ρ ≡ value b ρ

abbrev pub lesser : Fact → Expr
lesser (a :≤ b) = a
lesser (a :< b) = a :+ C 1
lesser (a := b) = a

abbrev pub greater : Fact → Expr
greater (a :≤ b) = b
greater (a :< b) = b
greater (a := b) = b

infix 3 ◌⊲◌
pub data Step : Type 0 where
  -- `m ⊲ f`: m times the fact f, which is handed over; an equation a := b counts as a ≤ b
  ◌⊲◌ : Expr → Fact → Step
  -- `eq m n a b`: an equation that is handed over, m times as a ≤ b and n times as b ≤ a
  eq : Expr → Expr → Expr → Expr → Step
  -- `sq m p q`: m times 2·p·q ≤ p² + q², for which nothing is handed over
  sq : Expr → Expr → Expr → Step

-- a step is the inequality between its low side and its high side
abbrev pub low : Step → Expr
low (m ⊲ f) = m :* lesser f
low (eq m n a b) = m :* a :+ n :* b
low (sq m p q) = m :* (C 2 :* (p :* q))

abbrev pub high : Step → Expr
high (m ⊲ f) = m :* greater f
high (eq m n a b) = m :* b :+ n :* a
high (sq m p q) = m :* (p :* p :+ q :* q)

abbrev pub lows : List Step → Expr
lows [] = C 0
lows (s ∷ ss) = low s :+ lows ss

abbrev pub highs : List Step → Expr
highs [] = C 0
highs (s ∷ ss) = high s :+ highs ss

-- what is handed over for the steps
abbrev pub Given : List ℕ → List Step → Type 0
Given ρ [] = Unit {0}
Given ρ ((m ⊲ f) ∷ ss) = Says ρ f × Given ρ ss
Given ρ (eq m n a b ∷ ss) = (value a ρ ≡ value b ρ) × Given ρ ss
Given ρ (sq m p q ∷ ss) = Given ρ ss

infix 2 ◌⊢◌
infix 2 ◌⊩⟨◌⟩◌
-- `ss ⊩⟨ k ⟩ g`: the steps give the goal k + 1 times over, with k to spare
pub data Claim : Type 0 where
  ◌⊩⟨◌⟩◌ : List Step → ℕ → Fact → Claim

abbrev pub ◌⊢◌ : List Step → Fact → Claim
ss ⊢ g = ss ⊩⟨ 0 ⟩ g

abbrev pub Follows : List ℕ → List Step → Type 0 → Type 0
Follows ρ [] G = G
Follows ρ ((m ⊲ f) ∷ ss) G = Says ρ f → Follows ρ ss G
Follows ρ (eq m n a b ∷ ss) G = value a ρ ≡ value b ρ → Follows ρ ss G
Follows ρ (sq m p q ∷ ss) G = Follows ρ ss G

-- what a claim says where the variables are ρ
abbrev pub Means : List ℕ → Claim → Type 0
Means ρ (ss ⊩⟨ k ⟩ g) = Follows ρ ss (Says ρ g)

-- an equation follows from equations alone
abbrev pub equations : List Step → Bool
equations [] = true
equations ((m ⊲ (a :≤ b)) ∷ ss) = false
equations ((m ⊲ (a :< b)) ∷ ss) = false
equations ((m ⊲ (a := b)) ∷ ss) = equations ss
equations (eq m n a b ∷ ss) = equations ss
equations (sq m p q ∷ ss) = false

-- the two sides that the test compares
abbrev pub left : Claim → Expr
left (ss ⊩⟨ k ⟩ g) = C (suc k) :* lesser g :+ highs ss

abbrev pub right : Claim → Expr
right (ss ⊩⟨ k ⟩ g) = C (suc k) :* greater g :+ C k :+ lows ss

abbrev pub test : Claim → Bool
test (ss ⊩⟨ k ⟩ (a :≤ b)) = under (normal (left (ss ⊩⟨ k ⟩ a :≤ b))) (normal (right (ss ⊩⟨ k ⟩ a :≤ b)))
test (ss ⊩⟨ k ⟩ (a :< b)) = under (normal (left (ss ⊩⟨ k ⟩ a :< b))) (normal (right (ss ⊩⟨ k ⟩ a :< b)))
test (ss ⊩⟨ k ⟩ (a := b)) = equations ss && (under (normal (a :+ highs ss)) (normal (b :+ lows ss)) && under (normal (b :+ lows ss)) (normal (a :+ highs ss)))
