-- A claim whose test passes holds wherever its facts do. Assumes nothing.
use Prim.Native.Nat.{ℕ, suc, ◌+◌, ◌*◌, ◌-◌, ◌≤◌, ◌<◌, zero-le}
use mathlib.Core.Path.{◌≡◌, sym}
use mathlib.Core.List.{List, [], ◌∷◌}
use native.Mathlib.Nat.{le_antisymm, le_of_eq, add-le-add, mul-le-mul_left, le_dest}
use native.Mathlib.Omega.{arith, sub_cases, by_contra}
use lib.Dec.{T}
use Rattle.laws.specs.Polynomial.{◌:+◌, value, normal, under}
use Rattle.laws.proofs.Table.{both_hold}
use Rattle.laws.proofs.Normal.{coefficients_decide}
use Rattle.laws.proofs.Claim.{Fact, ◌:≤◌, ◌:<◌, ◌:=◌, Says, lesser, greater, Step, ◌⊲◌, eq, sq, lows, highs, Given, Claim, ◌⊩⟨◌⟩◌, Follows, Means, equations, left, right, test}

pub two_products : (x y : ℕ) → 2 * (x * y) ≤ x * x + y * y
two_products x y = sub_cases x y (2 * (x * y) ≤ x * x + y * y) (λ h e. rw (← e) (apart (x - y) y)) (λ h e. let (d, f) = le_dest h in rw (← f) (apart' x d))
  where
    apart : (d y : ℕ) → 2 * ((d + y) * y) ≤ (d + y) * (d + y) + y * y
    apart d y = omega arith

    apart' : (x d : ℕ) → 2 * (x * (x + d)) ≤ x * x + (x + d) * (x + d)
    apart' x d = omega arith

fact_ordered : (ρ : List ℕ) (f : Fact) → Says ρ f → value (lesser f) ρ ≤ value (greater f) ρ
fact_ordered ρ (a :≤ b) h = h
fact_ordered ρ (a :< b) h = omega arith
fact_ordered ρ (a := b) h = le_of_eq h

both_ways : (m n a b : ℕ) → a ≡ b → m * a + n * b ≤ m * b + n * a
both_ways m n a b e = rw e (omega arith)

ordered : (ρ : List ℕ) (ss : List Step) → Given ρ ss → value (lows ss) ρ ≤ value (highs ss) ρ
ordered ρ [] g = zero-le
ordered ρ ((m ⊲ f) ∷ ss) g = add-le-add (mul-le-mul_left (value m ρ) (fact_ordered ρ f g.0)) (ordered ρ ss g.1)
ordered ρ (eq m n a b ∷ ss) g = add-le-add (both_ways (value m ρ) (value n ρ) (value a ρ) (value b ρ) g.0) (ordered ρ ss g.1)
ordered ρ (sq m p q ∷ ss) g = add-le-add (mul-le-mul_left (value m ρ) (two_products (value p ρ) (value q ρ))) (ordered ρ ss g)

level : (ρ : List ℕ) (ss : List Step) → T (equations ss) → Given ρ ss → value (highs ss) ρ ≤ value (lows ss) ρ
level ρ [] t g = zero-le
level ρ ((m ⊲ (a :≤ b)) ∷ ss) t g = absurd t
level ρ ((m ⊲ (a :< b)) ∷ ss) t g = absurd t
level ρ ((m ⊲ (a := b)) ∷ ss) t g = add-le-add (mul-le-mul_left (value m ρ) (le_of_eq (sym g.0))) (level ρ ss t g.1)
level ρ (eq m n a b ∷ ss) t g = add-le-add (both_ways (value m ρ) (value n ρ) (value b ρ) (value a ρ) (sym g.0)) (level ρ ss t g.1)
level ρ (sq m p q ∷ ss) t g = absurd t

-- x is not above y where k + 1 times x is not above k + 1 times y with k to spare
divided : (k x y u l : ℕ) → suc k * x + u ≤ suc k * y + k + l → l ≤ u → x ≤ y
divided k x y u l h p = by_contra x y (λ (m : y < x). let n : suc k * suc y ≤ suc k * x = mul-le-mul_left (suc k) m in omega arith)

goal : (ρ : List ℕ) (ss : List Step) (k : ℕ) (g : Fact) → T (under (normal (left (ss ⊩⟨ k ⟩ g))) (normal (right (ss ⊩⟨ k ⟩ g)))) → Given ρ ss →
    value (lesser g) ρ ≤ value (greater g) ρ
goal ρ ss k g t given =
    divided k (value (lesser g) ρ) (value (greater g) ρ) (value (highs ss) ρ) (value (lows ss) ρ)
    (coefficients_decide (left (ss ⊩⟨ k ⟩ g)) (right (ss ⊩⟨ k ⟩ g)) ρ t) (ordered ρ ss given)

cancelled : (x y u l : ℕ) → x + u ≤ y + l → l ≤ u → x ≤ y
cancelled x y u l h p = omega arith

certified : (ρ : List ℕ) (ss : List Step) (k : ℕ) (g : Fact) → T (test (ss ⊩⟨ k ⟩ g)) → Given ρ ss → Says ρ g
certified ρ ss k (a :≤ b) t given = goal ρ ss k (a :≤ b) t given
certified ρ ss k (a :< b) t given = omega (arith, goal ρ ss k (a :< b) t given)
certified ρ ss k (a := b) t given =
    let (flat, both) = both_hold (equations ss) _ t in
    let (one, two) = both_hold (under (normal (a :+ highs ss)) (normal (b :+ lows ss))) _ both in
    le_antisymm
    (cancelled (value a ρ) (value b ρ) _ _ (coefficients_decide (a :+ highs ss) (b :+ lows ss) ρ one) (ordered ρ ss given))
    (cancelled (value b ρ) (value a ρ) _ _ (coefficients_decide (b :+ lows ss) (a :+ highs ss) ρ two) (level ρ ss flat given))

by_one : (ρ : List ℕ) (ss : List Step) (G : Type 0) → (Given ρ ss → G) → Follows ρ ss G
by_one ρ [] G f = f tt
by_one ρ ((m ⊲ h) ∷ ss) G f = λ p. by_one ρ ss G (λ ps. f (p, ps))
by_one ρ (eq m n a b ∷ ss) G f = λ p. by_one ρ ss G (λ ps. f (p, ps))
by_one ρ (sq m p q ∷ ss) G f = by_one ρ ss G f

pub claim_holds : (ρ : List ℕ) (c : Claim) → T (test c) → Means ρ c
claim_holds ρ (ss ⊩⟨ k ⟩ g) t = by_one ρ ss (Says ρ g) (certified ρ ss k g t)
