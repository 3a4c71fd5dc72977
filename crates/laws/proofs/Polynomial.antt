-- Polynomial facts by computation: `poly2 (λ a b. sq (C 1) a b ∷ [] ⊢ C 4 :* (a :* b) :≤ (a :+ b) :^ 2) tt`. Assumes nothing.
use Prim.Native.Nat.{ℕ, zero, suc, ◌*◌, ◌^◌}
use mathlib.Core.Path.{◌≡◌}
use mathlib.Core.List.{List, [], ◌∷◌, ◌++◌}
use Rattle.laws.specs.Polynomial.{X}
use Rattle.laws.proofs.Claim.{Means, test}
use Rattle.laws.proofs.Certificate.{claim_holds}
use Rattle.laws.proofs.Excess.{Passed, passed}
pub use Rattle.laws.specs.Polynomial.{Expr, C, ◌:+◌, ◌:*◌, ◌:^◌}
pub use Rattle.laws.proofs.Claim.{Fact, ◌:≤◌, ◌:<◌, ◌:=◌, Step, ◌⊲◌, eq, sq, Claim, ◌⊢◌, ◌⊩⟨◌⟩◌}
pub use Rattle.laws.proofs.Certificate.{two_products}

-- a claim in n variables, written as a function of them
abbrev pub Quoted : ℕ → Type 0
Quoted zero = Claim
Quoted (suc n) = Expr → Quoted n

-- the claim itself: its variables are X i, X (i + 1), ..
abbrev pub claim : (n i : ℕ) → Quoted n → Claim
claim zero i q = q
claim (suc n) i q = claim n (suc i) (q (X i))

-- the claim holds of all n numbers that come behind those of ρ
abbrev pub Always : ℕ → List ℕ → Claim → Type 0
Always zero ρ c = Means ρ c
Always (suc n) ρ c = (x : ℕ) → Always n (ρ ++ x ∷ []) c

always : (n : ℕ) (ρ : List ℕ) (c : Claim) → Passed (test c) c → Always n ρ c
always zero ρ c t = claim_holds ρ c (passed (test c) c t)
always (suc n) ρ c t = λ x. always n (ρ ++ x ∷ []) c t

-- THE THEOREM, for n variables; `tt` proves the test, and with `?` in its place the goal shows the coefficients that are too great
pub poly : (n : ℕ) (q : Quoted n) → Passed (test (claim n 0 q)) (claim n 0 q) → Always n [] (claim n 0 q)
poly n q t = always n [] (claim n 0 q) t

pub poly1 : (q : Quoted 1) → Passed (test (claim 1 0 q)) (claim 1 0 q) → Always 1 [] (claim 1 0 q)
poly1 = poly 1

pub poly2 : (q : Quoted 2) → Passed (test (claim 2 0 q)) (claim 2 0 q) → Always 2 [] (claim 2 0 q)
poly2 = poly 2

pub poly3 : (q : Quoted 3) → Passed (test (claim 3 0 q)) (claim 3 0 q) → Always 3 [] (claim 3 0 q)
poly3 = poly 3

pub poly4 : (q : Quoted 4) → Passed (test (claim 4 0 q)) (claim 4 0 q) → Always 4 [] (claim 4 0 q)
poly4 = poly 4

pub poly5 : (q : Quoted 5) → Passed (test (claim 5 0 q)) (claim 5 0 q) → Always 5 [] (claim 5 0 q)
poly5 = poly 5

pub poly6 : (q : Quoted 6) → Passed (test (claim 6 0 q)) (claim 6 0 q) → Always 6 [] (claim 6 0 q)
poly6 = poly 6

pub poly7 : (q : Quoted 7) → Passed (test (claim 7 0 q)) (claim 7 0 q) → Always 7 [] (claim 7 0 q)
poly7 = poly 7

pub poly8 : (q : Quoted 8) → Passed (test (claim 8 0 q)) (claim 8 0 q) → Always 8 [] (claim 8 0 q)
poly8 = poly 8

pub poly9 : (q : Quoted 9) → Passed (test (claim 9 0 q)) (claim 9 0 q) → Always 9 [] (claim 9 0 q)
poly9 = poly 9

pub poly10 : (q : Quoted 10) → Passed (test (claim 10 0 q)) (claim 10 0 q) → Always 10 [] (claim 10 0 q)
poly10 = poly 10

-- to `omega` a power is an unknown, a product is not
pub pow_two : (n : ℕ) → n ^ 2 ≡ n * n
pow_two = poly1 (λ n. [] ⊢ n :^ 2 := n :* n) tt

pub cube : (n : ℕ) → n ^ 3 ≡ n * n * n
cube = poly1 (λ n. [] ⊢ n :^ 3 := n :* n :* n) tt
