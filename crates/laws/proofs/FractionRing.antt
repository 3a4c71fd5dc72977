-- Sums and products of fractions in other words: in another order, spread over differences, and mixed by a chance. Assumes nothing.
use Prim.Native.Nat.{ℕ, ◌+◌, ◌-◌, ◌*◌, ◌≤◌, ◌<◌}
use mathlib.Core.List.{[], ◌∷◌}
use native.Mathlib.Omega.{arith}
use lib.Dec.{lit<}
use Rattle.laws.specs.Fraction.{Fraction, whole, Is, ◌≈◌, ◌⊹◌, ◌⊝◌, ◌⊛◌}
use Rattle.laws.proofs.Fraction.{is_one, is_shifted, is_≈, is_⊹, is_⊝, is_⊛}
use Rattle.laws.proofs.FractionTerm.{constant, number, parts, first, second, third, fourth, ◌⊹ᵗ◌, ◌⊝ᵗ◌, ◌⊛ᵗ◌, agree}

pub ⊹_assoc : (f g h : Fraction) → f ⊹ g ⊹ h ≈ f ⊹ (g ⊹ h)
⊹_assoc f g h = agree {ρ = parts (f ∷ g ∷ h ∷ [])} (first ⊹ᵗ second ⊹ᵗ third) (first ⊹ᵗ (second ⊹ᵗ third)) tt

pub ⊹_nothing : (f : Fraction) → f ⊹ whole 0 ≈ f
⊹_nothing f = agree {ρ = parts (f ∷ [])} (first ⊹ᵗ number 0 1 tt) first tt

pub ⊛_comm : (f g : Fraction) → f ⊛ g ≈ g ⊛ f
⊛_comm f g = agree {ρ = parts (f ∷ g ∷ [])} (first ⊛ᵗ second) (second ⊛ᵗ first) tt

pub ⊛_assoc : (f g h : Fraction) → f ⊛ g ⊛ h ≈ f ⊛ (g ⊛ h)
⊛_assoc f g h = agree {ρ = parts (f ∷ g ∷ h ∷ [])} (first ⊛ᵗ second ⊛ᵗ third) (first ⊛ᵗ (second ⊛ᵗ third)) tt

pub ⊛_nothing : (f : Fraction) → f ⊛ whole 0 ≈ whole 0
⊛_nothing f = agree {ρ = parts (f ∷ [])} (first ⊛ᵗ number 0 1 tt) (number 0 1 tt) tt

pub ⊛-⊝ : (f g h : Fraction) → f ⊛ (g ⊝ h) ≈ f ⊛ g ⊝ f ⊛ h
⊛-⊝ f g h = agree {ρ = parts (f ∷ g ∷ h ∷ [])} (first ⊛ᵗ (second ⊝ᵗ third)) (first ⊛ᵗ second ⊝ᵗ first ⊛ᵗ third) tt

-- ---- sums of differences are differences of sums
pub less_crosswise : (e f g h : Fraction) → e ⊝ f ⊝ (g ⊝ h) ≈ e ⊝ g ⊝ (f ⊝ h)
less_crosswise e f g h = agree {ρ = parts (e ∷ f ∷ g ∷ h ∷ [])} (first ⊝ᵗ second ⊝ᵗ (third ⊝ᵗ fourth)) (first ⊝ᵗ third ⊝ᵗ (second ⊝ᵗ fourth)) tt

pub plus_crosswise : (e f g h : Fraction) → e ⊝ f ⊹ (g ⊝ h) ≈ e ⊹ g ⊝ (f ⊹ h)
plus_crosswise e f g h = agree {ρ = parts (e ∷ f ∷ g ∷ h ∷ [])} (first ⊝ᵗ second ⊹ᵗ (third ⊝ᵗ fourth)) (first ⊹ᵗ third ⊝ᵗ (second ⊹ᵗ fourth)) tt

-- ---- g, and f in its place with the chance c
pub is_mixed : {f g c : Fraction} {a b n d e : ℕ} → 0 < d → Is f a 0 e → Is g b 0 e → Is c n 0 d → n ≤ d →
    Is (f ⊛ c ⊹ g ⊛ (whole 1 ⊝ c)) (a * n + b * (d - n)) 0 (e * d)
is_mixed {a = a} {b} {n} {d} p i j k h =
    is_shifted (a * n + b * (d - n)) 0 (omega arith) (is_⊹ (is_⊛ i k) (is_⊛ j (is_shifted (d - n) 0 (omega arith) (is_⊝ (is_one p) k))))

pub mixed_one : (f g : Fraction) {c : Fraction} → c ≈ whole 1 → f ⊛ c ⊹ g ⊛ (whole 1 ⊝ c) ≈ f
mixed_one f g {c} e =
    let k : Is c 1 0 1 = is_≈ e (is_one (lit< tt)) in
    agree {ρ = parts (f ∷ g ∷ [])} (first ⊛ᵗ constant tt k ⊹ᵗ second ⊛ᵗ (number 1 1 tt ⊝ᵗ constant tt k)) first tt
