-- Regulation 7-1's p times r is document 01's Q, and p is above 0 wherever a span has a length. Assumes nothing.
use Prim.Native.Nat.{ℕ, ◌-◌, ◌*◌, ◌≤◌, ◌<◌}
use mathlib.Core.List.{[], ◌∷◌, ◌++◌}
use native.Mathlib.Omega.{arith}
use Rattle.laws.specs.Polynomial.{X}
use Rattle.laws.specs.Fraction.{Fraction, den, whole, ◌≈◌, ◌≺◌, ◌⊹◌, ◌⊝◌, ◌⊛◌, ◌⊘◌}
use Rattle.laws.proofs.Fraction.{positive, is_self, is_≈, is_shifted, ≈_refl, ≈_trans, ⊹-≈, ⊝-≈, ⊛-≈}
use Rattle.laws.proofs.FractionTerm.{Term, number, ratio, parts, first, second, ◌⊹ᵗ◌, ◌⊝ᵗ◌, ◌⊛ᵗ◌, agree, quotient}
use Rattle.laws.proofs.FractionOrder.{above_0, numerator_above_0}
use Rattle.solas.specs.Span.{P}
use Rattle.solas.specs.Penetration.{Q}
use Rattle.solas.proofs.SpanChance.{P_above}
use Rattle.regulation.specs.Regulation
use Rattle.regulation.specs.Regulation.{p, r}
use Rattle.regulation.specs.OfSolas.{UpTo198m, ChancesAre01's}
use Rattle.regulation.proofs.RegulationSpans.{span_p}
use Rattle.regulation.proofs.RegulationPenetration.{C_≈, G_≈}

-- ---- p·r with no division

without_division : (f c g : Fraction) → whole 0 ≺ f → f ⊛ (whole 1 ⊝ (whole 1 ⊝ c) ⊛ (whole 1 ⊝ g ⊘ f)) ≈ f ⊛ c ⊹ g ⊛ (whole 1 ⊝ c)
without_division f c g h =
    let l : f.down < f.up = numerator_above_0 (positive f) (is_self f) h in
    let fᵗ : Term (parts (c ∷ g ∷ []) ++ (f.up - f.down) ∷ den f ∷ []) f = ratio (X 6) (X 7) (positive f) (is_shifted (f.up - f.down) 0 (omega arith) (is_self f)) in
    agree (fᵗ ⊛ᵗ (number 1 1 tt ⊝ᵗ (number 1 1 tt ⊝ᵗ first) ⊛ᵗ (number 1 1 tt ⊝ᵗ quotient second fᵗ (X 6) (X 7) (omega arith) tt)))
    (fᵗ ⊛ᵗ first ⊹ᵗ second ⊛ᵗ (number 1 1 tt ⊝ᵗ first)) tt

module _ {Ls : ℕ} {√ : Fraction} (u : UpTo198m Ls √) {x1 x2 : ℕ} (h : x1 < x2) where
  pub p_above : whole 0 ≺ p Ls √ x1 x2
  p_above =
      let q = is_self (P Ls x1 x2) in
      above_0 (positive (P Ls x1 x2)) (is_≈ (span_p u (omega arith)) q) (numerator_above_0 (positive (P Ls x1 x2)) q (P_above Ls x1 x2 u.some h))

  pub pr_is_Q : (B b : ℕ) → 0 < B → 2 * b ≤ B → p Ls √ x1 x2 ⊛ r Ls √ x1 x2 B b ≈ Q Ls B x1 x2 b
  unfolding r Q
  pr_is_Q B b some k =
      let l : x1 ≤ x2 = omega arith in
      let c = C_≈ u l B b some in
      ≈_trans (without_division (p Ls √ x1 x2) (Regulation.C Ls √ x1 x2 B b) (Regulation.G Ls √ x1 x2 B b) p_above)
      (⊹-≈ (⊛-≈ (span_p u l) c) (⊛-≈ (G_≈ u l B b some k) (⊝-≈ (≈_refl (whole 1)) c)))

pub chances_are_01's : ChancesAre01's
chances_are_01's Ls √ u x1 x2 B b h some k = record { above_0 = p_above u h; the_pr = pr_is_Q u h B b some k }
