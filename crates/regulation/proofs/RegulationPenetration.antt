-- Regulation 7-1's C and G of a penetration, 2.6.3, are document 01's. Assumes nothing.
use Prim.Native.Nat.{ℕ, ◌-◌, ◌*◌, ◌≤◌, ◌<◌}
use mathlib.Core.List.{[], ◌∷◌}
use native.Mathlib.Nat.{mul-pos, one-le-pow, mul-le-mul_left, mul-le-mul_right}
use native.Mathlib.Omega.{arith, by_contra}
use lib.Dec.{eqb, lit<}
use Rattle.laws.specs.Polynomial.{Expr, X, C, ◌:*◌, ◌:^◌}
use Rattle.laws.specs.Fraction.{Fraction, ◌over◌, Is, ◌≈◌, ◌⊹◌, ◌⊝◌, ◌⊛◌}
use Rattle.laws.proofs.Choice.{chosen}
use Rattle.laws.proofs.Fraction.{below_across, strictly_below_across, ≈_trans, ⊹-≈, ⊛-≈}
use Rattle.laws.proofs.FractionTerm.{Term, number, ratio, variable, polynomial, parts, first, second, ◌⊹ᵗ◌, ◌⊝ᵗ◌, ◌⊛ᵗ◌, also, agree, quotient}
use Rattle.laws.proofs.FractionRing.{⊛_comm}
use Rattle.laws.proofs.FractionOrder.{lesser_first, lesser_second}
use Rattle.solas.specs.Span
use Rattle.solas.specs.Span.{touch, half}
use Rattle.solas.specs.Penetration
use Rattle.solas.specs.Penetration.{GAt, G3}
use Rattle.regulation.specs.Regulation
use Rattle.regulation.specs.Regulation.{½, b11, b12, J, Jb, J0, G2}
use Rattle.regulation.specs.OfSolas.{UpTo198m, PenetrationsAre01's}
use Rattle.regulation.proofs.RegulationSpans.{:x, :L, J_is, J_≈, Jᵗ, b11ᵗ, b12ᵗ, p1ᵗ, p1_is_p, half_is_half, by_touch}

-- a span that is short against a penetration is in 01's first band
short_span : (x L b B : ℕ) → 0 < B → 2 * b ≤ B → 15 * B * x ≤ b * L → 33 * x ≤ 5 * L
short_span x L b B p h k = by_contra (33 * x) (5 * L) (λ (z : 5 * L < 33 * x). omega (arith, mul-le-mul_left B z, mul-le-mul_right L h))

-- the half of f - g and f together is f less the half of g
half_way : (f g : Fraction) → half (f ⊝ g ⊹ f) ≈ f ⊝ half g
half_way f g = agree {ρ = parts (f ∷ g ∷ [])} ((first ⊝ᵗ second ⊹ᵗ first) ⊛ᵗ number 1 2 tt) (first ⊝ᵗ second ⊛ᵗ number 1 2 tt) tt

-- ---- a span and a penetration; b and B come behind the variables of a span

abbrev :b : Expr
:b = X 2

abbrev :B : Expr
:B = X 3

module _ {Ls : ℕ} {√ : Fraction} (u : UpTo198m Ls √) {x1 x2 : ℕ} (h : x1 ≤ x2) (B b : ℕ) (some : 0 < B) where
  Jb_is : Is (Jb Ls √ x1 x2 B b) b 0 (15 * B)
  unfolding Jb
  Jb_is = also {ρ = b ∷ B ∷ []} (quotient (variable 0) (number 15 1 tt ⊛ᵗ variable 1) (C 15 :* X 1) (C 1) (mul-pos (lit< tt) some) tt) (X 0) (C 0) (C 15 :* X 1) tt

  abbrev Jbᵗ : Term ((x2 - x1) ∷ Ls ∷ b ∷ B ∷ []) (Jb Ls √ x1 x2 B b)
  Jbᵗ = ratio :b (C 15 :* :B) (mul-pos (lit< tt) some) Jb_is

  pub C_≈ : Regulation.C Ls √ x1 x2 B b ≈ Penetration.C B b
  unfolding Regulation.C Penetration.C
  C_≈ =
      agree (number 12 1 tt ⊛ᵗ Jbᵗ ⊛ᵗ ((number 0 1 tt ⊝ᵗ number 45 1 tt) ⊛ᵗ Jbᵗ ⊹ᵗ number 4 1 tt))
      (polynomial (C 16 :* :b :* :B) (C 12 :* :b :^ 2) (C 5 :* :B :^ 2) (mul-pos (lit< tt) (one-le-pow 2 B some))) tt

  -- J, b11 and b12, with b and B behind them
  abbrev j : Term ((x2 - x1) ∷ Ls ∷ b ∷ B ∷ []) (J Ls √ x1 x2)
  j = Jᵗ u h (b ∷ B ∷ [])

  abbrev d11 : Term ((x2 - x1) ∷ Ls ∷ b ∷ B ∷ []) (b11 Ls √)
  d11 = b11ᵗ u h (b ∷ B ∷ [])

  abbrev d12 : Term ((x2 - x1) ∷ Ls ∷ b ∷ B ∷ []) (b12 Ls √)
  d12 = b12ᵗ u h (b ∷ B ∷ [])

  G1ᵗ : Term ((x2 - x1) ∷ Ls ∷ b ∷ B ∷ []) (Regulation.G1 Ls √ x1 x2 B b)
  unfolding Regulation.G1
  G1ᵗ = number 1 2 tt ⊛ᵗ d11 ⊛ᵗ (Jbᵗ ⊛ᵗ Jbᵗ) ⊹ᵗ d12 ⊛ᵗ Jbᵗ

  -- 01's
  G1ᵗ' : Term ((x2 - x1) ∷ Ls ∷ b ∷ B ∷ []) (Penetration.G1 B b)
  unfolding Penetration.G1
  G1ᵗ' = polynomial (C 5500 :* :b :* :B) (C 1089 :* :b :^ 2) (C 7500 :* :B :^ 2) (mul-pos (lit< tt) (one-le-pow 2 B some))

  G3ᵗ : Term ((x2 - x1) ∷ Ls ∷ b ∷ B ∷ []) (G3 B b)
  unfolding G3
  G3ᵗ = polynomial (C 1375 :* :b :^ 2 :* :B) (C 363 :* :b :^ 3) (C 56250 :* :B :^ 3) (mul-pos (lit< tt) (one-le-pow 3 B some))

  xᵗ : Term ((x2 - x1) ∷ Ls ∷ b ∷ B ∷ []) ((x2 - x1) over Ls)
  xᵗ = polynomial (:x) (C 0) (:L) u.some

  pub G1_≈ : Regulation.G1 Ls √ x1 x2 B b ≈ Penetration.G1 B b
  unfolding G1ᵗ G1ᵗ'
  G1_≈ = agree G1ᵗ G1ᵗ' tt

  G1J_≈ : Regulation.G1 Ls √ x1 x2 B b ⊛ J Ls √ x1 x2 ≈ ((x2 - x1) over Ls) ⊛ Penetration.G1 B b
  G1J_≈ = ≈_trans (⊛-≈ G1_≈ (J_≈ u h)) (⊛_comm (Penetration.G1 B b) ((x2 - x1) over Ls))

  -- G2, by what J0 is
  G2ᵗ : Term ((x2 - x1) ∷ Ls ∷ b ∷ B ∷ []) (J0 Ls √ x1 x2 B b) → Term ((x2 - x1) ∷ Ls ∷ b ∷ B ∷ []) (G2 Ls √ x1 x2 B b)
  unfolding G2
  G2ᵗ n =
      (number 0 1 tt ⊝ᵗ number 1 3 tt) ⊛ᵗ d11 ⊛ᵗ (n ⊛ᵗ n ⊛ᵗ n) ⊹ᵗ number 1 2 tt ⊛ᵗ (d11 ⊛ᵗ j ⊝ᵗ d12) ⊛ᵗ (n ⊛ᵗ n) ⊹ᵗ d12 ⊛ᵗ j ⊛ᵗ n

  -- J ≤ Jb: the penetration cuts no damage length short
  uncut : 2 * b ≤ B → 15 * B * (x2 - x1) ≤ b * Ls → G2 Ls √ x1 x2 B b ≈ Span.p Ls (x2 - x1)
  unfolding J0 G2ᵗ p1ᵗ
  uncut k l =
      let n : Is (J0 Ls √ x1 x2 B b) (x2 - x1) 0 Ls = rw (lesser_first (below_across (J_is u h) Jb_is u.some (mul-pos (lit< tt) some) (omega arith))) (J_is u h) in
      ≈_trans (agree (G2ᵗ (ratio :x :L u.some n)) (p1ᵗ u h (b ∷ B ∷ [])) tt) (p1_is_p u h (short_span (x2 - x1) Ls b B some k l))

  -- J > Jb: it does
  cut : b * Ls < 15 * B * (x2 - x1) → G2 Ls √ x1 x2 B b ≈ ((x2 - x1) over Ls) ⊛ Penetration.G1 B b ⊝ G3 B b
  unfolding J0 G2ᵗ xᵗ G1ᵗ' G3ᵗ
  cut l =
      let n : Is (J0 Ls √ x1 x2 B b) b 0 (15 * B) = rw (lesser_second (strictly_below_across Jb_is (J_is u h) (omega arith))) Jb_is in
      agree (G2ᵗ (ratio :b (C 15 :* :B) (mul-pos (lit< tt) some) n)) (xᵗ ⊛ᵗ G1ᵗ' ⊝ᵗ G3ᵗ) tt

  pub G_≈ : 2 * b ≤ B → Regulation.G Ls √ x1 x2 B b ≈ Penetration.G Ls B x1 x2 b
  unfolding Regulation.G Penetration.G touch
  G_≈ k =
      by_touch (eqb x1 0) (eqb x2 Ls) (λ t. GAt t Ls B (x2 - x1) b)
      (chosen (λ g. G2 Ls √ x1 x2 B b ≈ g) (15 * B * (x2 - x1)) (b * Ls) (uncut k) cut)
      (chosen (λ g. ½ ⊛ (G2 Ls √ x1 x2 B b ⊹ Regulation.G1 Ls √ x1 x2 B b ⊛ J Ls √ x1 x2) ≈ g) (15 * B * (x2 - x1)) (b * Ls) (λ l. half_is_half (⊹-≈ (uncut k l) G1J_≈))
      (λ l. ≈_trans (half_is_half (⊹-≈ (cut l) G1J_≈)) (half_way (((x2 - x1) over Ls) ⊛ Penetration.G1 B b) (G3 B b)))) G1_≈

pub penetrations_are_01's : PenetrationsAre01's
penetrations_are_01's Ls √ u x1 x2 B b h p k = record { the_C = C_≈ u h B b p; the_G1 = G1_≈ u h B b p; the_G = G_≈ u h B b p k }
