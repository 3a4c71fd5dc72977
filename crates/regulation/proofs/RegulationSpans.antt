-- Regulation 7-1's p of a span, 2.6.2, is document 01's p and P. Assumes nothing.
use Prim.Native.Nat.{ℕ, ◌+◌, ◌-◌, ◌*◌, ◌^◌, ◌≤◌, ◌<◌}
use mathlib.Core.List.{List, [], ◌∷◌}
use mathlib.Core.Bool.{Bool, true, false, cond, ◌&&◌, ◌||◌}
use native.Mathlib.Nat.{mul-pos, one-le-pow}
use native.Mathlib.Omega.{arith}
use lib.Dec.{eqb, lit<}
use borrow.Author.Tests.{le-leb}
use Rattle.laws.specs.Polynomial.{Expr, X, C, ◌:+◌, ◌:*◌, ◌:^◌}
use Rattle.laws.specs.Fraction.{Fraction, ◌less◌over◌, ◌over◌, whole, Is, ◌≈◌, ◌⊛◌}
use Rattle.laws.proofs.Choice.{chosen}
use Rattle.laws.proofs.Fraction.{is_over, is_shifted, same, below_across, strictly_below_across, ≈_refl, ≈_trans, ⊹-≈, ⊛-≈}
use Rattle.laws.proofs.FractionTerm.{Term, constant, number, ratio, variable, polynomial, ◌⊹ᵗ◌, ◌⊝ᵗ◌, ◌⊛ᵗ◌, also, agree, quotient}
use Rattle.laws.proofs.FractionRing.{⊛_comm}
use Rattle.laws.proofs.FractionOrder.{test_passes, test_fails, lesser_first, lesser_second}
use Rattle.solas.specs.Span
use Rattle.solas.specs.Span.{Touch, neither, one, both, touch, half, PAt, P}
use Rattle.regulation.specs.Regulation.{½, Jk, b11, b12, b21, b22, J, Jn, p1, p2, p1or2, p}
use Rattle.regulation.specs.OfSolas.{UpTo198m, SpansAre01's}
use Rattle.regulation.proofs.RegulationConstants.{Jm_is, Jk_is, b11_is, b12_is, b21_is, b22_is}

-- ---- 002's order of the ends and 01's

pub half_is_half : {f g : Fraction} → f ≈ g → ½ ⊛ f ≈ half g
half_is_half {f} e = ≈_trans (⊛_comm ½ f) (⊛-≈ e (≈_refl ½))

pub by_touch : (a f : Bool) (F : Touch → Fraction) {N O E : Fraction} → N ≈ F neither → O ≈ F one → E ≈ F both →
    cond (a && f) E (cond (a || f) O N) ≈ F (cond a (cond f both one) (cond f one neither))
by_touch true true F n o e = e
by_touch true false F n o e = o
by_touch false true F n o e = o
by_touch false false F n o e = n

-- ---- a span; among the variables of its terms its length comes first, then the ship's, then what a caller adds

abbrev pub :x : Expr
:x = X 0

abbrev pub :L : Expr
:L = X 1

module _ {Ls : ℕ} {√ : Fraction} (u : UpTo198m Ls √) {x1 x2 : ℕ} (h : x1 ≤ x2) where
  pub J_is : Is (J Ls √ x1 x2) (x2 - x1) 0 Ls
  unfolding J
  J_is =
      is_shifted (x2 - x1) 0 (omega arith)
      (also {ρ = x1 ∷ x2 ∷ Ls ∷ []} (quotient (variable 1 ⊝ᵗ variable 0) (variable 2) (X 2) (C 1) u.some tt) (X 1) (X 0) (X 2) tt)

  module _ (ρ : List ℕ) where
    abbrev pub Jᵗ : Term ((x2 - x1) ∷ Ls ∷ ρ) (J Ls √ x1 x2)
    Jᵗ = ratio :x :L u.some J_is

    abbrev pub b11ᵗ : Term ((x2 - x1) ∷ Ls ∷ ρ) (b11 Ls √)
    b11ᵗ = constant tt (b11_is u)

    abbrev pub b12ᵗ : Term ((x2 - x1) ∷ Ls ∷ ρ) (b12 Ls √)
    b12ᵗ = constant tt (b12_is u)

    unfoldable pub p1ᵗ : Term ((x2 - x1) ∷ Ls ∷ ρ) (p1 Ls √ x1 x2)
    unfolding p1
    p1ᵗ = number 1 6 tt ⊛ᵗ (Jᵗ ⊛ᵗ Jᵗ) ⊛ᵗ (b11ᵗ ⊛ᵗ Jᵗ ⊹ᵗ number 3 1 tt ⊛ᵗ b12ᵗ)

  cube : 0 < Ls ^ 3
  cube = one-le-pow 3 Ls u.some

  first_band : p1 Ls √ x1 x2 ≈ (550 * (x2 - x1) ^ 2 * Ls) less (1089 * (x2 - x1) ^ 3) over (100 * Ls ^ 3)
  unfolding p1ᵗ
  first_band = agree (p1ᵗ []) (polynomial (C 550 :* :x :^ 2 :* :L) (C 1089 :* :x :^ 3) (C 100 :* :L :^ 3) (mul-pos (lit< tt) cube)) tt

  -- p2, by what Jn is
  module _ (n : Term ((x2 - x1) ∷ Ls ∷ []) (Jn Ls √ x1 x2)) where
    abbrev k : Term ((x2 - x1) ∷ Ls ∷ []) (Jk Ls √)
    k = constant tt (Jk_is u)

    abbrev b21ᵗ : Term ((x2 - x1) ∷ Ls ∷ []) (b21 Ls √)
    b21ᵗ = constant tt (b21_is u)

    abbrev b22ᵗ : Term ((x2 - x1) ∷ Ls ∷ []) (b22 Ls √)
    b22ᵗ = constant tt (b22_is u)

    p2ᵗ : Term ((x2 - x1) ∷ Ls ∷ []) (p2 Ls √ x1 x2)
    unfolding p2
    p2ᵗ =
        (number 0 1 tt ⊝ᵗ number 1 3 tt) ⊛ᵗ b11ᵗ [] ⊛ᵗ (k ⊛ᵗ k ⊛ᵗ k) ⊹ᵗ number 1 2 tt ⊛ᵗ (b11ᵗ [] ⊛ᵗ Jᵗ [] ⊝ᵗ b12ᵗ []) ⊛ᵗ (k ⊛ᵗ k)
        ⊹ᵗ b12ᵗ [] ⊛ᵗ Jᵗ [] ⊛ᵗ k
        ⊝ᵗ number 1 3 tt ⊛ᵗ b21ᵗ ⊛ᵗ (n ⊛ᵗ n ⊛ᵗ n ⊝ᵗ k ⊛ᵗ k ⊛ᵗ k) ⊹ᵗ number 1 2 tt ⊛ᵗ (b21ᵗ ⊛ᵗ Jᵗ [] ⊝ᵗ b22ᵗ) ⊛ᵗ (n ⊛ᵗ n ⊝ᵗ k ⊛ᵗ k)
        ⊹ᵗ b22ᵗ ⊛ᵗ Jᵗ [] ⊛ᵗ (n ⊝ᵗ k)

  -- the two later bands, where Jn is J, and where it is Jm
  second_band : Is (Jn Ls √ x1 x2) (x2 - x1) 0 Ls →
      p2 Ls √ x1 x2 ≈ (19800 * (x2 - x1) * Ls ^ 2 + 32670 * (x2 - x1) ^ 2 * Ls) less (1000 * Ls ^ 3 + 35937 * (x2 - x1) ^ 3) over (29700 * Ls ^ 3)
  unfolding p2ᵗ
  second_band n =
      agree (p2ᵗ (ratio :x :L u.some n))
      (polynomial (C 19800 :* :x :* :L :^ 2 :+ C 32670 :* :x :^ 2 :* :L) (C 1000 :* :L :^ 3 :+ C 35937 :* :x :^ 3) (C 29700 :* :L :^ 3)
      (mul-pos (lit< tt) cube)) tt

  third_band : Is (Jn Ls √ x1 x2) 10 0 33 → p2 Ls √ x1 x2 ≈ (297 * (x2 - x1)) less (20 * Ls) over (297 * Ls)
  unfolding p2ᵗ
  third_band n = agree (p2ᵗ (constant tt n)) (polynomial (C 297 :* :x) (C 20 :* :L) (C 297 :* :L) (mul-pos (lit< tt) u.some)) tt

  pub inner_p : p1or2 Ls √ x1 x2 ≈ Span.p Ls (x2 - x1)
  unfolding p1or2 Jn Span.p
  inner_p =
      chosen (λ q. p1or2 Ls √ x1 x2 ≈ q) (33 * (x2 - x1)) (5 * Ls) (λ l. rw (test_passes (below_across J_is (Jk_is u) u.some (lit< tt) (omega arith))) first_band)
      (λ l. rw (test_fails (strictly_below_across (Jk_is u) J_is (omega arith)))
      (chosen (λ q. p2 Ls √ x1 x2 ≈ q) (33 * (x2 - x1)) (10 * Ls)
      (λ l. second_band (rw (lesser_first (below_across J_is (Jm_is u) u.some (lit< tt) (omega arith))) J_is))
      (λ l. third_band (rw (lesser_second (strictly_below_across (Jm_is u) J_is (omega arith))) (Jm_is u)))))

  -- in the first band
  pub p1_is_p : 33 * (x2 - x1) ≤ 5 * Ls → p1 Ls √ x1 x2 ≈ Span.p Ls (x2 - x1)
  unfolding Span.p
  p1_is_p k = rw (le-leb (33 * (x2 - x1)) (5 * Ls) k) first_band

  pub J_≈ : J Ls √ x1 x2 ≈ ((x2 - x1) over Ls)
  J_≈ = same u.some J_is (is_over (x2 - x1) u.some)

  pub span_p : p Ls √ x1 x2 ≈ P Ls x1 x2
  unfolding p P touch
  span_p = by_touch (eqb x1 0) (eqb x2 Ls) (λ t. PAt t Ls (x2 - x1)) inner_p (half_is_half (⊹-≈ inner_p J_≈)) (≈_refl (whole 1))

pub spans_are_01's : SpansAre01's
spans_are_01's Ls √ u x1 x2 h = record { inner = inner_p u h; outer = span_p u h }
