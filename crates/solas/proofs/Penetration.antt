-- Document 01's G1, G3 and inner G are the general law with its damage lengths cut at the penetration. Assumes nothing.
use Prim.Native.Nat.{ℕ, ◌+◌, ◌*◌, ◌^◌, ◌≤◌, ◌<◌, zero-le}
use mathlib.Core.Path.{◌≡◌, refl}
use mathlib.Core.Bool.{true}
use mathlib.Core.List.{[], ◌∷◌}
use native.Mathlib.Nat.{le_refl, le_trans, mul-add, mul-pos, one-le-pow}
use native.Mathlib.Omega.{arith}
use borrow.Author.Tests.{leb-true}
use lib.Dec.{leb}
use Rattle.laws.specs.Fraction.{Fraction, ◌less◌over◌, ◌over◌, Is, ◌⊛◌}
use Rattle.laws.proofs.Fraction.{is_less_over, is_over, is_widened, is_shifted, is_written, is_recast, is_crossed, is_⊝, is_⊛}
use Rattle.laws.proofs.FractionOrder.{is_chosen}
use Rattle.laws.proofs.Polynomial.{Expr, C, ◌:+◌, ◌:*◌, ◌:^◌, ◌:=◌, ◌⊲◌, eq, ◌⊢◌, poly3, poly4, poly6, poly7}
use Rattle.solas.specs.Span.{neither, p}
use Rattle.solas.specs.Penetration.{G1, G3, GAt}
use Rattle.solas.specs.General.{Law, Falling, fall, between, mass, law}
use Rattle.solas.proofs.General.{between_adds}
use Rattle.solas.proofs.GeneralLayer.{between_nothing, beyond_nothing}
use Rattle.solas.proofs.Cut.{peak, mass_sum, between_above}
use Rattle.solas.proofs.Bands.{full, inner, knuckle, scale, even_fall, even_peak, p_is}
use Rattle.solas.proofs.Depth.{law_falls, shallow}

-- the knuckle and the cut, as they are quoted
abbrev κ : Expr → Expr → Expr
κ B L = knuckle (C 15 :* B) L

abbrev cut : Expr → Expr → Expr
cut b L = C 33 :* b :* L

-- ---- G1 and G3 by the coefficients that document 01 has
module _ (L B b : ℕ) (positive : 0 < B) where
  G1_by : (a e d : ℕ) → leb 1 d ≡ true → 15 * a ≡ 11 * d → 2500 * e ≡ 363 * d → 2 * b ≤ B →
      Is ((a * b * B) less (e * b ^ 2) over (d * B ^ 2)) (mass (law L B) 0 (33 * b * L)) 0 (36 * (law L B).W * (law L B).κ ^ 2)
  unfolding law
  G1_by a e d q ea ee h =
      is_crossed _ _ _ _ _ (mul-pos (leb-true 1 d q) (one-le-pow 2 B positive))
      (poly7 (λ L B b m a e d. eq (C 0) (d :* B :^ 2) (m :+ C 3 :* (C 9 :* κ B L) :* cut b L :^ 2) (C 6 :* (C 10 :* κ B L :^ 2) :* cut b L) ∷
      (C 180 :* b :* B :^ 2 :* L :* κ B L :^ 2 ⊲ C 15 :* a := C 11 :* d) ∷ eq (C 0) (C 81 :* b :^ 2 :* B :^ 2 :* L :^ 2 :* κ B L) (C 2500 :* e) (C 363 :* d) ∷ [] ⊢
      a :* b :* B :* (C 36 :* κ B L :* κ B L :^ 2) := m :* (d :* B :^ 2) :+ e :* b :^ 2 :* (C 36 :* κ B L :* κ B L :^ 2)) tt
      L B b (mass (law L B) 0 (33 * b * L)) a e d
      (rw (even_fall (law L B).κ (law L B).λx, even_peak (law L B).κ (law L B).λx) at (mass_sum (law L B) (shallow L B b h))) ea ee)

  -- what a span that is longer than the cut lacks
  G3_by : (a e d : ℕ) → leb 1 d ≡ true → 450 * a ≡ 11 * d → 18750 * e ≡ 121 * d →
      Is ((a * b ^ 2 * B) less (e * b ^ 3) over (d * B ^ 3)) ((law L B).W * (3 * peak (law L B) * (33 * b * L) ^ 2)) ((law L B).W * (2 * fall (law L B) * (33 * b * L) ^ 3)) (full (law L B) L)
  unfolding law
  G3_by a e d q ea ee =
      rw (even_fall (law L B).κ (law L B).λx, even_peak (law L B).κ (law L B).λx)
      (is_recast _ _ _ (mul-pos (leb-true 1 d q) (one-le-pow 3 B positive))
      (poly6 (λ L B b a e d. (C 2970 :* b :^ 2 :* B :^ 3 :* L :^ 2 :* κ B L :^ 3 ⊲ C 450 :* a := C 11 :* d) ∷
      eq (C 0) (C 5346 :* b :^ 3 :* B :^ 3 :* L :^ 3 :* κ B L :^ 2) (C 18750 :* e) (C 121 :* d) ∷ [] ⊢
      a :* b :^ 2 :* B :* scale (C 15 :* B) L :+ κ B L :* (C 2 :* (C 9 :* κ B L) :* cut b L :^ 3) :* (d :* B :^ 3) :=
      κ B L :* (C 3 :* (C 10 :* κ B L :^ 2) :* cut b L :^ 2) :* (d :* B :^ 3) :+ e :* b :^ 3 :* scale (C 15 :* B) L) tt
      L B b a e d ea ee)
      (is_less_over (a * b ^ 2 * B) (e * b ^ 3) (mul-pos (leb-true 1 d q) (one-le-pow 3 B positive))))

module _ (L B b : ℕ) (positive : 0 < B) where
  pub G1_is : 2 * b ≤ B → Is (G1 B b) (mass (law L B) 0 (33 * b * L)) 0 (36 * (law L B).W * (law L B).κ ^ 2)
  unfolding G1
  G1_is h = G1_by L B b positive _ _ _ refl refl refl h

  pub G3_is : Is (G3 B b) ((law L B).W * (3 * peak (law L B) * (33 * b * L) ^ 2)) ((law L B).W * (2 * fall (law L B) * (33 * b * L) ^ 3)) (full (law L B) L)
  unfolding G3
  G3_is = G3_by L B b positive _ _ _ refl refl refl

-- ---- along the ship

-- the same mass on the scale of a length z
pub is_throughout : {g : Fraction} {m : ℕ} (W κ z : ℕ) → Is g m 0 (36 * W * κ ^ 2) → Is g (W * (m * z)) 0 (36 * W ^ 2 * κ ^ 2 * z)
is_throughout {g} {m} W κ z k =
    is_written (is_widened (W * z) k) (omega arith) (omega arith)
    (poly3 (λ W κ z. [] ⊢ W :* z :* (C 36 :* W :* κ :^ 2) := C 36 :* W :^ 2 :* κ :^ 2 :* z) tt W κ z)

-- what has a mass in the ship has x/L of it in x
pub is_along : {g : Fraction} {m L : ℕ} (W κ n x : ℕ) → 0 < L → Is g m 0 (36 * W * κ ^ 2) → Is ((x over L) ⊛ g) (W * (m * (n * x))) 0 (36 * W ^ 2 * κ ^ 2 * (n * L))
is_along {g} {m} {L} W κ n x h k =
    is_written (is_widened (W * n) (is_⊛ (is_over x h) k)) (omega arith) (omega arith)
    (poly4 (λ W κ n L. [] ⊢ W :* n :* (L :* (C 36 :* W :* κ :^ 2)) := C 36 :* W :^ 2 :* κ :^ 2 :* (n :* L)) tt W κ n L)

-- a span no longer than the cut has all from damage lengths below it
inner_shallow : {l : Law} → Falling l → (U X : ℕ) → U ≤ l.κ → X ≤ U → inner l X ≡ l.W * between l 0 U X
inner_shallow {l} f U X h k =
    rw (beyond_nothing l X (le_trans k h), ← between_adds f 0 U l.κ zero-le h (le_refl l.κ) X, between_nothing l U l.κ X k) (omega arith)

-- a longer one lacks something of its part of their mass
pub lacks : (l : Law) (U X : ℕ) → U ≤ l.κ → U ≤ X →
    l.W * (mass l 0 U * X) + l.W * (2 * fall l * U ^ 3) ≡ l.W * between l 0 U X + l.W * (3 * peak l * U ^ 2)
lacks l U X h k = simp (← mul-add, between_above l h k)

-- the test of document 01 compares the span with the cut
pub up_to_cut : (L B x b : ℕ) → 15 * B * x ≤ b * L → (law L B).λx * x ≤ 33 * b * L
unfolding law
up_to_cut L B x b k = omega arith

pub past_cut : (L B x b : ℕ) → b * L < 15 * B * x → 33 * b * L ≤ (law L B).λx * x
unfolding law
past_cut L B x b k = omega arith

module _ {L B : ℕ} (hL : 0 < L) (hB : 0 < B) (x b : ℕ) (h : 2 * b ≤ B) where
  pub along_is : Is ((x over L) ⊛ G1 B b) ((law L B).W * (mass (law L B) 0 (33 * b * L) * ((law L B).λx * x))) 0 (full (law L B) L)
  along_is = is_along (law L B).W (law L B).κ (law L B).λx x hL (G1_is L B b hB h)

  -- a span that the cut is not above
  pub p_shallow : (law L B).λx * x ≤ 33 * b * L → Is (p L x) ((law L B).W * between (law L B) 0 (33 * b * L) ((law L B).λx * x)) 0 (full (law L B) L)
  p_shallow k = rw (← inner_shallow (law_falls hL hB) (33 * b * L) ((law L B).λx * x) (shallow L B b h) k) (p_is hL B x)

  pub inner_G_is : Is (GAt neither L B x b) ((law L B).W * between (law L B) 0 (33 * b * L) ((law L B).λx * x)) 0 (full (law L B) L)
  inner_G_is =
      is_chosen (15 * B * x) (b * L) (λ k. p_shallow (up_to_cut L B x b k))
      (λ k. is_shifted _ 0 (omega (arith, lacks (law L B) (33 * b * L) ((law L B).λx * x) (shallow L B b h) (past_cut L B x b k))) (is_⊝ along_is (G3_is L B b hB)))
