-- Document 01's law and layers are what the general law asks for: C rises with the penetration, up to one at the half breadth. Assumes nothing.
use Prim.Native.Nat.{ℕ, ◌+◌, ◌-◌, ◌*◌, ◌^◌, ◌≤◌, ◌<◌}
use mathlib.Core.Path.{◌≡◌, refl}
use mathlib.Core.Bool.{true}
use mathlib.Core.List.{[], ◌∷◌}
use native.Mathlib.Nat.{sub-add_cancel, le_dest, le_of_eq, mul-pos, mul_assoc, mul-le-mul_right, one-le-pow}
use native.Mathlib.Omega.{arith}
use borrow.Author.Tests.{leb-true}
use lib.Dec.{leb, lit<}
use Rattle.laws.specs.Fraction.{◌less◌over◌, Is}
use Rattle.laws.proofs.Fraction.{is_crossed}
use Rattle.laws.proofs.Polynomial.{C, ◌:+◌, ◌:*◌, ◌:^◌, ◌:≤◌, ◌:=◌, ◌⊲◌, eq, ◌⊢◌, poly2, poly3, poly5, poly6}
use Rattle.solas.specs.Penetration.{C as chance, c, d}
use Rattle.solas.specs.General.{Falling, Rising, unit, common, law, layer}

-- ---- C: (16bB - 12b²)/(5B²), at most one up to the half breadth
module _ (B b : ℕ) (h : 2 * b ≤ B) where
  pub c_sum : 16 * b * B - 12 * b ^ 2 + 12 * b ^ 2 ≡ 16 * b * B
  c_sum = sub-add_cancel (poly2 (λ B b. (C 6 :* b ⊲ C 2 :* b :≤ B) ∷ [] ⊢ C 12 :* b :^ 2 :≤ C 16 :* b :* B) tt B b h)

  pub c_at_most : 16 * b * B - 12 * b ^ 2 ≤ 5 * B ^ 2
  c_at_most =
      let (r, e) = le_dest h in
      let k : 16 * b * B ≤ 5 * B ^ 2 + 12 * b ^ 2 = rw (← e) (poly2 (λ b r. [] ⊢ C 16 :* b :* (C 2 :* b :+ r) :≤ C 5 :* (C 2 :* b :+ r) :^ 2 :+ C 12 :* b :^ 2) tt b r) in
      omega (arith, c_sum)

  -- by the coefficients that document 01 has
  chance_by : (a e d : ℕ) → leb 1 d ≡ true → 5 * a ≡ 16 * d → 5 * e ≡ 12 * d → 0 < B → Is ((a * b * B) less (e * b ^ 2) over (d * B ^ 2)) (16 * b * B - 12 * b ^ 2) 0 (5 * B ^ 2)
  chance_by a e d q ea ee k =
      is_crossed _ _ _ _ _ (mul-pos (leb-true 1 d q) (one-le-pow 2 B k))
      (poly6 (λ B b c a e d. eq (C 0) (d :* B :^ 2) (c :+ C 12 :* b :^ 2) (C 16 :* b :* B) ∷
      (b :* B :^ 3 ⊲ C 5 :* a := C 16 :* d) ∷ eq (C 0) (b :^ 2 :* B :^ 2) (C 5 :* e) (C 12 :* d) ∷ [] ⊢
      a :* b :* B :* (C 5 :* B :^ 2) := c :* (d :* B :^ 2) :+ e :* b :^ 2 :* (C 5 :* B :^ 2)) tt
      B b (16 * b * B - 12 * b ^ 2) a e d c_sum ea ee)

pub C_is : (B b : ℕ) → 0 < B → 2 * b ≤ B → Is (chance B b) (16 * b * B - 12 * b ^ 2) 0 (5 * B ^ 2)
unfolding chance
C_is B b k h = chance_by B b h _ _ _ refl refl refl k

pub c_one : (B b : ℕ) → 2 * b ≡ B → 16 * b * B - 12 * b ^ 2 ≡ 5 * B ^ 2
c_one B b e = poly3 (λ B b c. (C 1 ⊲ c :+ C 12 :* b :^ 2 := C 16 :* b :* B) ∷ eq (C 5 :* B) (C 6 :* b) (C 2 :* b) B ∷ [] ⊢ c := C 5 :* B :^ 2) tt B b (16 * b * B - 12 * b ^ 2) (c_sum B b (le_of_eq e)) e

pub c_rises : (B b' b : ℕ) → b' ≤ b → 2 * b ≤ B → 16 * b' * B - 12 * b' ^ 2 ≤ 16 * b * B - 12 * b ^ 2
c_rises B b' b g h =
    let (r, e) = le_dest g in
    let k : 2 * (b' + r) ≤ B = omega arith in
    rw (← e)
    (poly5 (λ B b' r c' c. eq (C 1) (C 0) (c' :+ C 12 :* b' :^ 2) (C 16 :* b' :* B) ∷ eq (C 0) (C 1) (c :+ C 12 :* (b' :+ r) :^ 2) (C 16 :* (b' :+ r) :* B) ∷
    (C 12 :* r ⊲ C 2 :* (b' :+ r) :≤ B) ∷ [] ⊢ c' :≤ c) tt
    B b' r (16 * b' * B - 12 * b' ^ 2) (16 * (b' + r) * B - 12 * (b' + r) ^ 2) (c_sum B b' (omega arith)) (c_sum B (b' + r) k) k)

-- ---- the law falls, and its layers rise
pub law_falls : {L B : ℕ} → 0 < L → 0 < B → Falling (law L B)
unfolding law
law_falls {L} {B} h k = record { knuckle = positive; stretch = positive; falls = omega arith }
  where
    positive : 0 < 15 * B * (5 * L)
    positive = omega (arith, mul-pos k h)

pub shallow : (L B b : ℕ) → 2 * b ≤ B → 33 * b * L ≤ (law L B).κ
unfolding law
shallow L B b h = omega (arith, mul-le-mul_right L h)

pub layer_rises : (L B b' b : ℕ) → 0 < B → b' ≤ b → 2 * b ≤ B → Rising (law L B) (layer L B b' b)
unfolding layer c d
layer_rises L B b' b k g h = record {
  cut = omega (arith, mul-le-mul_right L g);
  shallow = shallow L B b h;
  chance = c_rises B b' b g h;
  proper = c_at_most B b h;
  positive = omega (arith, one-le-pow 2 B k);
}

-- the layer from no penetration
pub no_cut : (L B b : ℕ) → (layer L B 0 b).U' ≡ 0
unfolding layer c d
no_cut L B b = omega arith

pub no_chance : (L B b : ℕ) → (layer L B 0 b).c' ≡ 0
unfolding layer c d
no_chance L B b = omega arith

-- ---- what p and Q are over is not 0
module _ {L B : ℕ} (hL : 0 < L) (hB : 0 < B) where
  pub full_positive : 0 < unit (law L B) * ((law L B).λx * L)
  unfolding law
  full_positive =
      let square : 0 < (15 * B * (5 * L)) ^ 2 = one-le-pow 2 (15 * B * (5 * L)) (omega (arith, mul-pos hB hL)) in
      mul-pos (mul-pos (mul-pos (lit< tt) square) square) (omega (arith, mul-pos hB hL))

  pub common_positive : (b' b : ℕ) → 0 < common (law L B) (layer L B b' b) L
  unfolding layer c d
  common_positive b' b = mul-pos (lit< tt) (rw (mul_assoc (5 * B ^ 2) (unit (law L B)) ((law L B).λx * L)) (mul-pos (mul-pos (lit< tt) (one-le-pow 2 B hB)) full_positive))
