-- C, G1 and G3 of a penetration that is at most half of the breadth: not negative, not above one, and small enough for 64 bits. Assumes nothing.
use mathlib.Core.Path.{◌≡◌, refl, ◌∙◌}
use Prim.Native.Nat.{ℕ, ◌-◌, ◌*◌, ◌^◌, ◌≤◌, ◌<◌}
use native.Mathlib.Nat.{mul-le-mul, mul-le-mul_left, mul-pos, mul-sub}
use native.Mathlib.Omega.{arith}
use Rattle.laws.specs.Fraction.{Is}
use Rattle.laws.proofs.Fraction.{is_less_over, is_shifted, is_written}
use Rattle.records.specs.declared.Ends.{Ends}
use Rattle.numbers.specs.Figures.{both_ways, halves_of}
use Rattle.numbers.proofs.Figures.{billionths_both_ways}
use Rattle.solas.specs.Penetration.{C, c, d, G1, G3}
use Rattle.layers.specs.Layer.{G1Ends, G3Ends, layer_of}
use Rattle.laws.proofs.Polynomial.{pow_two, cube}
use Rattle.solas.proofs.Depth.{C_is, c_at_most}
use Rattle.spans.proofs.Rounded.{ends_are}

-- products of the breadth and a penetration, in order
pub record Products (B b : ℕ) : Type 0 where
  pub bb : 2 * (b * b) ≤ b * B
  pub b_B : 2 * (b * B) ≤ B * B
  pub BB : B * B ≤ 6000 ^ 2
  pub bbb : 2 * (b * b * b) ≤ b * b * B
  pub bb_B : 2 * (b * b * B) ≤ b * B * B
  pub b_BB : 2 * (b * B * B) ≤ B * B * B
  pub BBB : B * B * B ≤ 6000 ^ 3
  pub some : 0 < B * B
  pub some' : 0 < B * B * B

pub products : (B b : ℕ) → (1 ≤ B) × (B ≤ 6000) × (2 * b ≤ B) → Products B b
products B b h =
    record {
      bb = omega (arith, mul-le-mul_left b h.2);
      b_B = omega (arith, mul-le-mul_left B h.2);
      BB = mul-le-mul h.1 h.1;
      bbb = omega (arith, mul-le-mul_left (b * b) h.2);
      bb_B = omega (arith, mul-le-mul_left (b * B) h.2);
      b_BB = omega (arith, mul-le-mul_left (B * B) h.2);
      BBB = mul-le-mul (mul-le-mul h.1 h.1) h.1;
      some = mul-pos h.0 h.0;
      some' = mul-pos (mul-pos h.0 h.0) h.0;
    }

-- the factors common to 10⁹ times the fraction's numerator, and to its denominator, cancelled
G1_cancelled : (B b t : ℕ) {n : ℕ} → n ≡ 11 * b * t → 10 ^ 9 * n * (3 * B * B) ≡ 4400000 * b * t * (7500 * B * B)
G1_cancelled B b t e = rw e (omega arith)

G3_cancelled : (B b t : ℕ) {n : ℕ} → n ≡ 11 * b * b * t → 10 ^ 9 * n * (9 * B * B * B) ≡ 1760000 * b * b * t * (56250 * B * B * B)
G3_cancelled B b t e = rw e (omega arith)

module _ (B b : ℕ) (h : (1 ≤ B) × (B ≤ 6000) × (2 * b ≤ B)) where
  pub C_over : Is (C B b) (c B b) 0 (d B)
  unfolding c d
  C_over = C_is B b h.0 h.2

  pub C_at_most_one : (0 < d B) × (c B b ≤ d B)
  unfolding c d
  C_at_most_one = let q = products B b h in (rw (pow_two B) (omega arith), c_at_most B b h.2)

  pub G1_is : Is (G1 B b) (5500 * b * B - 1089 * b * b) 0 (7500 * B * B)
  unfolding G1
  G1_is = let q = products B b h in rw (pow_two b, pow_two B) (is_written (is_shifted _ 0 (omega arith) (is_less_over (5500 * b * B) (1089 * (b * b)) (omega arith))) refl refl (omega arith))

  pub G3_is : Is (G3 B b) (1375 * b * b * B - 363 * b * b * b) 0 (56250 * B * B * B)
  unfolding G3
  G3_is = let q = products B b h in rw (pow_two b, cube b, cube B) (is_written (is_shifted _ 0 (omega arith) (is_less_over (1375 * (b * b) * B) (363 * (b * b * b)) (omega arith))) refl refl (omega arith))

  pub G1_proper : (0 < 7500 * B * B) × (5500 * b * B - 1089 * b * b ≤ 7500 * B * B)
  G1_proper = let q = products B b h in (omega arith, omega arith)

  pub G3_proper : (0 < 56250 * B * B * B) × (1375 * b * b * B - 363 * b * b * b ≤ 56250 * B * B * B)
  G3_proper = let q = products B b h in (omega arith, omega arith)

  pub G1_ends : G1Ends B b ≡ both_ways (4400000 * b * (500 * B - 99 * b)) (3 * B * B)
  unfolding G1Ends
  G1_ends =
      let q = products B b h in
      let e : 5500 * b * B - 1089 * b * b ≡ 11 * b * (500 * B - 99 * b) = omega (arith, mul-sub b (500 * B) (99 * b)) in
      ends_are G1_proper.0 G1_is ∙ billionths_both_ways _ _ G1_proper.0 (omega arith) (G1_cancelled B b (500 * B - 99 * b) e)

  pub G3_ends : G3Ends B b ≡ both_ways (1760000 * b * b * (125 * B - 33 * b)) (9 * B * B * B)
  unfolding G3Ends
  G3_ends =
      let q = products B b h in
      let e : 1375 * b * b * B - 363 * b * b * b ≡ 11 * b * b * (125 * B - 33 * b) = omega (arith, mul-sub (b * b) (125 * B) (33 * b)) in
      ends_are G3_proper.0 G3_is ∙ billionths_both_ways _ _ G3_proper.0 (omega arith) (G3_cancelled B b (125 * B - 33 * b) e)

-- what is kept for a layer
pub layer_is : (B b : ℕ) {g1 g3 half : Ends} → g1 ≡ G1Ends B b → g3 ≡ G3Ends B b → half ≡ halves_of g3 →
    record { depth = b; c = 16 * b * B - 12 * b * b; d = 5 * B * B; g1 = g1; g3 = g3; half = half } ≡ layer_of B b
unfolding layer_of c d
layer_is B b p q r =
    let e : 12 * (b * b) ≡ 12 * b * b = omega arith in
    let f : 5 * (B * B) ≡ 5 * B * B = omega arith in
    rw (pow_two b, pow_two B, e, f, r, p, q)
