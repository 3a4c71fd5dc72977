-- The general damage length law: what parts of the damage lengths give adds up to what the whole gives. Assumes nothing.
use Prim.Native.Nat.{ℕ, ◌+◌, ◌-◌, ◌*◌, ◌^◌, ◌≤◌}
use mathlib.Core.Path.{◌≡◌, ap}
use mathlib.Core.List.{[], ◌∷◌}
use native.Mathlib.Nat.{mul-le-mul_left, sub-zero}
use native.Mathlib.Omega.{arith}
use Rattle.laws.specs.Span.{e2, e3}
use Rattle.laws.proofs.SpanParts.{e2_adds, e3_adds}
use Rattle.laws.proofs.Polynomial.{C, ◌:+◌, ◌:*◌, ◌:^◌, ◌:=◌, ◌⊲◌, ◌⊢◌, poly3, poly4, pow_two}
use Rattle.solas.specs.General.{Law, Falling, fall, density, between, mass, unit}

-- ---- the density, and parts of the damage lengths

-- the density at 0 is κ times this
at_zero : {l : Law} → Falling l → 11 * l.W - l.κ ≡ l.κ + fall l
at_zero f = omega (arith, f.falls)

-- the density falls evenly up to the knuckle, and nowhere is anything cut off
pub density_falls : {l : Law} → Falling l → (T S : ℕ) → T ≤ S → S ≤ l.κ → density l T ≡ density l S + fall l * (S - T)
density_falls {l} f T S h k =
    rw (at_zero f) (plain l.κ (fall l) T S (S - T) (omega arith) k)
  where
    plain : (κ σ T S b : ℕ) → T + b ≡ S → S ≤ κ → κ * (κ + σ) - σ * T ≡ κ * (κ + σ) - σ * S + σ * b
    plain κ σ T S b e k = omega (arith, mul-le-mul_left σ k, ap (λ z. σ * z) e)

pub density_at_knuckle : {l : Law} → Falling l → density l l.κ ≡ l.κ ^ 2
density_at_knuckle {l} f =
    rw (at_zero f) (plain l.κ (fall l))
  where
    plain : (κ σ : ℕ) → κ * (κ + σ) - σ * κ ≡ κ ^ 2
    plain κ σ = rw pow_two (omega arith)

module _ {l : Law} (f : Falling l) (U T S : ℕ) (h : U ≤ T) (k : T ≤ S) (m : S ≤ l.κ) where
  pub between_adds : (X : ℕ) → between l U T X + between l T S X ≡ between l U S X
  unfolding between
  between_adds X =
      let whole : S - U ≡ T - U + (S - T) = omega arith in
      let later : X - T ≡ X - U - (T - U) = omega arith in
      rw (whole, later, density_falls f T S k m) (plain (density l S) (fall l) (T - U) (S - T) (X - U))
    where
      plain : (φ σ a b t : ℕ) → 3 * (φ + σ * b) * e2 a t + σ * e3 a t + (3 * φ * e2 b (t - a) + σ * e3 b (t - a)) ≡ 3 * φ * e2 (a + b) t + σ * e3 (a + b) t
      plain φ σ a b t = omega (arith, ap (λ z. 3 * φ * z) (e2_adds a b t), ap (λ z. σ * z) (e3_adds a b t))

  pub mass_adds : mass l U T + mass l T S ≡ mass l U S
  unfolding mass
  mass_adds =
      let whole : S - U ≡ T - U + (S - T) = omega arith in
      rw (whole, density_falls f T S k m) (plain (density l S) (fall l) (T - U) (S - T))
    where
      plain : (φ σ a b : ℕ) → 6 * a * (φ + σ * b) + 3 * a ^ 2 * σ + (6 * b * φ + 3 * b ^ 2 * σ) ≡ 6 * (a + b) * φ + 3 * (a + b) ^ 2 * σ
      plain = poly4 (λ φ σ a b. [] ⊢ C 6 :* a :* (φ :+ σ :* b) :+ C 3 :* a :^ 2 :* σ :+ (C 6 :* b :* φ :+ C 3 :* b :^ 2 :* σ) := C 6 :* (a :+ b) :* φ :+ C 3 :* (a :+ b) :^ 2 :* σ) tt

-- all damage lengths have a mass of one
pub mass_one : {l : Law} → Falling l → l.W * mass l 0 l.κ + 3 * l.κ ^ 2 * l.W ^ 2 ≡ unit l
unfolding mass
mass_one {l} f =
    rw (density_at_knuckle f, sub-zero l.κ) (omega (arith, plain l.κ l.W (fall l) (omega (arith, f.falls))))
  where
    plain : (κ W σ : ℕ) → σ + 2 * κ ≡ 11 * W → W * (6 * κ * κ ^ 2 + 3 * κ ^ 2 * σ) + 3 * κ ^ 2 * W ^ 2 ≡ 36 * W ^ 2 * κ ^ 2
    plain = poly3 (λ κ W σ. (C 3 :* κ :^ 2 :* W ⊲ σ :+ C 2 :* κ := C 11 :* W) ∷ [] ⊢ W :* (C 6 :* κ :* κ :^ 2 :+ C 3 :* κ :^ 2 :* σ) :+ C 3 :* κ :^ 2 :* W :^ 2 := C 36 :* W :^ 2 :* κ :^ 2) tt
