-- Layers under the general damage length law: what each gives is a span function, and two that meet give what one does. Assumes nothing.
use Prim.Native.Nat.{ℕ, ◌+◌, ◌-◌, ◌*◌, ◌^◌, ◌≤◌, zero-le}
use mathlib.Core.Path.{◌≡◌, refl, ap}
use native.Mathlib.Nat.{le_refl, sub-zero, sub-eq-zero_of_le, mul-le-mul_right}
use native.Mathlib.Omega.{arith}
use Rattle.laws.specs.Span.{SpanFunction}
use Rattle.laws.proofs.Span.{e2_spans, e3_spans, steeper, sum_spans, multiple_spans, later_spans}
use Rattle.solas.specs.Span.{Touch, neither, one, both, touch}
use Rattle.solas.specs.Penetration.{c, d}
use Rattle.solas.specs.General.{Law, Falling, fall, density, between, mass, beyond, unit, Layer, Rising, in_layer, slope, twice, in_span, layer}
use Rattle.solas.proofs.General.{between_adds, mass_adds, mass_one}

-- ---- what a layer gives is a span function, and its slope is its mass

pub between_spans : (l : Law) (U T : ℕ) → SpanFunction (mass l U T) (between l U T)
unfolding between mass
between_spans l U T =
    steeper (plain (density l T) (fall l) (T - U))
    (sum_spans (multiple_spans (3 * density l T) (later_spans U (e2_spans (T - U)))) (multiple_spans (fall l) (later_spans U (e3_spans (T - U)))))
  where
    plain : (φ σ w : ℕ) → 3 * φ * (2 * w) + σ * (3 * w ^ 2) ≤ 6 * w * φ + 3 * w ^ 2 * σ
    plain φ σ w = omega arith

pub beyond_spans : (l : Law) → SpanFunction (3 * l.κ ^ 2 * l.W ^ 2) (beyond l)
unfolding beyond
beyond_spans l =
    steeper (plain (l.κ ^ 2) (l.W ^ 2)) (multiple_spans (l.κ ^ 2) (later_spans l.κ (e3_spans l.W)))
  where
    plain : (a b : ℕ) → a * (3 * b) ≤ 3 * a * b
    plain a b = omega arith

-- damage lengths give nothing to a span that is not longer than the shortest of them
pub between_nothing : (l : Law) (U T X : ℕ) → X ≤ U → between l U T X ≡ 0
unfolding between
between_nothing l U T X h = rw (sub-eq-zero_of_le h, (e2_spans (T - U)).nothing, (e3_spans (T - U)).nothing) (omega arith)

pub beyond_nothing : (l : Law) (X : ℕ) → X ≤ l.κ → beyond l X ≡ 0
unfolding beyond
beyond_nothing l X h = rw (sub-eq-zero_of_le h, (e3_spans l.W).nothing) (omega arith)

pub layer_spans : (l : Law) (y : Layer) → SpanFunction (slope l y) (in_layer l y)
unfolding in_layer slope
layer_spans l y =
    sum_spans (multiple_spans (y.c - y.c') (sum_spans (multiple_spans l.W (between_spans l y.U l.κ)) (beyond_spans l)))
    (multiple_spans (y.d - y.c') (multiple_spans l.W (between_spans l y.U' y.U)))

-- ---- two layers that meet are one

-- the second starts where the first ends
pub record Meeting (y₁ y₂ : Layer) : Type 0 where
  pub cut : y₁.U ≡ y₂.U'
  pub chance : y₁.c ≡ y₂.c'
  pub over : y₁.d ≡ y₂.d

-- from where the first starts to where the second ends
abbrev pub joined : Layer → Layer → Layer
joined y₁ y₂ = record { U' = y₁.U'; U = y₂.U; c' = y₁.c'; c = y₂.c; d = y₂.d }

module _ {l : Law} {y₁ y₂ : Layer} (f : Falling l) (r₁ : Rising l y₁) (r₂ : Rising l y₂) (m : Meeting y₁ y₂) where
  -- whatever adds up over parts of the damage lengths, with what lies beyond them, adds up over layers
  weighed : (g : ℕ → ℕ → ℕ) (e : ℕ) → ((U T S : ℕ) → U ≤ T → T ≤ S → S ≤ l.κ → g U T + g T S ≡ g U S) →
      (y₁.c - y₁.c') * (l.W * g y₁.U l.κ + e) + (y₁.d - y₁.c') * (l.W * g y₁.U' y₁.U) +
      ((y₂.c - y₂.c') * (l.W * g y₂.U l.κ + e) + (y₂.d - y₂.c') * (l.W * g y₂.U' y₂.U)) ≡
      (y₂.c - y₁.c') * (l.W * g y₂.U l.κ + e) + (y₂.d - y₁.c') * (l.W * g y₁.U' y₂.U)
  weighed g e adds =
      let up : y₁.U' ≤ y₂.U' = omega (arith, r₁.cut, m.cut) in
      let shorter : y₁.d - y₁.c' ≡ y₁.c - y₁.c' + (y₂.d - y₂.c') = omega (arith, r₁.chance, r₂.chance, r₂.proper, m.chance, m.over) in
      let longer : y₂.d - y₁.c' ≡ y₁.c - y₁.c' + (y₂.d - y₂.c') = omega (arith, shorter, m.over) in
      let across : y₂.c - y₁.c' ≡ y₁.c - y₁.c' + (y₂.c - y₂.c') = omega (arith, r₁.chance, r₂.chance, m.chance) in
      rw (shorter, longer, across, m.cut, ← adds y₂.U' y₂.U l.κ r₂.cut r₂.shallow (le_refl l.κ), ← adds y₁.U' y₂.U' y₂.U up r₂.cut r₂.shallow)
      (plain l.W (y₁.c - y₁.c') (y₂.c - y₂.c') (y₂.d - y₂.c') (g y₂.U' y₂.U) (g y₂.U l.κ) (g y₁.U' y₂.U') e)
    where
      plain : (W i j k M A N e : ℕ) → i * (W * (M + A) + e) + (i + k) * (W * N) + (j * (W * A + e) + k * (W * M)) ≡ (i + j) * (W * A + e) + (i + k) * (W * (N + M))
      plain W i j k M A N e = omega arith

  pub layers_add : (X : ℕ) → in_layer l y₁ X + in_layer l y₂ X ≡ in_layer l (joined y₁ y₂) X
  unfolding in_layer
  layers_add X = weighed (λ U T. between l U T X) (beyond l X) (λ U T S h k n. between_adds f U T S h k n X)

  pub slopes_add : slope l y₁ + slope l y₂ ≡ slope l (joined y₁ y₂)
  unfolding slope
  slopes_add = weighed (mass l) (3 * l.κ ^ 2 * l.W ^ 2) (mass_adds f)

  -- the same for a span that touches so many ends
  pub twice_adds : (t : Touch) (x : ℕ) → twice t l y₁ x + twice t l y₂ x ≡ twice t l (joined y₁ y₂) x
  twice_adds neither x = omega (arith, layers_add (l.λx * x))
  twice_adds one x = omega (arith, layers_add (l.λx * x), ap (λ s. s * (l.λx * x)) slopes_add)
  twice_adds both x = omega (arith, ap (λ s. s * (l.λx * x)) slopes_add)

  pub spans_add : (L aft fwd : ℕ) → in_span l y₁ L aft fwd + in_span l y₂ L aft fwd ≡ in_span l (joined y₁ y₂) L aft fwd
  unfolding in_span
  spans_add L aft fwd = twice_adds (touch L aft fwd) (fwd - aft)

-- ---- a layer has at most all of the mass

module _ {l : Law} {y : Layer} (f : Falling l) (r : Rising l y) where
  pub slope_at_most_one : slope l y ≤ y.d * unit l
  unfolding slope
  slope_at_most_one =
      plain y.d (y.c - y.c') (y.d - y.c') l.W (mass l 0 y.U') (mass l y.U' y.U) (mass l y.U l.κ) (3 * l.κ ^ 2 * l.W ^ 2) (unit l)
      (omega (arith, r.proper)) (omega arith) (rw (← all, ← below) at (mass_one f))
    where
      all : mass l 0 y.U' + mass l y.U' l.κ ≡ mass l 0 l.κ
      all = mass_adds f 0 y.U' l.κ zero-le (omega (arith, r.cut, r.shallow)) (le_refl l.κ)

      below : mass l y.U' y.U + mass l y.U l.κ ≡ mass l y.U' l.κ
      below = mass_adds f y.U' y.U l.κ r.cut r.shallow (le_refl l.κ)

      plain : (d i k W A N M e u : ℕ) → i ≤ d → k ≤ d → W * (A + (N + M)) + e ≡ u → i * (W * M + e) + k * (W * N) ≤ d * u
      plain d i k W A N M e u p q t = omega (arith, mul-le-mul_right (W * M + e) p, mul-le-mul_right (W * N) q, ap (λ z. d * z) t)

  -- all of it down to where C is one
  pub slope_one : y.U' ≡ 0 → y.c' ≡ 0 → y.c ≡ y.d → slope l y ≡ y.d * unit l
  unfolding slope
  slope_one a b e =
      rw (a, b, e, sub-zero y.d)
      (plain y.d l.W (mass l 0 y.U) (mass l y.U l.κ) (3 * l.κ ^ 2 * l.W ^ 2) (unit l) (rw (← mass_adds f 0 y.U l.κ zero-le r.shallow (le_refl l.κ)) at (mass_one f)))
    where
      plain : (d W N M e u : ℕ) → W * (N + M) + e ≡ u → d * (W * M + e) + d * (W * N) ≡ d * u
      plain d W N M e u t = omega (arith, ap (λ z. d * z) t)

-- ---- document 01's layers, from one penetration to the next
module _ (L B b₀ b₁ b₂ : ℕ) where
  pub depths_meet : Meeting (layer L B b₀ b₁) (layer L B b₁ b₂)
  unfolding layer c d
  depths_meet = record { cut = refl; chance = refl; over = refl }

  pub depths_join : joined (layer L B b₀ b₁) (layer L B b₁ b₂) ≡ layer L B b₀ b₂
  unfolding layer c d
  depths_join = refl

  pub depths_add : {l : Law} → Falling l → Rising l (layer L B b₀ b₁) → Rising l (layer L B b₁ b₂) → (aft fwd : ℕ) →
      in_span l (layer L B b₀ b₁) L aft fwd + in_span l (layer L B b₁ b₂) L aft fwd ≡ in_span l (layer L B b₀ b₂) L aft fwd
  depths_add f r₁ r₂ aft fwd = rw (← depths_join) (spans_add f r₁ r₂ depths_meet L aft fwd)
