-- Document 01's chance of damage within a span and a penetration is the general law's, for every span of the ship. Assumes nothing.
use Prim.Native.Nat.{ℕ, ◌+◌, ◌-◌, ◌*◌, ◌^◌, ◌≤◌, ◌<◌, zero-le}
use mathlib.Core.Path.{◌≡◌, refl}
use native.Mathlib.Nat.{sub-zero, add-sub_cancel_left, le_dest, le_refl, mul-pos, mul_comm, mul_assoc}
use native.Mathlib.Omega.{arith}
use borrow.Author.Tests.{eqb-true}
use lib.Dec.{eqb, lit<}
use Rattle.laws.specs.Fraction.{Fraction, ◌over◌, Is}
use Rattle.laws.proofs.Choice.{either_way}
use Rattle.laws.proofs.Fraction.{is_over, is_one, is_widened, is_shifted, is_written, is_⊹, is_⊝, is_⊛}
use Rattle.laws.proofs.FractionRing.{is_mixed}
use Rattle.laws.proofs.FractionOrder.{is_chosen}
use Rattle.solas.specs.Span.{Touch, neither, one, both, touch, half, PAt, P}
use Rattle.solas.specs.Penetration.{c, d, GAt, G, Q}
use Rattle.solas.specs.General.{Law, Falling, Layer, Rising, between, mass, beyond, unit, in_layer, slope, twice, in_span, common, law, layer}
use Rattle.solas.proofs.General.{between_adds, mass_adds, mass_one}
use Rattle.solas.proofs.Bands.{full, inner, p_is}
use Rattle.solas.proofs.Depth.{C_is, c_at_most, law_falls, shallow, layer_rises, no_cut, no_chance, full_positive}
use Rattle.solas.proofs.Penetration.{G1_is, G3_is, is_throughout, along_is, p_shallow, inner_G_is, up_to_cut, past_cut, lacks}
-- checked first, so that a definition that gives another number is refused there
use Rattle.solas.proofs.Values.{share_1_2}

-- twice what a span has that touches so many ends, where an inner one has i, and j is its part of what the ship has
abbrev pub doubled : Touch → ℕ → ℕ → ℕ
doubled neither i j = 2 * i
doubled one i j = i + j
doubled both i j = 2 * j

-- only the whole ship touches both ends
abbrev pub Fits : Touch → ℕ → ℕ → Type 0
Fits neither L x = Unit {0}
Fits one L x = Unit {0}
Fits both L x = x ≡ L

pub span_fits : (L aft fwd : ℕ) → Fits (touch L aft fwd) L (fwd - aft)
unfolding touch
span_fits L aft fwd =
    either_way (eqb aft 0) (λ a. either_way (eqb fwd L) (λ f. rw (a, f) (omega (arith, eqb-true aft 0 a, eqb-true fwd L f))) (λ f. rw (a, f) tt))
    (λ a. either_way (eqb fwd L) (λ f. rw (a, f) tt) (λ f. rw (a, f) tt))

pub is_half : {f : Fraction} {a b d : ℕ} → Is f a b d → Is (half f) a b (2 * d)
is_half {d = d} h = is_written (is_⊛ h (is_over 1 (lit< tt))) (omega arith) (omega arith) (mul_comm d 2)

-- x/L, over any scale
part_is : {L : ℕ} (x u n : ℕ) → 0 < L → Is (x over L) (u * (n * x)) 0 (u * (n * L))
part_is {L} x u n h = is_written (is_widened (u * n) (is_over x h)) (mul_assoc u n x) (omega arith) (mul_assoc u n L)

-- ---- P and G of a span of length x that touches so many ends, and of the span from aft to fwd
module _ {L B : ℕ} (hL : 0 < L) (hB : 0 < B) where
  pub P_at : (x : ℕ) (t : Touch) → Fits t L x → Is (PAt t L x) (doubled t (inner (law L B) ((law L B).λx * x)) (unit (law L B) * ((law L B).λx * x))) 0 (2 * full (law L B) L)
  P_at x neither f = is_widened 2 (p_is hL B x)
  P_at x one f = is_half (is_⊹ (p_is hL B x) (part_is x (unit (law L B)) (law L B).λx hL))
  P_at x both f = rw f (is_one (mul-pos (lit< tt) (full_positive hL hB)))

  pub P_is : (aft fwd : ℕ) →
      Is (P L aft fwd) (doubled (touch L aft fwd) (inner (law L B) ((law L B).λx * (fwd - aft))) (unit (law L B) * ((law L B).λx * (fwd - aft)))) 0 (2 * full (law L B) L)
  unfolding P
  P_is aft fwd = P_at (fwd - aft) (touch L aft fwd) (span_fits L aft fwd)

module _ {L B : ℕ} (hL : 0 < L) (hB : 0 < B) (b : ℕ) (h : 2 * b ≤ B) where
  pub G_at : (x : ℕ) (t : Touch) → Fits t L x →
      Is (GAt t L B x b) (doubled t ((law L B).W * between (law L B) 0 (33 * b * L) ((law L B).λx * x)) ((law L B).W * (mass (law L B) 0 (33 * b * L) * ((law L B).λx * x)))) 0
      (2 * full (law L B) L)
  G_at x neither f = is_widened 2 (inner_G_is hL hB x b h)
  G_at x one f =
      is_chosen (15 * B * x) (b * L) (λ k. is_half (is_⊹ (p_shallow hL hB x b h (up_to_cut L B x b k)) (along_is hL hB x b h)))
      (λ k. is_shifted _ 0 (omega (arith, lacks (law L B) (33 * b * L) ((law L B).λx * x) (shallow L B b h) (past_cut L B x b k)))
      (is_⊝ (is_widened 2 (along_is hL hB x b h)) (is_half (G3_is L B b hB))))
  G_at x both f = rw f (is_widened 2 (is_throughout (law L B).W (law L B).κ ((law L B).λx * L) (G1_is L B b hB h)))

  pub G_is : (aft fwd : ℕ) →
      Is (G L B aft fwd b)
      (doubled (touch L aft fwd) ((law L B).W * between (law L B) 0 (33 * b * L) ((law L B).λx * (fwd - aft))) ((law L B).W * (mass (law L B) 0 (33 * b * L) * ((law L B).λx * (fwd - aft))))) 0
      (2 * full (law L B) L)
  unfolding G
  G_is aft fwd = G_at (fwd - aft) (touch L aft fwd) (span_fits L aft fwd)

-- ---- Q: the layer from no penetration
doubled_mixes : (t : Touch) (i j i' j' c r : ℕ) → doubled t i j * c + doubled t i' j' * r ≡ doubled t (i * c + i' * r) (j * c + j' * r)
doubled_mixes neither i j i' j' c r = omega arith
doubled_mixes one i j i' j' c r = omega arith
doubled_mixes both i j i' j' c r = omega arith

doubled_twice : (t : Touch) (l : Law) (y : Layer) (x : ℕ) → doubled t (in_layer l y (l.λx * x)) (slope l y * (l.λx * x)) ≡ twice t l y x
doubled_twice neither l y x = refl
doubled_twice one l y x = refl
doubled_twice both l y x = refl

module _ {l : Law} {y : Layer} (f : Falling l) (r : Rising l y) (none : y.U' ≡ 0) (never : y.c' ≡ 0) where
  layer_from_nothing : (X : ℕ) → inner l X * y.c + l.W * between l 0 y.U X * (y.d - y.c) ≡ in_layer l y X
  unfolding in_layer
  layer_from_nothing X =
      rw (none, never, sub-zero y.c, sub-zero y.d, ← between_adds f 0 y.U l.κ zero-le r.shallow (le_refl l.κ) X)
      (plain l.W (between l 0 y.U X) (between l y.U l.κ X) (beyond l X) y.c y.d r.proper)
    where
      plain : (W A M e c d : ℕ) → c ≤ d → (W * (A + M) + e) * c + W * A * (d - c) ≡ c * (W * M + e) + d * (W * A)
      plain W A M e c d h = let (k, z) = le_dest h in rw (← z, add-sub_cancel_left c k) (omega arith)

  slope_from_nothing : (X : ℕ) → unit l * X * y.c + l.W * (mass l 0 y.U * X) * (y.d - y.c) ≡ slope l y * X
  unfolding slope
  slope_from_nothing X =
      rw (none, never, sub-zero y.c, sub-zero y.d, ← mass_one f, ← mass_adds f 0 y.U l.κ zero-le r.shallow (le_refl l.κ))
      (plain l.W (mass l 0 y.U) (mass l y.U l.κ) (3 * l.κ ^ 2 * l.W ^ 2) y.c y.d X r.proper)
    where
      plain : (W A M e c d X : ℕ) → c ≤ d → (W * (A + M) + e) * X * c + W * (A * X) * (d - c) ≡ (c * (W * M + e) + d * (W * A)) * X
      plain W A M e c d X h = let (k, z) = le_dest h in rw (← z, add-sub_cancel_left c k) (omega arith)

  -- with the chance c/d of all, and the rest of the chance of what lies below the cut
  twice_from_nothing : (t : Touch) (x : ℕ) →
      doubled t (inner l (l.λx * x)) (unit l * (l.λx * x)) * y.c +
      doubled t (l.W * between l 0 y.U (l.λx * x)) (l.W * (mass l 0 y.U * (l.λx * x))) * (y.d - y.c) ≡ twice t l y x
  twice_from_nothing t x = rw (doubled_mixes, layer_from_nothing (l.λx * x), slope_from_nothing (l.λx * x)) (doubled_twice t l y x)

-- the chance of damage within the span from aft to fwd and within b
pub Q_is : {L B : ℕ} → 0 < L → 0 < B → (aft fwd b : ℕ) → 2 * b ≤ B → Is (Q L B aft fwd b) (in_span (law L B) (layer L B 0 b) L aft fwd) 0 (common (law L B) (layer L B 0 b) L)
unfolding Q in_span layer c d
Q_is {L} {B} hL hB aft fwd b h =
    rw (← twice_from_nothing (law_falls hL hB) (layer_rises L B 0 b hB zero-le h) (no_cut L B b) (no_chance L B b) (touch L aft fwd) (fwd - aft), denominators (unit (law L B)) ((law L B).λx * L) (5 * B ^ 2))
    (is_mixed (layer_rises L B 0 b hB zero-le h).positive (P_is hL hB aft fwd) (G_is hL hB b h aft fwd) (C_is B b hB h) (c_at_most B b h))
  where
    denominators : (u z d : ℕ) → 2 * (d * u * z) ≡ 2 * (u * z) * d
    denominators u z d = omega arith
