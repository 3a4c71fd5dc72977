-- The ends of x·G1/L, G and Q: between them lies the exact figure, and how far they lie apart. Assumes nothing.
use mathlib.Core.Path.{◌≡◌, refl}
use mathlib.Core.Bool.{Bool, true, false, cond}
use Prim.Native.Nat.{ℕ, ◌-◌, ◌*◌, ◌≤◌, ◌<◌}
use native.Mathlib.Nat.{mul-le-mul_left, mul-le-mul_right, mul-pos, mul-sub, le_of_lt}
use native.Mathlib.Omega.{arith}
use borrow.Author.Tests.{leb-false}
use lib.Dec.{leb}
use Rattle.laws.specs.Fraction.{Fraction, Is, ◌over◌, ◌≼◌, ◌⊹◌, ◌⊝◌, ◌⊛◌}
use Rattle.laws.proofs.Fraction.{≼_trans, is_over, is_⊛, is_shifted, below_across}
use Rattle.records.specs.declared.Ends.{Ends}
use Rattle.numbers.specs.Figures.{Between, halves_of}
use Rattle.solas.specs.Span.{Touch, neither, one, both, touch, half, p}
use Rattle.solas.specs.Penetration.{G1, G3, GAt, G, Q}
use Rattle.solas.proofs.Within.{is_half}
use Rattle.spans.specs.Rounded.{Probable, Near}
use Rattle.spans.specs.Span.{p_ends}
use Rattle.spans.proofs.Rounded.{Enclosed, between}
use Rattle.spans.proofs.Enclosure.{p_enclosed, p_near, p_probable, P_enclosed, P_near, P_probable}
use Rattle.layers.specs.Layer.{G3Ends}
use Rattle.penetration.specs.Figures.{plus, minus}
use Rattle.penetration.specs.Penetration.{part_ends, GEndsAt, GEnds, QEnds}
use Rattle.layers.proofs.Depth.{products, C_over, C_at_most_one, G1_is, G1_proper, G3_is, G3_proper}
use Rattle.layers.proofs.Enclosure.{G1_enclosed, G1_near, G1_probable, G3_enclosed, G3_near, G3_probable}
use Rattle.penetration.proofs.Figures.{enclosed_plus, enclosed_minus, enclosed_portion, enclosed_half, enclosed_mixed, near_plus, near_minus, near_portion, near_half, near_mixed, probable_minus, probable_portion, probable_half, probable_halves, probable_mixed}

-- a figure that is wider is within
wider : {w v : ℕ} {g : Ends} → w ≤ v → Near w g → Near v g
wider h k = record { near = omega (arith, k.near) }

half_not_above : {f : Fraction} {n d : ℕ} → 0 < d → Is f n 0 d → half f ≼ f
half_not_above p h = below_across (is_half h) h (omega arith) p (omega arith)

module _ (B b : ℕ) (h : (1 ≤ B) × (B ≤ 6000) × (2 * b ≤ B)) (L x : ℕ) (some : 1 ≤ L) (short : L ≤ 19800) (within : x ≤ L) where
  -- ---- x·G1/L

  pub part_enclosed : Enclosed (part_ends L B x b) ((x over L) ⊛ G1 B b)
  unfolding part_ends
  part_enclosed = enclosed_portion x L some (G1_enclosed B b h)

  pub part_near : Near 2 (part_ends L B x b)
  unfolding part_ends
  part_near = near_portion x L some within (G1_near B b h)

  pub part_probable : Probable (part_ends L B x b)
  unfolding part_ends
  part_probable = probable_portion x L some within (G1_probable B b h)

  -- ---- where the span is long, G3 is not above x·G1/L, and so neither is its half

  cross : (N M : ℕ) → 2 * M ≤ b * N → b * L ≤ 15 * B * x → M * (L * (7500 * B * B)) ≤ x * N * (56250 * B * B * B)
  cross N M k l =
      let low : 2 * M * L ≤ b * N * L = mul-le-mul_right L k in
      let high : b * L * N ≤ 15 * B * x * N = mul-le-mul_right N l in
      let both : 2 * M * L ≤ 15 * B * x * N = omega arith in
      omega (arith, mul-le-mul_left (3750 * B * B) both)

  thirds : 2 * (1375 * b * b * B - 363 * b * b * b) ≤ b * (5500 * b * B - 1089 * b * b)
  thirds = let q = products B b h in omega (arith, mul-sub b (5500 * b * B) (1089 * b * b))

  part_is : Is ((x over L) ⊛ G1 B b) (x * (5500 * b * B - 1089 * b * b)) 0 (L * (7500 * B * B))
  part_is = is_shifted (x * (5500 * b * B - 1089 * b * b)) 0 (omega arith) (is_⊛ (is_over x some) (G1_is B b h))

  G3_below : b * L ≤ 15 * B * x → G3 B b ≼ (x over L) ⊛ G1 B b
  G3_below l =
      below_across (G3_is B b h) part_is (G3_proper B b h).0 (mul-pos some (G1_proper B b h).0)
      (omega (arith, cross (5500 * b * B - 1089 * b * b) (1375 * b * b * B - 363 * b * b * b) thirds l))

  half_below : b * L ≤ 15 * B * x → half (G3 B b) ≼ (x over L) ⊛ G1 B b
  half_below l = ≼_trans (half_not_above (G3_proper B b h).0 (G3_is B b h)) (G3_below l)

  -- ---- G, by the ends that the span touches

  GAt_enclosed : (t : Touch) → Enclosed (GEndsAt t L B x b) (GAt t L B x b)
  GAt_enclosed neither = chosen (leb (15 * B * x) (b * L)) refl
    where
      chosen : (u : Bool) → leb (15 * B * x) (b * L) ≡ u →
          Enclosed (cond u (p_ends L x) (minus (part_ends L B x b) (G3Ends B b))) (cond u (p L x) ((x over L) ⊛ G1 B b ⊝ G3 B b))
      chosen true e = p_enclosed L x some short within
      chosen false e = enclosed_minus (G3_below (le_of_lt (leb-false _ _ e))) part_enclosed (G3_enclosed B b h)
  GAt_enclosed one = chosen (leb (15 * B * x) (b * L)) refl
    where
      chosen : (u : Bool) → leb (15 * B * x) (b * L) ≡ u →
          Enclosed (cond u (halves_of (plus (p_ends L x) (part_ends L B x b))) (minus (part_ends L B x b) (halves_of (G3Ends B b))))
          (cond u (half (p L x ⊹ (x over L) ⊛ G1 B b)) ((x over L) ⊛ G1 B b ⊝ half (G3 B b)))
      chosen true e = enclosed_half (enclosed_plus (p_enclosed L x some short within) part_enclosed)
      chosen false e = enclosed_minus (half_below (le_of_lt (leb-false _ _ e))) part_enclosed (enclosed_half (G3_enclosed B b h))
  GAt_enclosed both = G1_enclosed B b h

  GAt_near : (t : Touch) → Near 3 (GEndsAt t L B x b)
  GAt_near neither = chosen (leb (15 * B * x) (b * L))
    where
      chosen : (u : Bool) → Near 3 (cond u (p_ends L x) (minus (part_ends L B x b) (G3Ends B b)))
      chosen true = wider (omega arith) (p_near L x some short within)
      chosen false = near_minus part_near (G3_near B b h)
  GAt_near one = chosen (leb (15 * B * x) (b * L))
    where
      chosen : (u : Bool) → Near 3 (cond u (halves_of (plus (p_ends L x) (part_ends L B x b))) (minus (part_ends L B x b) (halves_of (G3Ends B b))))
      chosen true = wider (omega arith) (near_half (near_plus (p_near L x some short within) part_near))
      chosen false = near_minus part_near (near_half (G3_near B b h))
  GAt_near both = wider (omega arith) (G1_near B b h)

  GAt_probable : (t : Touch) → Probable (GEndsAt t L B x b)
  GAt_probable neither = chosen (leb (15 * B * x) (b * L))
    where
      chosen : (u : Bool) → Probable (cond u (p_ends L x) (minus (part_ends L B x b) (G3Ends B b)))
      chosen true = p_probable L x some short within
      chosen false = probable_minus part_probable (G3_probable B b h)
  GAt_probable one = chosen (leb (15 * B * x) (b * L))
    where
      chosen : (u : Bool) → Probable (cond u (halves_of (plus (p_ends L x) (part_ends L B x b))) (minus (part_ends L B x b) (halves_of (G3Ends B b))))
      chosen true = probable_halves (p_probable L x some short within) part_probable
      chosen false = probable_minus part_probable (probable_half (G3_probable B b h))
  GAt_probable both = G1_probable B b h

module _ (L aft fwd : ℕ) (some : 1 ≤ L) (short : L ≤ 19800) (within : fwd ≤ L) (B b : ℕ) (h : (1 ≤ B) × (B ≤ 6000) × (2 * b ≤ B)) where
  pub G_enclosed : Enclosed (GEnds L B aft fwd b) (G L B aft fwd b)
  unfolding GEnds G
  G_enclosed = GAt_enclosed B b h L (fwd - aft) some short (omega arith) (touch L aft fwd)

  pub G_near : Near 3 (GEnds L B aft fwd b)
  unfolding GEnds
  G_near = GAt_near B b h L (fwd - aft) some short (omega arith) (touch L aft fwd)

  pub G_probable : Probable (GEnds L B aft fwd b)
  unfolding GEnds
  G_probable = GAt_probable B b h L (fwd - aft) some short (omega arith) (touch L aft fwd)

  -- ---- Q

  pub Q_enclosed : Enclosed (QEnds L B aft fwd b) (Q L B aft fwd b)
  unfolding QEnds Q
  Q_enclosed = let q = C_at_most_one B b h in enclosed_mixed q.0 q.1 (C_over B b h) (P_enclosed L aft fwd some short within) G_enclosed

  pub Q_between : Between (QEnds L B aft fwd b) (Q L B aft fwd b)
  Q_between = between Q_enclosed

  pub Q_near : Near 4 (QEnds L B aft fwd b)
  unfolding QEnds
  Q_near = let q = C_at_most_one B b h in near_mixed q.0 q.1 (wider (omega arith) (P_near L aft fwd some short within)) G_near

  pub Q_probable : Probable (QEnds L B aft fwd b)
  unfolding QEnds
  Q_probable = let q = C_at_most_one B b h in probable_mixed q.0 q.1 (P_probable L aft fwd some short within) G_probable
