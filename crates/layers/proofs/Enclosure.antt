-- The ends of G1 and G3: between them lies the exact figure, and how far they lie apart. Assumes nothing.
use Prim.Native.Nat.{ℕ, ◌*◌, ◌≤◌}
use Rattle.solas.specs.Penetration.{G1, G3}
use Rattle.spans.specs.Rounded.{Probable, Near}
use Rattle.spans.proofs.Rounded.{Enclosed, ends_enclose, ends_near, ends_probable}
use Rattle.layers.specs.Layer.{G1Ends, G3Ends}
use Rattle.layers.proofs.Depth.{G1_is, G1_proper, G3_is, G3_proper}

module _ (B b : ℕ) (h : (1 ≤ B) × (B ≤ 6000) × (2 * b ≤ B)) where
  pub G1_enclosed : Enclosed (G1Ends B b) (G1 B b)
  unfolding G1Ends
  G1_enclosed = ends_enclose (G1_proper B b h).0 (G1_is B b h)

  pub G1_near : Near 1 (G1Ends B b)
  unfolding G1Ends
  G1_near = ends_near (G1_proper B b h).0 (G1_is B b h)

  pub G1_probable : Probable (G1Ends B b)
  unfolding G1Ends
  G1_probable = let q = G1_proper B b h in ends_probable q.0 q.1 (G1_is B b h)

  pub G3_enclosed : Enclosed (G3Ends B b) (G3 B b)
  unfolding G3Ends
  G3_enclosed = ends_enclose (G3_proper B b h).0 (G3_is B b h)

  pub G3_near : Near 1 (G3Ends B b)
  unfolding G3Ends
  G3_near = ends_near (G3_proper B b h).0 (G3_is B b h)

  pub G3_probable : Probable (G3Ends B b)
  unfolding G3Ends
  G3_probable = let q = G3_proper B b h in ends_probable q.0 q.1 (G3_is B b h)
