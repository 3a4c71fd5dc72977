-- A layer's figures, and the forms of G put together from them. Assumes nothing.
use mathlib.Core.Path.{◌≡◌, ap}
use mathlib.Core.Bool.{Bool, cond}
use Prim.Native.Nat.{ℕ, ◌-◌, ◌*◌, ◌≤◌}
use native.Mathlib.Omega.{arith}
use lib.Dec.{leb}
use Rattle.records.specs.declared.Ends.{Ends}
use Rattle.numbers.specs.Figures.{halves_of, portion_of}
use Rattle.solas.specs.Span.{neither, one, both, touch}
use Rattle.layers.specs.declared.Layer.{Layer}
use Rattle.layers.specs.Layer.{G1Ends, G3Ends, layer_of}
use Rattle.spans.specs.Rounded.{Probable}
use Rattle.penetration.specs.Figures.{plus, minus}
use Rattle.penetration.specs.Penetration.{part_ends, GEnds}
use Rattle.penetration.specs.Reached.{Reached}
use Rattle.spans.proofs.Enclosure.{p_probable}
use Rattle.layers.proofs.Enclosure.{G1_probable}
use Rattle.penetration.proofs.Enclosure.{part_probable}

module _ {L B aft fwd : ℕ} {p : Ends} {y : Layer} (r : Reached L B aft fwd p y) where
  pub depths : (1 ≤ B) × (B ≤ 6000) × (2 * y.depth ≤ B)
  depths = (r.broad, r.narrow, r.deep)

  span : fwd - aft ≤ L
  span = omega (arith, r.within)

  pub g1_is : y.g1 ≡ G1Ends B y.depth
  unfolding layer_of
  g1_is = ap (λ z. z.g1) r.layer

  pub g3_is : y.g3 ≡ G3Ends B y.depth
  unfolding layer_of
  g3_is = ap (λ z. z.g3) r.layer

  pub half_is : y.half ≡ halves_of (G3Ends B y.depth)
  unfolding layer_of
  half_is = ap (λ z. z.half) r.layer

  pub part_is : portion_of (fwd - aft) y.g1 L ≡ part_ends L B (fwd - aft) y.depth
  unfolding part_ends
  part_is = rw g1_is

  pub g1_fits : Probable y.g1
  g1_fits = rw g1_is (G1_probable B y.depth depths)

  pub p_fits : Probable p
  p_fits = rw r.inner (p_probable L (fwd - aft) r.long r.short span)

  pub part_fits : Probable (portion_of (fwd - aft) y.g1 L)
  part_fits = rw part_is (part_probable B y.depth depths L (fwd - aft) r.long r.short span)

  -- ---- G, by the ends that the span touches

  abbrev short : Bool
  short = leb (15 * B * (fwd - aft)) (y.depth * L)

  pub g_of_ship : touch L aft fwd ≡ both → y.g1 ≡ GEnds L B aft fwd y.depth
  unfolding GEnds
  g_of_ship t = rw t g1_is

  pub g_of_one_end : {u : Bool} {part : Ends} → touch L aft fwd ≡ one → u ≡ short → part ≡ portion_of (fwd - aft) y.g1 L →
      cond u (halves_of (plus p part)) (minus part y.half) ≡ GEnds L B aft fwd y.depth
  unfolding GEnds
  g_of_one_end t d e = rw (t, d, e, part_is, half_is, r.inner)

  pub g_of_inner : {u : Bool} {part : Ends} → touch L aft fwd ≡ neither → u ≡ short → part ≡ portion_of (fwd - aft) y.g1 L →
      cond u p (minus part y.g3) ≡ GEnds L B aft fwd y.depth
  unfolding GEnds
  g_of_inner t d e = rw (t, d, e, part_is, g3_is, r.inner)
