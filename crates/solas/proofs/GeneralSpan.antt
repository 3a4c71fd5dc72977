-- Spans of a ship under the general damage length law: no share is negative, and the whole ship has at most one. Assumes nothing.
use Prim.Native.Nat.{ℕ, ◌+◌, ◌-◌, ◌*◌, ◌≤◌, ◌<◌}
use mathlib.Core.Bool.{cond}
use mathlib.Core.Path.{◌≡◌, refl, ap, ◌∙◌}
use native.Mathlib.Nat.{mul-le-mul_right, zero-add, add-zero, sub-zero, mul-zero, sub-eq-zero_of_le}
use native.Mathlib.Omega.{arith}
use lib.Dec.{eqb}
use borrow.Author.Tests.{eq-eqb, ne_eqb}
use Rattle.laws.specs.Span.{SpanFunction}
use Rattle.laws.proofs.Choice.{either_way}
use Rattle.laws.proofs.Span.{unit_spans, share_not_negative}
use Rattle.solas.specs.Span.{touch}
use Rattle.solas.specs.General.{Law, Falling, Layer, Rising, in_layer, slope, in_span, common}
use Rattle.solas.proofs.GeneralLayer.{layer_spans, slope_at_most_one, slope_one}

-- ---- what a span has, by the ends that it touches

-- 1 where the place is that end of the ship, and 0 where it is not
unfoldable pub reaches : ℕ → ℕ → ℕ
reaches place end = cond (eqb place end) 1 0

pub reaches_at_most_one : (place end : ℕ) → reaches place end ≤ 1
unfolding reaches
reaches_at_most_one place end = either_way (eqb place end) (λ e. rw e (omega arith)) (λ e. rw e (omega arith))

pub reaches_itself : (end : ℕ) → reaches end end ≡ 1
unfolding reaches
reaches_itself end = rw (eq-eqb end end refl)

pub reaches_not : {place end : ℕ} → (place ≡ end → ⊥) → reaches place end ≡ 0
unfolding reaches
reaches_not {place} {end} h = rw (ne_eqb place end h)

-- for two ends less those that a span touches it has what an inner one has, and for each that it touches its share of the ship
pub by_ends_lem : (l : Law) (y : Layer) (L aft fwd : ℕ) →
    in_span l y L aft fwd ≡
    (2 - reaches aft 0 - reaches fwd L) * in_layer l y (l.λx * (fwd - aft)) + (reaches aft 0 + reaches fwd L) * (l.λx * slope l y) * (fwd - aft)
unfolding in_span touch reaches
by_ends_lem l y L aft fwd =
    either_way (eqb aft 0) (λ a. either_way (eqb fwd L) (λ f. rw (a, f) (omega arith)) (λ f. rw (a, f) (omega arith)))
    (λ a. either_way (eqb fwd L) (λ f. rw (a, f) (omega arith)) (λ f. rw (a, f) (omega arith)))

pub scaled_spans : (l : Law) (y : Layer) → SpanFunction (l.λx * slope l y) (λ x. in_layer l y (l.λx * x))
scaled_spans l y = unit_spans l.λx (layer_spans l y)

-- ---- no share is negative

without_first : (aft aft' fwd : ℕ) → aft ≤ aft' → fwd - aft - (aft' - aft) ≡ fwd - aft'
without_first aft aft' fwd h = omega arith

without_last : (aft fwd' fwd : ℕ) → fwd' ≤ fwd → fwd - aft - (fwd - fwd') ≡ fwd' - aft
without_last aft fwd' fwd h = omega arith

-- of a group from aft to fwd whose second zone begins at aft' and whose last but one ends at fwd'; that is before aft' where the group is a pair
at_places : {s : ℕ} {h : ℕ → ℕ} → SpanFunction s h → (aft aft' fwd' fwd τa τf : ℕ) → aft ≤ aft' → fwd' ≤ fwd → τa ≤ 1 → τf ≤ 1 →
    (2 - τa) * h (fwd' - aft) + τa * s * (fwd' - aft) + (2 - τf) * h (fwd - aft') + τf * s * (fwd - aft') ≤
    (2 - τa - τf) * h (fwd - aft) + (τa + τf) * s * (fwd - aft) + 2 * h (fwd' - aft')
at_places g aft aft' fwd' fwd τa τf p q a b =
    rw (without_last aft fwd' fwd q, without_first aft aft' fwd p, without_first aft aft' fwd' p) at
    (share_not_negative g (fwd - aft) (fwd - fwd') (aft' - aft) τa τf a b)

module _ (l : Law) (y : Layer) (L : ℕ) where
  -- three zones and more; a pair too, as nothing lies from the second zone back to the first
  pub group_share_not_negative : (aft aft' fwd' fwd : ℕ) → aft < aft' → fwd' < fwd → fwd ≤ L →
      in_span l y L aft fwd' + in_span l y L aft' fwd ≤ in_span l y L aft fwd + in_span l y L aft' fwd'
  group_share_not_negative aft aft' fwd' fwd p q r =
      let inner_aft : reaches aft' 0 ≡ 0 = reaches_not (λ e. omega arith) in
      let inner_fwd : reaches fwd' L ≡ 0 = reaches_not (λ e. omega arith) in
      rw (by_ends_lem l y L aft fwd', by_ends_lem l y L aft' fwd, by_ends_lem l y L aft fwd, by_ends_lem l y L aft' fwd', inner_aft, inner_fwd, sub-zero (2 - reaches aft 0), add-zero (reaches aft 0), zero-add (reaches fwd L))
      (omega (arith, at_places (scaled_spans l y) aft aft' fwd' fwd (reaches aft 0) (reaches fwd L) (omega arith) (omega arith) (reaches_at_most_one aft 0) (reaches_at_most_one fwd L)))

  -- what has no length has nothing
  pub empty_span : (aft fwd : ℕ) → fwd ≤ aft → in_span l y L aft fwd ≡ 0
  empty_span aft fwd h = rw (by_ends_lem l y L aft fwd, sub-eq-zero_of_le h, mul-zero l.λx, (layer_spans l y).nothing) (omega arith)

  -- two zones, with a gap between them or none
  pub pair_share_not_negative : (aft fwd' aft' fwd : ℕ) → aft < fwd' → fwd' ≤ aft' → aft' < fwd → fwd ≤ L →
      in_span l y L aft fwd' + in_span l y L aft' fwd ≤ in_span l y L aft fwd
  pair_share_not_negative aft fwd' aft' fwd p q r s =
      omega (arith, group_share_not_negative aft aft' fwd' fwd (omega arith) (omega arith) s, empty_span aft' fwd' q)

-- ---- the whole ship

module _ (l : Law) (y : Layer) (L : ℕ) where
  pub whole_ship : in_span l y L 0 L ≡ 2 * (slope l y * (l.λx * L))
  whole_ship = rw (by_ends_lem l y L 0 L, reaches_itself 0, reaches_itself L, sub-zero L) (omega arith)

  pub whole_ship_at_most_one : Falling l → Rising l y → in_span l y L 0 L ≤ common l y L
  whole_ship_at_most_one f r = omega (arith, whole_ship, mul-le-mul_right (l.λx * L) (slope_at_most_one f r))

  -- at the half breadth, where C is one
  pub whole_ship_one : Falling l → Rising l y → y.U' ≡ 0 → y.c' ≡ 0 → y.c ≡ y.d → in_span l y L 0 L ≡ common l y L
  whole_ship_one f r a b e = whole_ship ∙ ap (λ s. 2 * (s * (l.λx * L))) (slope_one f r a b e)
