-- What a row of a sound ship takes away is never more than what it adds, and what it adds more is at most the whole ship; at the half breadth the
-- ship is one and no span of zones is nothing. Assumes nothing.
use Prim.Native.Nat.{ℕ, zero, suc, ◌+◌, ◌*◌, ◌≤◌, ◌<◌, zero-le}
use mathlib.Core.Path.{◌≡◌, refl, ap, ◌∙◌}
use native.Mathlib.Nat.{le_refl, le_of_eq}
use native.Mathlib.Omega.{arith}
use Rattle.laws.proofs.Fraction.{is_≈, ≈_sym}
use Rattle.laws.proofs.FractionOrder.{numerator_above_0}
use Rattle.solas.specs.Ship.{Ship, Sound}
use Rattle.solas.specs.Share.{within}
use Rattle.solas.specs.Penetration.{c, d}
use Rattle.solas.specs.General.{in_span, law, layer}
use Rattle.solas.specs.Count.{added, taken, Group}
use Rattle.solas.proofs.Count.{excess_not_above}
use Rattle.solas.proofs.Ship.{aft_next, fwd_next, span, ends_within}
use Rattle.solas.proofs.GeneralSpan.{group_share_not_negative, pair_share_not_negative, whole_ship_at_most_one, whole_ship_one}
use Rattle.solas.proofs.Figure.{figure, over, over_positive, falls, rises, within_is}
use Rattle.solas.proofs.Depth.{no_cut, no_chance, c_one}
use Rattle.solas.proofs.HalfBreadth.{Q_half_breadth}
use Rattle.solas.proofs.SpanChance.{P_above}

module _ (s : Ship) (h : Sound s) (b' b : ℕ) where
  pub taken_not_above : (a n : ℕ) → Group s a n → taken (figure s b' b) a n ≤ added (figure s b' b) a n
  unfolding added taken
  taken_not_above a zero g = le_refl 0
  taken_not_above a (suc zero) g = zero-le
  taken_not_above a (suc (suc zero)) g =
      pair_share_not_negative (law s.L s.B) (layer s.L s.B b' b) s.L (s.aft a) (s.fwd a) (s.aft (a + 1)) (s.fwd (a + 1))
      (h.zones.zone a g.from (omega (arith, g.fits))) (h.zones.next a g.from (omega (arith, g.fits)))
      (h.zones.zone (a + 1) (omega arith) (omega (arith, g.fits))) (ends_within h.zones (omega arith) (omega (arith, g.fits)))
  taken_not_above a (suc (suc (suc k))) g =
      let e : s.fwd (a + k + 1 + 1) ≡ s.fwd (a + k + 2) = ap (λ z. s.fwd z) (omega arith) in
      group_share_not_negative (law s.L s.B) (layer s.L s.B b' b) s.L (s.aft a) (s.aft (a + 1)) (s.fwd (a + k + 1)) (s.fwd (a + k + 2))
      (aft_next h.zones a g.from (omega (arith, g.fits)))
      (omega (arith, fwd_next h.zones (a + k + 1) (omega arith) (omega (arith, g.fits))))
      (ends_within h.zones (omega arith) (omega (arith, g.fits)))

  -- all that is added more, by all groups together, is the whole ship's
  figure_of_ship : figure s b' b 1 s.m ≡ in_span (law s.L s.B) (layer s.L s.B b' b) s.L 0 s.L
  figure_of_ship = rw (h.zones.stern, h.zones.bow) refl

  module _ (q : b' ≤ b) (p : 2 * b ≤ s.B) where
    pub ship_not_above : figure s b' b 1 s.m ≤ over s
    unfolding layer c d
    ship_not_above = rw figure_of_ship (whole_ship_at_most_one (law s.L s.B) (layer s.L s.B b' b) s.L (falls s h) (rises s h b' b q p))

    pub added_not_above : (a n : ℕ) → Group s a n → added (figure s b' b) a n ≤ taken (figure s b' b) a n + over s
    added_not_above a n g =
        omega (
          arith,
          ship_not_above,
          excess_not_above (figure s b' b) s.m h.zones.some (λ a n x y z. taken_not_above a n (record { from = x; some = y; fits = z })) a n g.from g.some g.fits,
        )

-- at the half breadth the whole ship is one
pub ship_is_one : (s : Ship) (h : Sound s) (b : ℕ) → 2 * b ≡ s.B → figure s 0 b 1 s.m ≡ over s
unfolding layer c d
ship_is_one s h b e =
    figure_of_ship s h 0 b
    ∙ whole_ship_one (law s.L s.B) (layer s.L s.B 0 b) s.L (falls s h) (rises s h 0 b (omega arith) (omega arith)) (no_cut s.L s.B b) (no_chance s.L s.B b) (c_one s.B b e)

-- and every span of zones has something of it
pub span_above : (s : Ship) (h : Sound s) (b : ℕ) → 2 * b ≡ s.B → (a e : ℕ) → 1 ≤ a → a ≤ e → e ≤ s.m → 0 < figure s 0 b a e
unfolding within
span_above s h b half a e x y z =
    numerator_above_0 (over_positive s h)
    (is_≈ (≈_sym (Q_half_breadth h.broad s.L (s.aft a) (s.fwd e) b half)) (within_is s h b (le_of_eq half) a e))
    (P_above s.L (s.aft a) (s.fwd e) (omega (arith, h.long)) (span h.zones x y z))
