-- Boundaries: document 01's v and that of a row are those of 002, 2.7.7, up to 12.5 m above the draught; and where the two part. Assumes nothing.
use Prim.Native.Nat.{ℕ, ◌+◌, ◌-◌, ◌*◌, ◌≤◌, ◌<◌, min}
use mathlib.Core.Path.{◌≡◌, refl}
use mathlib.Core.List.{[], ◌∷◌}
use native.Mathlib.Omega.{arith}
use lib.Dec.{lit<}
use Rattle.laws.specs.Fraction.{Fraction, ◌over◌, whole, Is, ◌≈◌, ◌≺◌, ◌⊝◌}
use Rattle.laws.specs.Polynomial.{X, C, ◌:+◌, ◌:*◌}
use Rattle.laws.proofs.Choice.{split}
use Rattle.laws.proofs.Fraction.{is_over, is_nothing, is_one, is_widened, is_shifted, is_⊝, same, below, strictly_below}
use Rattle.laws.proofs.FractionTerm.{Term, number, ratio, ◌⊹ᵗ◌, ◌⊝ᵗ◌, ◌⊛ᵗ◌, also, quotient_by}
use Rattle.laws.proofs.FractionOrder.{test_passes, test_fails}
use Rattle.solas.specs.Height.{v, v_at, row_v}
use Rattle.solas.proofs.Height.{v_slopes, v_at_above, v_at_full, v_at_short, v_at_top, v_at_waterline, v_at_at_most}
use Rattle.regulation.specs.RegulationIndex as regulation
use Rattle.regulation.specs.RegulationIndex.{millimetres, none, at, uppermost, counted, v_of, held, vm}
use Rattle.regulation.specs.OfSolasIndex.{HeightIs01's, PartedAbove, UppermostParts, vm_of_row, RowsPartAbove, RowIs01's, LastRowIs01's}
use Rattle.regulation.proofs.Units.{is_millimetres}

-- document 01's parts
pub in_parts : (n : ℕ) → Is (n over 916500) n 0 916500
in_parts n = is_over n (lit< tt)

is_full : Is (whole 1) 916500 0 916500
is_full = is_one (lit< tt)

-- ---- 2.7.7.2 in these parts, up to the knuckle at 7.8 m above the draught and beyond it
is_knuckle : Is (78 over 10) 7800 0 1000
is_knuckle = is_widened 100 (is_over 78 (lit< tt))

module _ (H d : ℕ) where
  abbrev aboveᵗ : Term (H ∷ d ∷ []) (millimetres H ⊝ millimetres d)
  aboveᵗ = ratio (X 0) (C 1000) (lit< tt) (is_millimetres H) ⊝ᵗ ratio (X 1) (C 1000) (lit< tt) (is_millimetres d)

  is_above : Is (millimetres H ⊝ millimetres d) H d 1000
  is_above = also aboveᵗ (X 0) (X 1) (C 1000) tt

  is_v_low : H ≤ d + 7800 → Is (regulation.v (millimetres H) (millimetres d)) (94 * H) (94 * d) 916500
  unfolding regulation.v
  is_v_low p =
      rw (test_passes (below (lit< tt) is_above is_knuckle (omega arith)))
      (also (number 8 10 tt ⊛ᵗ quotient_by aboveᵗ (number 78 10 tt) 78 10 tt tt) (C 94 :* X 0) (C 94 :* X 1) (C 916500) tt)

  pub is_v_high : d + 7800 < H → Is (regulation.v (millimetres H) (millimetres d)) (733200 + 39 * H) (39 * (d + 7800)) 916500
  unfolding regulation.v
  is_v_high p =
      rw (test_fails (strictly_below is_knuckle is_above (omega arith)))
      (also (number 8 10 tt ⊹ᵗ number 2 10 tt ⊛ᵗ quotient_by (aboveᵗ ⊝ᵗ number 78 10 tt) (number 47 10 tt) 47 10 tt tt)
      (C 733200 :+ C 39 :* X 0) (C 39 :* (X 1 :+ C 7800)) (C 916500) tt)

is_v_at : (H d : ℕ) → d ≤ H → H ≤ d + 12500 → Is (regulation.v (millimetres H) (millimetres d)) (v_at H d) 0 916500
unfolding v_at
is_v_at H d p q =
    split H (d + 7800) (λ low. is_shifted (v (H - d)) 0 (omega (arith, v_slopes (H - d))) (is_v_low H d low))
    (λ high. is_shifted (v (H - d)) 0 (omega (arith, v_slopes (H - d))) (is_v_high H d high))

pub height_is_01's : HeightIs01's
height_is_01's H d p q = same (lit< tt) (is_v_at H d p q) (in_parts (v_at H d))

-- ---- where they part
rises : {H K : ℕ} (d : ℕ) → H < K → regulation.v (millimetres H) (millimetres d) ≺ regulation.v (millimetres K) (millimetres d)
rises {H} {K} d p =
    split K (d + 7800) (λ low. strictly_below (is_v_low H d (omega arith)) (is_v_low K d low) (omega arith))
    (λ high. split H (d + 7800) (λ low. strictly_below (is_v_low H d low) (is_v_high K d high) (omega arith)) (λ high'. strictly_below (is_v_high H d high') (is_v_high K d high) (omega arith)))

pub parted_above : PartedAbove
parted_above H d p =
    record { uncapped = strictly_below is_full (is_v_high H d (omega arith)) (omega arith); rising = λ K. rises d; capped = v_at_full d (omega arith) }

pub is_uppermost : (H d : ℕ) → Is (v_of (uppermost (millimetres H)) (millimetres d)) 916500 0 916500
unfolding v_of
is_uppermost H d = is_full

pub uppermost_parts : UppermostParts
uppermost_parts H d = record {
  any_height = same (lit< tt) (is_uppermost H d) is_full;
  too_low = v_at_short d;
  high = λ p. same (lit< tt) (is_uppermost H d) (rw (v_at_full d p) (in_parts 916500));
}

-- ---- 2.7.7.1
pub is_held : {f : Fraction} {a b d : ℕ} → 0 < d → Is f a b d → Is (held f) (min (a - b) d) 0 d
unfolding held
is_held {f} {a} {b} {d} p h =
    split a b (λ l. rw (test_passes (below p h (is_nothing p) (omega arith))) (is_shifted _ 0 (omega arith) (is_nothing p)))
    (λ l. rw (test_fails (strictly_below (is_nothing p) h (omega arith)))
    (split a (b + d) (λ m. rw (test_passes (below p h (is_one p) (omega arith))) (is_shifted _ 0 (omega arith) h))
    (λ m. rw (test_fails (strictly_below (is_one p) h (omega arith))) (is_shifted _ 0 (omega arith) (is_one p)))))

pub not_above_none : {H d : ℕ} → H ≤ d → counted (millimetres H) (millimetres d) ≡ none
unfolding counted
not_above_none {H} {d} l = rw (test_passes (below (lit< tt) (is_millimetres H) (is_millimetres d) (omega arith))) refl

pub above_counts : {H d : ℕ} → d < H → counted (millimetres H) (millimetres d) ≡ at (millimetres H)
unfolding counted
above_counts {H} {d} l = rw (test_fails (strictly_below (is_millimetres d) (is_millimetres H) (omega arith))) refl

pub is_counted : (H d : ℕ) → H ≤ d + 12500 → Is (v_of (counted (millimetres H) (millimetres d)) (millimetres d)) (v_at H d) 0 916500
unfolding v_of
is_counted H d p =
    split H d (λ l. rw (not_above_none l, v_at_waterline l) (is_nothing (lit< tt))) (λ l. rw (above_counts l) (is_v_at H d (omega arith) p))

pub row_is_01's : RowIs01's
unfolding vm row_v
row_is_01's H' H d p q =
    same (lit< tt) (is_shifted (v_at H d - v_at H' d) 0 (omega (arith, v_at_at_most H d)) (is_held (lit< tt) (is_⊝ (is_counted H d q) (is_counted H' d (omega arith)))))
    (in_parts (v_at H d - v_at H' d))

-- above 12.5 m the row's own v is above 1, and what is taken off for the row below is at most that row's
module _ (H' H d : ℕ) (p : H' < H) (q : d + 12500 < H) where
  over_two : d < H' → row_v H' H d over 916500 ≺ vm_of_row H' H d
  unfolding vm row_v v_of
  over_two l =
      rw (above_counts {H = H'} l, above_counts {H = H} {d = d} (omega arith), v_at_full {H = H} d (omega arith))
      (split H' (d + 12500)
      (λ low. strictly_below (in_parts (916500 - v_at H' d)) (is_held (lit< tt) (is_⊝ (is_v_high H d (omega arith)) (is_v_at H' d (omega arith) low)))
      (omega (arith, v_at_above {H = H'} l, v_at_at_most H' d)))
      (λ high. strictly_below (in_parts (916500 - v_at H' d)) (is_held (lit< tt) (is_⊝ (is_v_high H d (omega arith)) (is_v_high H' d (omega arith))))
      (omega (arith, v_at_full {H = H'} d (omega arith)))))

  over_none : H' ≤ d → vm_of_row H' H d ≈ row_v H' H d over 916500
  unfolding vm row_v v_of
  over_none l =
      rw (not_above_none {H = H'} l, above_counts {H = H} {d = d} (omega arith), v_at_full {H = H} d (omega arith), v_at_waterline {H = H'} l)
      (same (lit< tt) (is_shifted 916500 0 (omega arith) (is_held (lit< tt) (is_⊝ (is_v_high H d (omega arith)) (is_nothing (lit< tt))))) (in_parts 916500))

pub rows_part_above : RowsPartAbove
rows_part_above H' H d p q = record { less = λ l. over_two H' H d p (omega arith) (omega arith); alone = λ l. over_none H' H d p (omega arith) l }

-- where the regulation's v is above 1 below the last row, it is held at 0 there, and document 01 has nothing left
pub last_row_is_01's : LastRowIs01's
unfolding vm row_v v_of
last_row_is_01's ds d H' H p q =
    same (lit< tt)
    (rw (v_at_top {ds = ds} {H = H} {d = d} q p)
    (split H' (d + 12500) (λ l. is_shifted _ 0 (omega arith) (is_held (lit< tt) (is_⊝ (is_uppermost H d) (is_counted H' d l))))
    (λ l. rw (above_counts {H = H'} {d = d} (omega arith), v_at_full {H = H'} d (omega arith))
    (is_shifted _ 0 (omega arith) (is_held (lit< tt) (is_⊝ (is_uppermost H d) (is_v_high H' d (omega arith)))))))) (in_parts (v_at H d - v_at H' d))
