-- Sums over all groups of a ship, as fractions over one denominator. Assumes nothing.
use Prim.Native.Nat.{ℕ, zero, suc, ◌+◌, ◌-◌, ◌≤◌, ◌<◌}
use mathlib.Core.Path.{◌≡◌}
use native.Mathlib.Nat.{le_refl}
use native.Mathlib.Omega.{arith}
use Rattle.laws.specs.Fraction.{Fraction, Is, ◌≈◌, ◌≺◌, whole, ◌⊹◌}
use Rattle.laws.proofs.Fraction.{is_⊹, is_⊝, is_shifted, is_nothing, is_one, same, strictly_below}
use Rattle.laws.proofs.FractionSum.{is_up_to}
use Rattle.solas.specs.Ship.{Ship, Zoned}
use Rattle.solas.specs.Share.{within, share}
use Rattle.solas.specs.Count.{added, taken, groups, Group}
use Rattle.solas.specs.Total.{over_groups, all_shares, middle_span, all_without_middle, first_of_pair, all_with_zone_back}
use Rattle.solas.proofs.Count.{counted_once, groups_add, groups_nothing, group_not_above}

pub is_over_groups : (s : Ship) {f : ℕ → ℕ → Fraction} {u w : ℕ → ℕ → ℕ} {d : ℕ} → 0 < d → ((a n : ℕ) → Group s a n → Is (f a n) (u a n) (w a n) d) →
    Is (over_groups f s.m) (groups u s.m) (groups w s.m) d
unfolding over_groups groups
is_over_groups s p h =
    is_up_to s.m p (λ i q. is_up_to (s.m - i) p (λ j r. h (suc i) (suc j) (record { from = omega arith; some = omega arith; fits = omega arith })))

-- where the zones from a to e have the figure F over d
module _ (s : Ship) (h : Zoned s) (b : ℕ) (F : ℕ → ℕ → ℕ) (d : ℕ) (p : 0 < d)
    (within_is : (a e : ℕ) → 1 ≤ a → a ≤ e → e ≤ s.m → Is (within s a e b) (F a e) 0 d)
    (share_is : (a n : ℕ) → Group s a n → Is (share s a n b) (added F a n) (taken F a n) d)
  where
    none : ℕ → ℕ → ℕ
    none a n = 0

    ship_is : Is (within s 1 s.m b) (F 1 s.m) 0 d
    ship_is = within_is 1 s.m (le_refl 1) h.some (le_refl s.m)

    all_is : Is (all_shares s b) (F 1 s.m) 0 d
    unfolding all_shares
    all_is = is_shifted (F 1 s.m) 0 (omega (arith, counted_once F s.m h.some)) (is_over_groups s p share_is)

    pub total_is_the_ship : all_shares s b ≈ within s 1 s.m b
    total_is_the_ship = same p all_is ship_is

    -- what the two slips leave out and put back
    middle : ℕ → ℕ → ℕ
    middle a zero = 0
    middle a (suc zero) = 0
    middle a (suc (suc zero)) = 0
    middle a (suc (suc (suc k))) = F (a + 1) (a + k + 1)

    first : ℕ → ℕ → ℕ
    first a zero = 0
    first a (suc zero) = 0
    first a (suc (suc zero)) = F a a
    first a (suc (suc (suc k))) = 0

    middle_is : (a n : ℕ) → Group s a n → Is (middle_span s a n b) (middle a n) (none a n) d
    unfolding middle_span middle none
    middle_is a zero g = is_nothing p
    middle_is a (suc zero) g = is_nothing p
    middle_is a (suc (suc zero)) g = is_nothing p
    middle_is a (suc (suc (suc k))) g = within_is (a + 1) (a + k + 1) (omega arith) (omega arith) (omega (arith, g.fits))

    first_is : (a n : ℕ) → Group s a n → Is (first_of_pair s a n b) (first a n) (none a n) d
    unfolding first_of_pair first none
    first_is a zero g = is_nothing p
    first_is a (suc zero) g = is_nothing p
    first_is a (suc (suc zero)) g = within_is a a g.from (le_refl a) (omega (arith, g.fits))
    first_is a (suc (suc (suc k))) g = is_nothing p

    nothing : groups none s.m ≡ 0
    unfolding none
    nothing = groups_nothing s.m

    all_middle : Is (over_groups (λ a n. middle_span s a n b) s.m) (groups middle s.m) 0 d
    all_middle = rw nothing at (is_over_groups s p middle_is)

    all_first : Is (over_groups (λ a n. first_of_pair s a n b) s.m) (groups first s.m) 0 d
    all_first = rw nothing at (is_over_groups s p first_is)

    -- the total without the middle spans, and with a zone put back
    without_is : Is (all_without_middle s b) (F 1 s.m) (groups middle s.m) d
    unfolding all_without_middle
    without_is =
        is_shifted (F 1 s.m) (groups middle s.m)
        (omega (arith, counted_once F s.m h.some, groups_add (added F) none s.m, groups_add (taken F) middle s.m, nothing))
        (is_over_groups s p (λ a n g. is_⊝ (share_is a n g) (middle_is a n g)))

    back_is : Is (all_with_zone_back s b) (F 1 s.m + groups first s.m) 0 d
    unfolding all_with_zone_back
    back_is =
        is_shifted (F 1 s.m + groups first s.m) 0
        (omega (arith, counted_once F s.m h.some, groups_add (added F) first s.m, groups_add (taken F) none s.m, nothing))
        (is_over_groups s p (λ a n g. is_⊹ (share_is a n g) (first_is a n g)))

    pub middle_lost : all_without_middle s b ⊹ over_groups (λ a n. middle_span s a n b) s.m ≈ within s 1 s.m b
    middle_lost = same p (is_shifted (F 1 s.m) 0 (omega arith) (is_⊹ without_is all_middle)) ship_is

    pub zone_gained : all_with_zone_back s b ≈ within s 1 s.m b ⊹ over_groups (λ a n. first_of_pair s a n b) s.m
    zone_gained = same p back_is (is_⊹ ship_is all_first)

    -- where the ship's figure is the whole of d, and no span's is 0: the first three zones have a middle, the first two a zone to put back
    module _ (all : F 1 s.m ≡ d) (above : (a e : ℕ) → 1 ≤ a → a ≤ e → e ≤ s.m → 0 < F a e) where
      pub middle_missed : 3 ≤ s.m → all_without_middle s b ≺ whole 1
      unfolding middle
      middle_missed q =
          strictly_below without_is (is_one p) (omega (arith, all, above 2 2 (omega arith) (le_refl 2) (omega arith), group_not_above middle s.m 0 2 (omega arith)))

      pub zone_too_much : 2 ≤ s.m → whole 1 ≺ all_with_zone_back s b
      unfolding first
      zone_too_much q =
          strictly_below (is_one p) back_is (omega (arith, all, above 1 1 (le_refl 1) (le_refl 1) (omega arith), group_not_above first s.m 0 1 (omega arith)))
