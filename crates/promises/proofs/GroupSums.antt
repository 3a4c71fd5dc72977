-- The lower ends of all groups' shares are together at most one, and the upper ends at least one: the exact shares are one. Assumes nothing.
use Prim.Native.Nat.{ℕ, zero, suc, ◌+◌, ◌-◌, ◌/◌, ◌^◌, ◌≤◌, ◌<◌}
use mathlib.Core.Path.{◌≡◌, refl, sym, ◌∙◌, ap, ap₂}
use mathlib.Core.List.{List, [], ◌∷◌}
use native.Mathlib.Nat.{add-zero}
use native.Mathlib.Omega.{arith}
use lib.Dec.{lit<}
use Rattle.laws.specs.Fraction.{Fraction, whole, Is, ◌≈◌, ◌≼◌, up_to}
use Rattle.laws.specs.Sums.{sum_of, sum_below}
use Rattle.laws.proofs.Fraction.{is_over, is_one, numerators_below, ≈_refl, ≈_sym, ≼_of_≈, ≼_trans, ⊹-≼}
use Rattle.laws.proofs.Sums.{sum_of_append, sum_below_same}
use Rattle.records.specs.declared.Ends.{Ends}
use Rattle.records.specs.declared.Hull.{Hull}
use Rattle.numbers.specs.Figures.{billionths}
use Rattle.solas.specs.Ship.{Ship}
use Rattle.solas.specs.Count.{Group, groups}
use Rattle.solas.specs.Total.{over_groups, all_shares}
use Rattle.solas.proofs.Count.{groups_nothing}
use Rattle.solas.proofs.Promises.{total_is_one}
use Rattle.solas.proofs.Total.{is_over_groups}
use Rattle.spans.specs.Hull.{ship_of}
use Rattle.spans.proofs.Places.{ship_sound}
use Rattle.casefile.specs.Valid.{ValidHull}
use Rattle.casefile.proofs.Soundness.{sound}
use Rattle.rows.specs.Work.{numbers}
use Rattle.listing.specs.Hull.{group_ends, groups_at, groups_from, group_numbers}
use Rattle.answers.specs.Report.{groups_in}
use Rattle.answers.proofs.ValidCase.{hulled}
use Rattle.promises.specs.Rows.{group_share}
use Rattle.promises.specs.HostHull.{lower_ends, upper_ends, GroupsAreAll}
use Rattle.promises.proofs.HostHull.{half, between}

-- ---- the sum along the list is that over all groups

all_lower : (es : List Ends) → lower_ends (numbers es) ≡ sum_of (λ (e : Ends). e.lower) es
all_lower [] = refl
all_lower (e ∷ es) = ap (λ n. e.lower + n) (all_lower es)

all_upper : (es : List Ends) → upper_ends (numbers es) ≡ sum_of (λ (e : Ends). e.upper) es
all_upper [] = refl
all_upper (e ∷ es) = ap (λ n. e.upper + n) (all_upper es)

-- from the front
sum_front : (f : ℕ → ℕ) (n : ℕ) → sum_below f (suc n) ≡ f 0 + sum_below (λ i. f (suc i)) n
sum_front f zero = omega arith
sum_front f (suc n) = omega (arith, sum_front f n)

module _ (h : Hull) (g : Ends → ℕ) where
  abbrev of : ℕ → ℕ → ℕ
  of a n = g (group_ends h a n)

  sum_in_zone : (a n k : ℕ) → sum_of g (groups_at h a n k) ≡ sum_below (λ j. of a (n + j)) k
  unfolding groups_at
  sum_in_zone a n zero = refl
  sum_in_zone a n (suc k) =
      let next : sum_below (λ j. of a (n + 1 + j)) k ≡ sum_below (λ j. of a (n + suc j)) k = sum_below_same (λ j. of a (n + 1 + j)) (λ j. of a (n + suc j)) k (λ j l. ap (of a) (omega arith)) in
      let first : of a (n + 0) ≡ of a n = ap (of a) (add-zero n) in
      omega (arith, sum_in_zone a (n + 1) k, next, first, sum_front (λ j. of a (n + j)) k)

  -- the first n groups of a zone
  abbrev shortest : ℕ → ℕ → ℕ
  shortest a n = sum_below (λ j. of a (suc j)) n

  sum_from_zone : (a k : ℕ) → sum_of g (groups_from h a k) ≡ sum_below (λ i. shortest (a + i) (k - i)) k
  unfolding groups_from
  sum_from_zone a zero = refl
  sum_from_zone a (suc k) =
      sum_of_append g (groups_at h a 1 (suc k)) (groups_from h (a + 1) k)
      ∙ ap₂ ◌+◌ (sum_in_zone a 1 (suc k) ∙ here) (sum_from_zone (a + 1) k ∙ after)
      ∙ sym (sum_front (λ i. shortest (a + i) (suc k - i)) k)
    where
      here : sum_below (λ j. of a (1 + j)) (suc k) ≡ shortest (a + 0) (suc k - 0)
      here =
          let whole : suc k - 0 ≡ suc k = omega arith in
          sum_below_same (λ j. of a (1 + j)) (λ j. of a (suc j)) (suc k) (λ j l. ap (of a) (omega arith)) ∙ ap₂ shortest (sym (add-zero a)) (sym whole)

      after : sum_below (λ i. shortest (a + 1 + i) (k - i)) k ≡ sum_below (λ i. shortest (a + suc i) (suc k - suc i)) k
      after =
          sum_below_same (λ i. shortest (a + 1 + i) (k - i)) (λ i. shortest (a + suc i) (suc k - suc i)) k
          (λ i l. let zone : a + 1 + i ≡ a + suc i = omega arith in let rest : k - i ≡ suc k - suc i = omega arith in ap₂ shortest zone rest)

  sum_of_groups : sum_of g (groups_from h 1 h.zones) ≡ groups of h.zones
  unfolding groups
  sum_of_groups =
      sum_from_zone 1 h.zones
      ∙ sum_below_same (λ i. shortest (1 + i) (h.zones - i)) (λ i. shortest (suc i) (h.zones - i)) h.zones (λ i l. ap (λ z. shortest z (h.zones - i)) (omega arith))

lower_together : (h : Hull) → lower_ends (group_numbers h) ≡ groups (λ a n. (group_ends h a n).lower) h.zones
unfolding group_numbers
lower_together h = all_lower (groups_from h 1 h.zones) ∙ sum_of_groups h (λ (e : Ends). e.lower)

upper_together : (h : Hull) → upper_ends (group_numbers h) ≡ groups (λ a n. (group_ends h a n).upper) h.zones
unfolding group_numbers
upper_together h = all_upper (groups_from h 1 h.zones) ∙ sum_of_groups h (λ (e : Ends). e.upper)

-- ---- each share by its ends

up_to_≼ : (f g : ℕ → Fraction) (n : ℕ) → ((i : ℕ) → i < n → f i ≼ g i) → up_to f n ≼ up_to g n
unfolding up_to
up_to_≼ f g zero h = ≼_of_≈ (≈_refl (whole 0))
up_to_≼ f g (suc n) h = ⊹-≼ (up_to_≼ f g n (λ i l. h i (omega arith))) (h n (omega arith))

groups_≼ : (s : Ship) (f g : ℕ → ℕ → Fraction) → ((a n : ℕ) → Group s a n → f a n ≼ g a n) → over_groups f s.m ≼ over_groups g s.m
unfolding over_groups
groups_≼ s f g h =
    up_to_≼ (λ i. up_to (λ j. f (suc i) (suc j)) (s.m - i)) (λ i. up_to (λ j. g (suc i) (suc j)) (s.m - i)) s.m
    (λ i l. up_to_≼ (λ j. f (suc i) (suc j)) (λ j. g (suc i) (suc j)) (s.m - i) (λ j r. h (suc i) (suc j) (record { from = omega arith; some = omega arith; fits = omega arith })))

in_billionths : (s : Ship) (f : ℕ → ℕ → ℕ) → Is (over_groups (λ a n. billionths (f a n)) s.m) (groups f s.m) 0 (10 ^ 9)
in_billionths s f = rw (groups_nothing s.m) at (is_over_groups s {f = λ a n. billionths (f a n)} {u = f} {w = λ a n. 0} (lit< tt) (λ a n g. is_over (f a n) (lit< tt)))

module _ (h : Hull) (v : ValidHull h) where
  abbrev s : Ship
  s = ship_of h

  all_one : over_groups (group_share h) h.zones ≈ whole 1
  unfolding group_share all_shares
  all_one = total_is_one s (ship_sound (hulled h v)) (h.breadth / 2) (half h v)

  lower_at_most : groups (λ a n. (group_ends h a n).lower) h.zones ≤ 10 ^ 9
  lower_at_most =
      let each = groups_≼ s (λ a n. billionths (group_ends h a n).lower) (group_share h) (λ a n g. (between h v a n g).low) in
      omega (arith, numerators_below (≼_trans each (≼_of_≈ all_one)) (in_billionths s (λ a n. (group_ends h a n).lower)) (is_one (lit< tt)))

  upper_at_least : 10 ^ 9 ≤ groups (λ a n. (group_ends h a n).upper) h.zones
  upper_at_least =
      let each = groups_≼ s (group_share h) (λ a n. billionths (group_ends h a n).upper) (λ a n g. (between h v a n g).high) in
      omega (arith, numerators_below (≼_trans (≼_of_≈ (≈_sym all_one)) each) (is_one (lit< tt)) (in_billionths s (λ a n. (group_ends h a n).upper)))

pub groups_are_all : GroupsAreAll
unfolding groups_in
groups_are_all f c e =
    let h = c.hull in
    let v = (sound f c e).1.hull in
    rw (e, lower_together h, upper_together h) (lower_at_most h v, upper_at_least h v)
