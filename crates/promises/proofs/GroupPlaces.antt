-- Where each group's numbers stand among those of all groups. Assumes nothing.
use Prim.Native.Nat.{ℕ, zero, suc, ◌+◌, ◌-◌, ◌*◌, ◌≤◌, ◌<◌}
use mathlib.Core.Path.{◌≡◌, refl, ◌∙◌, ap, ap₂}
use mathlib.Core.List.{List, [], ◌∷◌}
use native.Mathlib.Nat.{add-zero}
use native.Mathlib.Omega.{arith}
use lib.ListN.{length, get_or, get_or-append}
use lib.Seq.{get_or-append-add}
use Rattle.records.specs.declared.Ends.{Ends}
use Rattle.records.specs.declared.Hull.{Hull}
use Rattle.rows.specs.Work.{numbers}
use Rattle.listing.specs.Hull.{group_ends, groups_at, groups_from, group_numbers}
use Rattle.listing.proofs.HullNumbers.{length_at}
use Rattle.promises.specs.HostHull.{begun_by, group_place}
-- checked first, so that a place that is counted otherwise is refused at a number
use Rattle.promises.proofs.WitnessHull.{groups_placed}

-- ---- two numbers each

no_ends_lem : Ends
no_ends_lem = record { lower = 0; upper = 0 }

two_each : (es : List Ends) (i : ℕ) → (get_or (numbers es) (2 * i) 0 ≡ (get_or es i no_ends_lem).lower) × (get_or (numbers es) (2 * i + 1) 0 ≡ (get_or es i no_ends_lem).upper)
unfolding no_ends_lem
two_each [] i = (refl, refl)
two_each (e ∷ es) zero = (refl, refl)
two_each (e ∷ es) (suc i) =
    let p : 2 * suc i ≡ suc (suc (2 * i)) = omega arith in
    let q : 2 * suc i + 1 ≡ suc (suc (2 * i + 1)) = omega arith in
    rw (q, p) (two_each es i)

-- ---- places

-- the zones counted from the first, and from the second
one_zone_more : (m a : ℕ) → begun_by (suc m) (suc a) ≡ suc m + begun_by m a
unfolding begun_by
one_zone_more m zero = omega arith
one_zone_more m (suc a) = let e : suc m - suc a ≡ m - a = omega arith in omega (arith, one_zone_more m a, e)

module _ (h : Hull) where
  in_zone : (a n k j : ℕ) → j < k → get_or (groups_at h a n k) j no_ends_lem ≡ group_ends h a (n + j)
  unfolding groups_at
  in_zone a n zero j l = absurd (omega arith)
  in_zone a n (suc k) zero l = rw (add-zero n) refl
  in_zone a n (suc k) (suc j) l = in_zone a (n + 1) k j (omega arith) ∙ ap (group_ends h a) (omega arith)

  -- of k zones from zone a on: the group of j + 1 zones from the i-th after zone a
  from_zone : (a k i j : ℕ) → i + j < k → get_or (groups_from h a k) (begun_by k i + j) no_ends_lem ≡ group_ends h (a + i) (j + 1)
  unfolding groups_from begun_by
  from_zone a zero i j l = absurd (omega arith)
  from_zone a (suc k) zero j l =
      let at : 0 + j ≡ j = omega arith in
      let count : 1 + j ≡ j + 1 = omega arith in
      rw (at, add-zero a)
      (get_or-append (groups_at h a 1 (suc k)) (groups_from h (a + 1) k) no_ends_lem j (omega (arith, length_at h a 1 (suc k)))
      ∙ in_zone a 1 (suc k) j (omega arith) ∙ ap (group_ends h a) count)
  from_zone a (suc k) (suc i) j l =
      let at : begun_by (suc k) (suc i) + j ≡ length (groups_at h a 1 (suc k)) + (begun_by k i + j) = omega (arith, one_zone_more k i, length_at h a 1 (suc k)) in
      let zone : a + 1 + i ≡ a + suc i = omega arith in
      ap (λ p. get_or (groups_from h a (suc k)) p no_ends_lem) at
      ∙ get_or-append-add (groups_at h a 1 (suc k)) (groups_from h (a + 1) k) (begun_by k i + j) no_ends_lem
      ∙ from_zone (a + 1) k i j (omega arith) ∙ ap (λ z. group_ends h z (j + 1)) zone

  pub places_told : (a n : ℕ) → 1 ≤ a → 1 ≤ n → a + n ≤ h.zones + 1 →
      (get_or (group_numbers h) (group_place h a n) 0 ≡ (group_ends h a n).lower) × (get_or (group_numbers h) (group_place h a n + 1) 0 ≡ (group_ends h a n).upper)
  unfolding group_numbers
  places_told a n f s l =
      let i = begun_by h.zones (a - 1) + (n - 1) in
      let two = two_each (groups_from h 1 h.zones) i in
      let zone : 1 + (a - 1) ≡ a = omega (arith, f) in
      let count : n - 1 + 1 ≡ n = omega (arith, s) in
      let at : get_or (groups_from h 1 h.zones) i no_ends_lem ≡ group_ends h a n = from_zone 1 h.zones (a - 1) (n - 1) (omega (arith, f, s, l)) ∙ ap₂ (group_ends h) zone count in
      (two.0 ∙ ap (λ (e : Ends). e.lower) at, two.1 ∙ ap (λ (e : Ends). e.upper) at)
