-- The fourth root of a fraction, rounded down and up: how it is known by its neighbours, and that it depends on the fraction alone. Assumes nothing.
use mathlib.Core.Path.{◌≡◌, sym}
use Prim.Native.Nat.{ℕ, ◌+◌, ◌*◌, ◌/◌, ◌^◌, ◌≤◌, ◌<◌}
use native.Mathlib.Nat.{le_antisymm, le_trans, le_of_lt, lt_of_not-le, lt_of_mul-lt-mul_right, le_of_mul-le-mul_right, mul-le-mul_left, mul-le-mul_right, div-le_of_le-mul}
use native.Mathlib.Omega.{arith}
use Rattle.laws.specs.Rounding.{ceil}
use Rattle.laws.proofs.Rounding.{ceil_least}
use Rattle.laws.proofs.Roots.{powers_ordered, powers_strict}
use Rattle.roots.specs.Root.{root_down, root_up}
use Rattle.roots.proofs.Root.{down_of_fraction, up_of_fraction}
use Rattle.roots.proofs.RootValue.{down_root, up_root}
use Rattle.moments.specs.Held.{Rooted}

-- ---- by its neighbours
module _ {n d : ℕ} (s : ℕ) where
  pub rooted_exactly : 0 < d → s ^ 4 * d ≤ n → n ≤ s ^ 4 * d → Rooted n d s s
  rooted_exactly hd low high =
      record {
        within = low;
        greatest = λ t h. (powers_ordered 3 t s).0 (le_of_mul-le-mul_right {k = d} (le_trans h high) hd);
        reaches = high;
        least = λ t h. (powers_ordered 3 s t).0 (le_of_mul-le-mul_right {k = d} (le_trans low h) hd);
      }

  pub rooted_between : s ^ 4 * d < n → n < (s + 1) ^ 4 * d → Rooted n d s (s + 1)
  rooted_between low high =
      record {
        within = le_of_lt low;
        greatest = λ t h. let below : t < s + 1 = (powers_strict 3 t (s + 1)).0 (lt_of_mul-lt-mul_right d (omega arith)) in omega arith;
        reaches = le_of_lt high;
        least = λ t h. let above : s < t = (powers_strict 3 s t).0 (lt_of_mul-lt-mul_right d (omega arith)) in omega arith;
      }

-- ---- what its ends are to each other: the same where it is exact, else neighbours, and then it lies strictly between them
module _ {n d bottom top : ℕ} (hd : 0 < d) (h : Rooted n d bottom top) where
  pub ends_ordered : bottom ≤ top
  ends_ordered = (powers_ordered 3 bottom top).0 (le_of_mul-le-mul_right {k = d} (le_trans h.within h.reaches) hd)

  below_next : n < (bottom + 1) ^ 4 * d
  below_next = lt_of_not-le (λ k. omega (arith, h.greatest (bottom + 1) k))

  pub ends_near : top ≤ bottom + 1
  ends_near = h.least (bottom + 1) (le_of_lt below_next)

  pub strictly_within : bottom < top → bottom ^ 4 * d < n
  strictly_within k = lt_of_not-le (λ l. omega (arith, h.least bottom l))

  pub strictly_reaches : bottom < top → n < top ^ 4 * d
  strictly_reaches k = lt_of_not-le (λ l. omega (arith, h.greatest top l))

-- ---- by the fraction alone: n/d and n'/d' are the same
module _ (x : ℕ) {n d : ℕ} (n' d' : ℕ) (hd : 0 < d) (e : n * d' ≡ n' * d) where
  still_within : x * d ≤ n → x * d' ≤ n'
  still_within h = le_of_mul-le-mul_right {k = d} (omega (arith, e, mul-le-mul_right d' h)) hd

  still_reaches : n ≤ x * d → n' ≤ x * d'
  still_reaches h = le_of_mul-le-mul_right {k = d} (omega (arith, e, mul-le-mul_right d' h)) hd

pub rooted_same : {n d bottom top : ℕ} (n' d' : ℕ) → 0 < d → 0 < d' → n * d' ≡ n' * d → Rooted n d bottom top → Rooted n' d' bottom top
rooted_same {n} {d} {bottom} {top} n' d' hd hd' e h =
    record {
      within = still_within (bottom ^ 4) n' d' hd e h.within;
      greatest = λ s k. h.greatest s (still_within (s ^ 4) n d hd' (sym e) k);
      reaches = still_reaches (top ^ 4) n' d' hd e h.reaches;
      least = λ s k. h.least s (still_reaches (s ^ 4) n d hd' (sym e) k);
    }

pub bottom_unique : {n d bottom top bottom' top' : ℕ} → Rooted n d bottom top → Rooted n d bottom' top' → bottom ≡ bottom'
bottom_unique {bottom = b} {bottom' = b'} h k = le_antisymm (k.greatest b h.within) (h.greatest b' k.within)

pub top_unique : {n d bottom top bottom' top' : ℕ} → Rooted n d bottom top → Rooted n d bottom' top' → top ≡ top'
top_unique {top = t} {top' = t'} h k = le_antisymm (h.least t' k.reaches) (k.least t h.reaches)

-- ---- in ten-thousandths: that of 10¹⁶·num/den, as `root_down` and `root_up` have it
module _ (num : ℕ) {den : ℕ} (hd : 0 < den) (proper : num ≤ den) where
  pub rooted_ratio : Rooted (10 ^ 16 * num) den (root_down (10 ^ 16 * num / den)) (root_up (ceil (10 ^ 16 * num) den))
  rooted_ratio =
      let whole = mul-le-mul_left (10 ^ 16) proper in
      let down_fits : 10 ^ 16 * num / den ≤ 10 ^ 16 = div-le_of_le-mul den (omega (arith, whole)) in
      let up_fits : ceil (10 ^ 16 * num) den ≤ 10 ^ 16 = (ceil_least (10 ^ 16 * num) den (10 ^ 16) hd).1 whole in
      let down = down_of_fraction hd (down_root (10 ^ 16 * num / den) (omega arith)) in
      let up = up_of_fraction (10 ^ 16 * num) hd (up_root (ceil (10 ^ 16 * num) den) (omega arith)) in
      record { within = down.0; greatest = down.1; reaches = up.0; least = up.1 }

  pub top_at_most_one : root_up (ceil (10 ^ 16 * num) den) ≤ 10 ^ 4
  top_at_most_one = rooted_ratio.least (10 ^ 4) (mul-le-mul_left (10 ^ 16) proper)

  -- whatever is rounded of the same fraction is that
  pub ratio_rounded : {n d bottom top : ℕ} → 0 < d → 10 ^ 16 * num * d ≡ n * den → Rooted n d bottom top
      → (bottom ≡ root_down (10 ^ 16 * num / den)) × (top ≡ root_up (ceil (10 ^ 16 * num) den))
  ratio_rounded h e r =
      let here = rooted_same (10 ^ 16 * num) den h hd (sym e) r in
      (bottom_unique here rooted_ratio, top_unique here rooted_ratio)
