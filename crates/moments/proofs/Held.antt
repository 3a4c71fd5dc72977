-- s-final times s-mom between the ends of s-final times s-mom, and its roundings where they settle it or where one comparison does. Assumes nothing.
use mathlib.Core.Path.{◌≡◌, ap}
use Prim.Native.Nat.{ℕ, zero, suc, ◌+◌, ◌-◌, ◌*◌, ◌/◌, ◌%◌, ◌^◌, ◌≤◌, ◌<◌}
use native.Mathlib.Nat.{le_trans, lt_of_lt_of_le, lt_of_le_of_lt, mul-le-mul, mul-le-mul_left, mul-le-mul_right, mul-pos, lt_of_mul-lt-mul_right, div-mul-le_self, div-add-mod'}
use native.Mathlib.Omega.{arith}
use Rattle.laws.proofs.Choice.{split}
use Rattle.laws.proofs.Rounding.{floor_upper}
use Rattle.records.specs.declared.Rounded.{Rounded}
use Rattle.moments.specs.declared.FinalStage.{FinalStage}
use Rattle.moments.specs.Held.{Rooted, Held, Beside}
use Rattle.moments.proofs.Rooted.{rooted_exactly, rooted_between, ends_ordered, ends_near, strictly_within, strictly_reaches}
use Rattle.moments.proofs.Against.{power_positive, not_above, not_below, below_by_number, below_by_root, above_by_number, above_by_root}

positive_factor : (a b n : ℕ) → a * n < b * n → 0 < n
positive_factor a b zero h = absurd (omega arith)
positive_factor a b (suc n) h = omega arith

-- what is left of t·n beyond low·whole
rest_beyond : (f t n low whole rest : ℕ) → f ≤ t → low * whole + rest ≡ f * n → low * whole + (rest + (t - f) * n) ≡ t * n
rest_beyond f t n low whole rest h e = let d : f + (t - f) ≡ t = omega arith in plainly (t - f) d
  where
    plainly : (d : ℕ) → f + d ≡ t → low * whole + (rest + d * n) ≡ t * n
    plainly d k = omega (arith, e, ap (λ x. x * n) k)

-- ---- the ends f and t of s-final, each times s-mom
module _ {ends : Rounded} {stage : FinalStage} (h : Held ends stage) where
  abbrev f : ℕ
  f = ends.bottom

  abbrev t : ℕ
  t = ends.top

  abbrev e : ℕ
  e = stage.fourth

  abbrev c : ℕ
  c = stage.caps

  abbrev n : ℕ
  n = stage.righting

  abbrev m : ℕ
  m = stage.heeling

  -- the lower one rounded down, and how far the upper one lies above that, in parts of which 1000·m are one
  abbrev low : ℕ
  low = f * n / (1000 * m)

  abbrev more : ℕ
  more = f * n % (1000 * m) + (t - f) * n

  whole_positive : 0 < 1000 * m
  whole_positive = omega (arith, h.heeling_positive)

  within : low * (1000 * m) ≤ f * n
  within = div-mul-le_self (f * n) (1000 * m)

  next : f * n < (low + 1) * (1000 * m)
  next = floor_upper (f * n) (1000 * m) whole_positive

  pub final_ordered : f ≤ t
  final_ordered = ends_ordered h.caps_positive h.rooted

  upper_end : low * (1000 * m) + more ≡ t * n
  upper_end = rest_beyond f t n low (1000 * m) (f * n % (1000 * m)) final_ordered (div-add-mod' (f * n) (1000 * m))

  pub righting_small : n ≤ 2 * 10 ^ 9
  righting_small = omega (arith, h.moment_at_most_one, h.heeling_small)

  upper_small : t * n ≤ 2 * 10 ^ 13
  upper_small = mul-le-mul h.at_most_one righting_small

  pub lower_small : f * n ≤ 2 * 10 ^ 13
  lower_small = le_trans (mul-le-mul_right n final_ordered) upper_small

  -- where they are apart, so are those of s-final, and its root lies strictly between them
  module _ (apart : f * n < t * n) where
    some : 0 < n
    some = positive_factor f t n apart

    ends_apart : f < t
    ends_apart = lt_of_mul-lt-mul_right n apart

    above_low : low ^ 4 * (c * m ^ 4) < e * n ^ 4
    above_low = below_by_root low f e c n m some within (strictly_within h.caps_positive h.rooted ends_apart)

    low_below_top : low < t
    low_below_top = lt_of_mul-lt-mul_right (1000 * m) (lt_of_lt_of_le (lt_of_le_of_lt within apart) (mul-le-mul_left t h.moment_at_most_one))

  pub held_exactly : more ≡ 0 → Rooted (e * n ^ 4) (c * m ^ 4) low low
  held_exactly k =
      let reached : t * n ≤ low * (1000 * m) = omega (arith, upper_end, k) in
      rooted_exactly low (mul-pos h.caps_positive (power_positive h.heeling_positive)) (not_above low f e c n m within h.rooted.within)
      (not_below low t e c n m reached h.rooted.reaches)

  pub held_between : 0 < more → more ≤ 1000 * m → Rooted (e * n ^ 4) (c * m ^ 4) low (low + 1)
  held_between p q =
      let beyond : low * (1000 * m) < t * n = omega (arith, upper_end, p) in
      let reached : t * n ≤ (low + 1) * (1000 * m) = omega (arith, upper_end, q) in
      rooted_between low
      (split (f * n) (low * (1000 * m)) (λ k. above_low (omega (arith, k, beyond))) (λ k. below_by_number low f e c n m h.caps_positive k h.rooted.within))
      (split ((low + 1) * (1000 * m)) (t * n)
      (λ k. let apart = lt_of_lt_of_le next k in above_by_root (low + 1) t e c n m (some apart) reached (strictly_reaches h.caps_positive h.rooted (ends_apart apart)))
      (λ k. above_by_number (low + 1) t e c n m h.caps_positive k h.rooted.reaches))

  pub held_beside : 1000 * m < more → Beside low stage
  held_beside k =
      let apart : f * n < t * n = omega (arith, upper_end, next, k) in
      let near : t * n ≤ (f + 1) * n = mul-le-mul_right n (ends_near h.caps_positive h.rooted) in
      let beyond : t * n < (low + 2) * (1000 * m) = omega (arith, near, next, h.moment_at_most_one) in
      record {
        above = above_low apart;
        below = above_by_number (low + 2) t e c n m h.caps_positive beyond h.rooted.reaches;
        low_small = omega (arith, low_below_top apart, h.at_most_one);
        caps_positive = h.caps_positive;
        caps_small = h.caps_small;
        heeling_positive = h.heeling_positive;
        heeling_small = h.heeling_small;
        righting_small = omega (arith, righting_small);
      }

-- ---- a survival between `low` and the next number but one, against the number between them
module _ {low : ℕ} {stage : FinalStage} (h : Beside low stage) where
  abbrev survival : ℕ
  survival = stage.fourth * stage.righting ^ 4

  abbrev below_line : ℕ
  below_line = stage.caps * stage.heeling ^ 4

  pub below_middle : survival < (low + 1) ^ 4 * below_line → Rooted survival below_line low (low + 1)
  below_middle k = rooted_between low h.above k

  pub at_middle : (low + 1) ^ 4 * below_line ≤ survival → survival ≤ (low + 1) ^ 4 * below_line → Rooted survival below_line (low + 1) (low + 1)
  at_middle k l = rooted_exactly (low + 1) (mul-pos h.caps_positive (power_positive h.heeling_positive)) k l

  pub above_middle : (low + 1) ^ 4 * below_line < survival → Rooted survival below_line (low + 1) (low + 1 + 1)
  above_middle k = let next : low + 2 ≡ low + 1 + 1 = omega arith in rooted_between (low + 1) k (rw next at h.below)
