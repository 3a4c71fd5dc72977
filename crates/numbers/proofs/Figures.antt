-- What holds of figures with two ends, of billionths, portions and halves: what they enclose, how wide they are, how large, and in what order. Assumes nothing.
use mathlib.Core.Path.{◌≡◌}
use Prim.Native.Nat.{ℕ, ◌+◌, ◌*◌, ◌/◌, ◌^◌, ◌≤◌, ◌<◌}
use native.Mathlib.Nat.{le_trans, div-mul-le_self, le_of_mul-le-mul_right, mul-le-mul_left, mul-le-mul_right}
use native.Mathlib.Omega.{arith}
use Rattle.laws.specs.Rounding.{ceil}
use Rattle.laws.proofs.Rounding.{ceil_lower, ceil_least, ceil_near_floor, floor_rises, floor_not_above_ceil, floor_product, ceil_product, part_apart, halves_apart}
use Rattle.laws.proofs.Equal.{same_floor, same_ceil}
use Rattle.records.specs.declared.Ends.{Ends}
use Rattle.numbers.specs.Figures.{Encloses, both_ways, billionths_of, portion_of, halves_of}
-- checked first, so that a definition that gives another number is refused there
use Rattle.numbers.proofs.Values.{chances}

-- figures with the same ends are the same
pub both : {a b l u : ℕ} → a ≡ l → b ≡ u → ◌≡◌ {A = Ends} (record { lower = a; upper = b }) (record { lower = l; upper = u })
both p q = cc

-- ---- what a figure encloses

pub encloses_ordered : {g : Ends} {n d : ℕ} → 0 < d → Encloses g n d → g.lower ≤ g.upper
encloses_ordered hd h = le_of_mul-le-mul_right (le_trans h.low h.high) hd

-- ---- billionths

module _ (n : ℕ) {d : ℕ} (hd : 0 < d) where
  pub billionths_enclose : Encloses (billionths_of n d) (10 ^ 9 * n) d
  unfolding billionths_of
  billionths_enclose = record { low = div-mul-le_self (10 ^ 9 * n) d; high = ceil_lower (10 ^ 9 * n) d hd }

  pub billionths_ordered : (billionths_of n d).lower ≤ (billionths_of n d).upper
  billionths_ordered = encloses_ordered hd billionths_enclose

  pub billionths_near : (billionths_of n d).upper ≤ (billionths_of n d).lower + 1
  unfolding billionths_of
  billionths_near = ceil_near_floor (10 ^ 9 * n) d hd

  pub billionths_at_most : n ≤ d → (billionths_of n d).upper ≤ 10 ^ 9
  unfolding billionths_of
  billionths_at_most h = (ceil_least (10 ^ 9 * n) d (10 ^ 9) hd).1 (mul-le-mul_left (10 ^ 9) h)

-- equal fractions have the same ends
pub billionths_same : (m n : ℕ) {c d : ℕ} → 0 < c → 0 < d → m * d ≡ n * c → billionths_of m c ≡ billionths_of n d
unfolding billionths_of
billionths_same m n {c} {d} hc hd e =
    let cross : 10 ^ 9 * m * d ≡ 10 ^ 9 * n * c = omega arith in
    both (same_floor (10 ^ 9 * m) (10 ^ 9 * n) hc hd cross) (same_ceil (10 ^ 9 * m) (10 ^ 9 * n) hc hd cross)

-- a quotient rounded both ways, of the same value
pub billionths_both_ways : (m n : ℕ) {c d : ℕ} → 0 < c → 0 < d → 10 ^ 9 * m * d ≡ n * c → billionths_of m c ≡ both_ways n d
unfolding billionths_of both_ways
billionths_both_ways m n hc hd e = both (same_floor (10 ^ 9 * m) n hc hd e) (same_ceil (10 ^ 9 * m) n hc hd e)

-- ---- portions

module _ (x : ℕ) (g : Ends) {l : ℕ} (hl : 0 < l) where
  pub portion_encloses : {n d : ℕ} → Encloses g n d → Encloses (portion_of x g l) (x * n) (l * d)
  unfolding portion_of
  portion_encloses {n} {d} h =
      record { low = floor_product x g.lower d n l h.low; high = ceil_product x g.upper d n l hl h.high }

  pub portion_ordered : g.lower ≤ g.upper → (portion_of x g l).lower ≤ (portion_of x g l).upper
  unfolding portion_of
  portion_ordered h = le_trans (floor_rises l (mul-le-mul_left x h)) (floor_not_above_ceil (x * g.upper) l)

  pub portion_near : (w : ℕ) → x ≤ l → g.upper ≤ g.lower + w → (portion_of x g l).upper ≤ (portion_of x g l).lower + (w + 1)
  unfolding portion_of
  portion_near w hx h = part_apart g.upper g.lower w x l hl hx h

  pub portion_upper_at_most : x ≤ l → (portion_of x g l).upper ≤ g.upper
  unfolding portion_of
  portion_upper_at_most hx = (ceil_least (x * g.upper) l g.upper hl).1 (omega (arith, mul-le-mul_right g.upper hx))

-- ---- halves

module _ (g : Ends) where
  pub halves_enclose : {n d : ℕ} → Encloses g n d → Encloses (halves_of g) n (2 * d)
  unfolding halves_of
  halves_enclose {n} {d} h =
      record {
        low = omega (arith, h.low, mul-le-mul_right d (div-mul-le_self g.lower 2));
        high = omega (arith, h.high, mul-le-mul_right d (ceil_lower g.upper 2 (omega arith)));
      }

  pub halves_ordered : g.lower ≤ g.upper → (halves_of g).lower ≤ (halves_of g).upper
  unfolding halves_of
  halves_ordered h = le_trans (floor_rises 2 h) (floor_not_above_ceil g.upper 2)

  pub halves_near : (w : ℕ) → g.upper ≤ g.lower + w → (halves_of g).upper ≤ (halves_of g).lower + (w / 2 + 1)
  unfolding halves_of
  halves_near w h = halves_apart g.upper g.lower w h

  pub halves_upper_at_most : (halves_of g).upper ≤ g.upper
  unfolding halves_of ceil
  halves_upper_at_most = omega arith
