-- A whole number s against s-final times s-mom, whose fourth power is e·n⁴/(c·m⁴): by an end f of s-final, the fourth root of 10¹²·e/c. Assumes nothing.
use mathlib.Core.List.{[]}
use mathlib.Core.Path.{◌≡◌}
use Prim.Native.Nat.{ℕ, ◌-◌, ◌*◌, ◌^◌, ◌≤◌, ◌<◌}
use native.Mathlib.Nat.{mul-le-mul_right, mul-lt-mul_of_pos_right, pow-le-pow_left}
use native.Mathlib.Omega.{arith}
use Rattle.laws.proofs.Polynomial.{C, ◌:*◌, ◌:^◌, ◌:=◌, ◌⊢◌, poly3}
use Rattle.laws.proofs.Roots.{powers_strict}

pub power_positive : {x : ℕ} → 0 < x → 0 < x ^ 4
power_positive {x} h = (powers_strict 3 0 x).1 h

of_product : (x y c : ℕ) → (x * y) ^ 4 * c ≡ x ^ 4 * c * y ^ 4
of_product = poly3 (λ x y c. [] ⊢ (x :* y) :^ 4 :* c := x :^ 4 :* c :* y :^ 4) tt

-- (s·1000·m)⁴·c is 10¹² times s⁴·(c·m⁴)
of_thousandfold : (s m c : ℕ) → (s * (1000 * m)) ^ 4 * c ≡ 10 ^ 12 * (s ^ 4 * (c * m ^ 4))
of_thousandfold = poly3 (λ s m c. [] ⊢ (s :* (C 1000 :* m)) :^ 4 :* c := C (10 ^ 12) :* (s :^ 4 :* (c :* m :^ 4))) tt

-- ---- s times 1000·m is not above f·n, or not below
module _ (s f e c n m : ℕ) where
  abbrev there : ℕ
  there = s ^ 4 * (c * m ^ 4)

  pub not_above : s * (1000 * m) ≤ f * n → f ^ 4 * c ≤ 10 ^ 12 * e → there ≤ e * n ^ 4
  not_above h k =
      omega (arith, of_product f n c, of_thousandfold s m c, mul-le-mul_right c (pow-le-pow_left h 4), mul-le-mul_right (n ^ 4) k)

  pub not_below : f * n ≤ s * (1000 * m) → 10 ^ 12 * e ≤ f ^ 4 * c → e * n ^ 4 ≤ there
  not_below h k =
      omega (arith, of_product f n c, of_thousandfold s m c, mul-le-mul_right c (pow-le-pow_left h 4), mul-le-mul_right (n ^ 4) k)

  -- strictly, where one of the two is strict
  pub below_by_number : 0 < c → s * (1000 * m) < f * n → f ^ 4 * c ≤ 10 ^ 12 * e → there < e * n ^ 4
  below_by_number hc h k =
      let x = s * (1000 * m) in
      omega (arith, of_product f n c, of_thousandfold s m c, mul-lt-mul_of_pos_right ((powers_strict 3 x (f * n)).1 h) hc, mul-le-mul_right (n ^ 4) k)

  pub below_by_root : 0 < n → s * (1000 * m) ≤ f * n → f ^ 4 * c < 10 ^ 12 * e → there < e * n ^ 4
  below_by_root hn h k =
      omega (arith, of_product f n c, of_thousandfold s m c, mul-le-mul_right c (pow-le-pow_left h 4), mul-lt-mul_of_pos_right k (power_positive hn))

  pub above_by_number : 0 < c → f * n < s * (1000 * m) → 10 ^ 12 * e ≤ f ^ 4 * c → e * n ^ 4 < there
  above_by_number hc h k =
      let x = s * (1000 * m) in
      omega (arith, of_product f n c, of_thousandfold s m c, mul-lt-mul_of_pos_right ((powers_strict 3 (f * n) x).1 h) hc, mul-le-mul_right (n ^ 4) k)

  pub above_by_root : 0 < n → f * n ≤ s * (1000 * m) → 10 ^ 12 * e < f ^ 4 * c → e * n ^ 4 < there
  above_by_root hn h k =
      omega (arith, of_product f n c, of_thousandfold s m c, mul-le-mul_right c (pow-le-pow_left h 4), mul-lt-mul_of_pos_right k (power_positive hn))
