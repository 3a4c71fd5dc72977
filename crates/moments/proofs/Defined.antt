-- The roundings of s-final and of s-final times s-mom as `root_down` and `root_up` have them, by numerator and denominator. Assumes nothing.
use mathlib.Core.List.{[]}
use mathlib.Core.Path.{◌≡◌}
use Prim.Native.Nat.{ℕ, ◌*◌, ◌/◌, ◌^◌, ◌≤◌, ◌<◌}
use native.Mathlib.Nat.{mul-pos}
use native.Mathlib.Omega.{arith}
use Rattle.laws.specs.Rounding.{ceil}
use Rattle.laws.proofs.Polynomial.{C, ◌:*◌, ◌:^◌, ◌:=◌, ◌⊢◌, poly3}
use Rattle.roots.specs.Root.{root_down, root_up}
use Rattle.moments.specs.Held.{Rooted}
use Rattle.moments.proofs.Rooted.{rooted_same, rooted_ratio, ratio_rounded}
use Rattle.moments.proofs.Against.{power_positive}

module _ (e : ℕ) {c num den : ℕ} (hc : 0 < c) (hd : 0 < den) (proper : num ≤ den) where
  -- s-final: num/den is e/(10⁴·c)
  pub final_rooted : num * (c * 10 ^ 4) ≡ e * den → Rooted (10 ^ 12 * e) c (root_down (10 ^ 16 * num / den)) (root_up (ceil (10 ^ 16 * num) den))
  final_rooted k = rooted_same (10 ^ 12 * e) c hd hc (omega (arith, k)) (rooted_ratio num hd proper)

  -- s-final times s-mom: num/den is e/(10⁴·c) times (n/(1000·m))⁴
  pub held_rounded : (n : ℕ) {m bottom top : ℕ} → 0 < m → num * (c * 10 ^ 4 * (1000 * m) ^ 4) ≡ e * n ^ 4 * den → Rooted (e * n ^ 4) (c * m ^ 4) bottom top
      → (bottom ≡ root_down (10 ^ 16 * num / den)) × (top ≡ root_up (ceil (10 ^ 16 * num) den))
  held_rounded n {m} hm k r = ratio_rounded num hd proper (mul-pos hc (power_positive hm)) (omega (arith, k, scale num c m)) r
    where
      scale : (num c m : ℕ) → num * (c * 10 ^ 4 * (1000 * m) ^ 4) ≡ 10 ^ 16 * num * (c * m ^ 4)
      scale = poly3 (λ num c m. [] ⊢ num :* (c :* C (10 ^ 4) :* (C 1000 :* m) :^ 4) := C (10 ^ 16) :* num :* (c :* m :^ 4)) tt
