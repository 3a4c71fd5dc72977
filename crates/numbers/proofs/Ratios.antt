-- Fractions by numerator and denominator: one that is not negative is its ratio, and what products come to. Assumes nothing.
use Prim.Native.Nat.{ℕ, ◌+◌, ◌-◌, ◌*◌, ◌<◌}
use mathlib.Core.Path.{◌≡◌, refl, ap}
use native.Mathlib.Nat.{mul-pos}
use native.Mathlib.Omega.{arith}
use Rattle.laws.specs.Fraction.{Fraction, den, ◌less◌over◌, ◌over◌, whole, Is, ◌≼◌, ◌⊛◌}
use Rattle.laws.proofs.Fraction.{positive}
use Rattle.records.specs.declared.Ratio.{Ratio}
use Rattle.numbers.specs.Ratio.{ratio_of}

-- ---- a fraction that is not negative is its ratio
pub ratio_positive : (f : Fraction) → 0 < (ratio_of f).den
unfolding ratio_of
ratio_positive f = positive f

pub is_ratio : {f : Fraction} → whole 0 ≼ f → Is f (ratio_of f).num 0 (ratio_of f).den
unfolding ratio_of ◌less◌over◌
is_ratio {f} h =
    let e : f.up ≡ f.up - f.down + f.down = omega (arith, h.cross) in
    record { cross = parts f.up (f.up - f.down) f.down (den f) e }
  where
    parts : (u n v d : ℕ) → u ≡ n + v → u * d + 0 * d ≡ n * d + v * d
    parts u n v d e = omega (arith, ap (λ z. z * d) e)

-- ---- quotients and products
pub same_ratio : {a b c d : ℕ} → a ≡ c → b ≡ d → ◌≡◌ {A = Ratio} (record { num = a; den = b }) (record { num = c; den = d })
same_ratio p q = cc

abbrev pub product : Ratio → Ratio → Ratio
product r s = record { num = r.num * s.num; den = r.den * s.den }

pub ratio_over : (n : ℕ) {d : ℕ} → 0 < d → ratio_of (n over d) ≡ record { num = n; den = d }
unfolding ratio_of ◌less◌over◌
ratio_over n h = same_ratio (omega arith) (omega arith)

-- of fractions that are written with no minus
pub ratio_product : (f g : Fraction) → f.down ≡ 0 → g.down ≡ 0 → ratio_of (f ⊛ g) ≡ product (ratio_of f) (ratio_of g)
unfolding ratio_of ◌⊛◌ ◌less◌over◌
ratio_product f g p q = same_ratio (rw (p, q) (upper f.up g.up)) (omega (arith, mul-pos (positive f) (positive g)))
  where
    upper : (u w : ℕ) → u * w + 0 * 0 - (u * 0 + 0 * w) ≡ (u - 0) * (w - 0)
    upper u w =
        let a : u - 0 ≡ u = omega arith in
        let b : w - 0 ≡ w = omega arith in
        rw (a, b) (omega arith)

pub over_plain : (n d : ℕ) → (n over d).down ≡ 0
unfolding ◌less◌over◌
over_plain n d = refl

pub product_plain : (f g : Fraction) → f.down ≡ 0 → g.down ≡ 0 → (f ⊛ g).down ≡ 0
unfolding ◌⊛◌ ◌less◌over◌
product_plain f g p q = rw (p, q) (omega arith)
