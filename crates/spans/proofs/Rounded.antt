-- A fraction's ends go by its value alone, enclose it, and lie at most one apart. Assumes nothing.
use mathlib.Core.Path.{◌≡◌, ◌∙◌}
use Prim.Native.Nat.{ℕ, ◌+◌, ◌-◌, ◌*◌, ◌^◌, ◌≤◌, ◌<◌}
use native.Mathlib.Nat.{mul_comm, mul-sub}
use native.Mathlib.Omega.{arith}
use Rattle.laws.specs.Fraction.{Fraction, Is, ◌less◌over◌, ◌over◌, ◌≼◌}
use Rattle.laws.proofs.Fraction.{positive, is_less_over, is_widened, below, numerators_below}
use Rattle.records.specs.declared.Ends.{Ends}
use Rattle.numbers.specs.Figures.{billionths_of, Encloses, Between}
use Rattle.numbers.proofs.Figures.{billionths_same, billionths_enclose, billionths_near, billionths_ordered, billionths_at_most}
use Rattle.spans.specs.Rounded.{ends_of, Probable, Near}

-- ---- a fraction that is n/d

pub ends_are : {f : Fraction} {n d : ℕ} → 0 < d → Is f n 0 d → ends_of f ≡ billionths_of n d
unfolding ends_of
ends_are {f} {n} {d} hd h =
    billionths_same (f.up - f.down) n (positive f) hd (mul_comm (f.up - f.down) d ∙ mul-sub d f.up f.down ∙ omega (arith, h.cross))

pub ends_probable : {f : Fraction} {n d : ℕ} → 0 < d → n ≤ d → Is f n 0 d → Probable (ends_of f)
ends_probable {n = n} p h e = rw (ends_are p e) (record { ordered = billionths_ordered n p; at_most_one = billionths_at_most n p h })

pub ends_near : {f : Fraction} {n d : ℕ} → 0 < d → Is f n 0 d → Near 1 (ends_of f)
ends_near {n = n} p e = rw (ends_are p e) (record { near = billionths_near n p })

-- ---- billionths of either sign against a fraction, in whole numbers

module _ (u v : ℕ) {f : Fraction} {a b d : ℕ} (p : 0 < d) (h : Is f a b d) where
  billionths_is : Is (u less v over 10 ^ 9) (d * u) (d * v) (d * 10 ^ 9)
  billionths_is = is_widened d (is_less_over u v (omega arith))

  fraction_is : Is f (10 ^ 9 * a) (10 ^ 9 * b) (d * 10 ^ 9)
  fraction_is = let e : 10 ^ 9 * d ≡ d * 10 ^ 9 = omega arith in rw e at (is_widened (10 ^ 9) h)

  pub not_above : d * u + 10 ^ 9 * b ≤ 10 ^ 9 * a + d * v → (u less v over 10 ^ 9) ≼ f
  not_above l = below (omega arith) billionths_is fraction_is l

  pub not_below : 10 ^ 9 * a + d * v ≤ d * u + 10 ^ 9 * b → f ≼ (u less v over 10 ^ 9)
  not_below l = below (omega arith) fraction_is billionths_is l

  pub above_numerators : (u less v over 10 ^ 9) ≼ f → d * u + 10 ^ 9 * b ≤ 10 ^ 9 * a + d * v
  above_numerators l = numerators_below l billionths_is fraction_is

  pub below_numerators : f ≼ (u less v over 10 ^ 9) → 10 ^ 9 * a + d * v ≤ d * u + 10 ^ 9 * b
  below_numerators l = numerators_below l fraction_is billionths_is

-- ---- figures that enclose a fraction that is not negative

pub record Enclosed (g : Ends) (f : Fraction) : Type 0 where
  pub n : ℕ
  pub d : ℕ
  pub some : 0 < d
  pub is : Is f n 0 d
  pub held : Encloses g (10 ^ 9 * n) d

pub between : {g : Ends} {f : Fraction} → Enclosed g f → Between g f
between {g} h = record {
  low = not_above g.lower 0 h.some h.is (omega (arith, h.held.low));
  high = not_below g.upper 0 h.some h.is (omega (arith, h.held.high));
}

pub ends_enclose : {f : Fraction} {n d : ℕ} → 0 < d → Is f n 0 d → Enclosed (ends_of f) f
ends_enclose {n = n} {d = d} p e = record { n = n; d = d; some = p; is = e; held = rw (ends_are p e) (billionths_enclose n p) }
