-- Fractions by common denominators: what sums, differences, products and quotients come to, and how two compare. Assumes nothing.
use Prim.Native.Nat.{ℕ, suc, ◌+◌, ◌-◌, ◌*◌, ◌≤◌, ◌<◌}
use mathlib.Core.Path.{◌≡◌, refl, ap, sym, ◌∙◌}
use native.Mathlib.Nat.{zero-mul, one-mul, mul-sub, mul_comm, mul-pos, eq_of_mul-eq-mul_right, le_of_mul-le-mul_right, lt_of_mul-lt-mul_right, mul-lt-mul_of_pos_right, mul-le-mul_right, zero-lt-suc, le_of_eq}
use native.Mathlib.Omega.{arith, by_contra}
use Rattle.laws.specs.Fraction.{Fraction, den, ◌less◌over◌, ◌over◌, Is, ◌≈◌, ◌≼◌, ◌≺◌, whole, ◌⊹◌, ◌⊝◌, ◌⊛◌, ◌⊘◌}

pub positive : (f : Fraction) → 0 < den f
positive f = zero-lt-suc f.rest

-- ---- over plain numbers: (u - v)/D is (a - b)/d
sum_crossed : (u v D u' v' D' a b a' b' d : ℕ) → u * d + b * D ≡ a * D + v * d → u' * d + b' * D' ≡ a' * D' + v' * d →
    (u * D' + u' * D) * d + (b + b') * (D * D') ≡ (a + a') * (D * D') + (v * D' + v' * D) * d
sum_crossed u v D u' v' D' a b a' b' d h k = omega (arith, ap (λ z. z * D') h, ap (λ z. z * D) k)

-- p - q = r - s and p' - q' = r' - s', multiplied
differences : (p q r s p' q' r' s' : ℕ) → p + s ≡ r + q → p' + s' ≡ r' + q' → p * p' + q * q' + (r * s' + s * r') ≡ r * r' + s * s' + (p * q' + q * p')
differences p q r s p' q' r' s' h k = omega (arith, ap (λ z. z * p') h, ap (λ z. z * q') h, ap (λ z. r * z) k, ap (λ z. s * z) k)

product_crossed : (u v D u' v' D' a b a' b' d e : ℕ) → u * d + b * D ≡ a * D + v * d → u' * e + b' * D' ≡ a' * D' + v' * e →
    (u * u' + v * v') * (d * e) + (a * b' + b * a') * (D * D') ≡ (a * a' + b * b') * (D * D') + (u * v' + v * u') * (d * e)
product_crossed u v D u' v' D' a b a' b' d e h k =
    rw (regrouped u v u' v' d e, regrouped a b b' a' D D', regrouped a b a' b' D D', regrouped u v v' u' d e)
    (differences (u * d) (v * d) (a * D) (b * D) (u' * e) (v' * e) (a' * D') (b' * D') h k)
  where
    regrouped : (u v u' v' d e : ℕ) → (u * u' + v * v') * (d * e) ≡ u * d * (u' * e) + v * d * (v' * e)
    regrouped u v u' v' d e = omega arith

quotient_crossed : (u v D p D' a b c d e : ℕ) → u * d + b * D ≡ a * D + v * d → p * e ≡ c * D' →
    u * D' * (d * c) + b * e * (D * p) ≡ a * e * (D * p) + v * D' * (d * c)
quotient_crossed u v D p D' a b c d e h k = omega (arith, ap (λ z. z * (p * e)) h, ap (λ z. u * d * z) k, ap (λ z. v * d * z) k)

-- ---- (a - b)/d is (a - b)/d, and (k·a - k·b)/k·d
pub is_less_over : (a b : ℕ) {d : ℕ} → 0 < d → Is (a less b over d) a b d
unfolding ◌less◌over◌
is_less_over a b {d} h = let e : suc (d - 1) ≡ d = omega arith in record { cross = rw e (omega arith) }

pub is_over : (n : ℕ) {d : ℕ} → 0 < d → Is (n over d) n 0 d
is_over n h = is_less_over n 0 h

pub is_whole : (n : ℕ) {d : ℕ} → 0 < d → Is (whole n) (n * d) 0 d
unfolding ◌less◌over◌
is_whole n {d} h = record { cross = omega arith }

pub is_nothing : {d : ℕ} → 0 < d → Is (whole 0) 0 0 d
is_nothing {d} h = rw (zero-mul d) at (is_whole 0 h)

pub is_one : {d : ℕ} → 0 < d → Is (whole 1) d 0 d
is_one {d} h = rw (one-mul d) at (is_whole 1 h)

pub is_self : (f : Fraction) → Is f f.up f.down (den f)
is_self f = record { cross = refl }

pub is_widened : {f : Fraction} {a b d : ℕ} (k : ℕ) → Is f a b d → Is f (k * a) (k * b) (k * d)
is_widened k h = record { cross = omega (arith, ap (λ z. k * z) h.cross) }

pub is_narrowed : {f : Fraction} (k a b d : ℕ) → 0 < k → Is f (k * a) (k * b) (k * d) → Is f a b d
is_narrowed {f} k a b d p h = record { cross = eq_of_mul-eq-mul_right k p (f.up * d + b * den f) (a * den f + f.down * d) (omega (arith, h.cross)) }

-- another way to write the same difference over the same denominator
pub is_shifted : {f : Fraction} {a b d : ℕ} (a' b' : ℕ) → a + b' ≡ a' + b → Is f a b d → Is f a' b' d
is_shifted {f} a' b' e h = record { cross = omega (arith, h.cross, ap (λ z. z * den f) e) }

-- the same numbers in other words
pub is_written : {f : Fraction} {a b d a' b' d' : ℕ} → Is f a b d → a ≡ a' → b ≡ b' → d ≡ d' → Is f a' b' d'
is_written h p q r = rw (← p, ← q, ← r) h

pub is_widened_behind : {f : Fraction} {a b d : ℕ} (k : ℕ) → Is f a b d → Is f (k * a) (k * b) (d * k)
is_widened_behind {f} {a} {b} {d} k h = is_written (is_widened k h) refl refl (mul_comm k d)

-- over another denominator, by cross multiplication
pub is_recast : {f : Fraction} {a b d : ℕ} (a' b' d' : ℕ) → 0 < d → a * d' + b' * d ≡ a' * d + b * d' → Is f a b d → Is f a' b' d'
is_recast {f} {a} {b} {d} a' b' d' p e h =
    is_narrowed d a' b' d' p (record { cross = omega (arith, ap (λ z. z * d') h.cross, ap (λ z. z * den f) e) })

pub is_crossed : (a b d n d' : ℕ) → 0 < d → a * d' ≡ n * d + b * d' → Is (a less b over d) n 0 d'
is_crossed a b d n d' p e = is_recast n 0 d' p (omega (arith, e)) (is_less_over a b p)

-- ---- sums, differences, products, quotients
one_more : {k : ℕ} → 0 < k → suc (k - 1) ≡ k
one_more h = omega arith

both : (f g : Fraction) → suc (den f * den g - 1) ≡ den f * den g
both f g = one_more (mul-pos (positive f) (positive g))

pub is_⊹ : {f g : Fraction} {a b a' b' d : ℕ} → Is f a b d → Is g a' b' d → Is (f ⊹ g) (a + a') (b + b') d
unfolding ◌⊹◌ ◌less◌over◌
is_⊹ {f} {g} {a} {b} {a'} {b'} {d} h k =
    record { cross = rw (both f g) (sum_crossed f.up f.down (den f) g.up g.down (den g) a b a' b' d h.cross k.cross) }

pub is_⊝ : {f g : Fraction} {a b a' b' d : ℕ} → Is f a b d → Is g a' b' d → Is (f ⊝ g) (a + b') (b + a') d
unfolding ◌⊝◌ ◌less◌over◌
is_⊝ {f} {g} {a} {b} {a'} {b'} {d} h k =
    record { cross = rw (both f g) (sum_crossed f.up f.down (den f) g.down g.up (den g) a b b' a' d h.cross (omega (arith, k.cross))) }

pub is_⊛ : {f g : Fraction} {a b a' b' d e : ℕ} → Is f a b d → Is g a' b' e → Is (f ⊛ g) (a * a' + b * b') (a * b' + b * a') (d * e)
unfolding ◌⊛◌ ◌less◌over◌
is_⊛ {f} {g} {a} {b} {a'} {b'} {d} {e} h k =
    record { cross = rw (both f g) (product_crossed f.up f.down (den f) g.up g.down (den g) a b a' b' d e h.cross k.cross) }

-- a quotient by what is above 0
pub is_⊘ : {f g : Fraction} {a b c d e : ℕ} → 0 < c → Is f a b d → Is g c 0 e → Is (f ⊘ g) (a * e) (b * e) (d * c)
unfolding ◌⊘◌ ◌less◌over◌
is_⊘ {f} {g} {a} {b} {c} {d} {e} p h k =
    let s : (g.up - g.down) * e ≡ c * den g = mul_comm (g.up - g.down) e ∙ mul-sub e g.up g.down ∙ omega (arith, k.cross) in
    let q : 0 < (g.up - g.down) * e = rw s (mul-pos p (positive g)) in
    let r : 0 < g.up - g.down = by_contra 1 (g.up - g.down) (λ z. let y : g.up - g.down ≡ 0 = omega arith in omega (arith, rw y at q)) in
    record { cross = rw (one_more (mul-pos (positive f) r)) (quotient_crossed f.up f.down (den f) (g.up - g.down) (den g) a b c d e h.cross s) }

-- ---- what two fractions of one denominator have to each other, their numerators have
pub same : {f g : Fraction} {a b d : ℕ} → 0 < d → Is f a b d → Is g a b d → f ≈ g
same {f} {g} {a} {b} {d} p h k =
    record { cross = eq_of_mul-eq-mul_right d p (f.up * den g + g.down * den f) (g.up * den f + f.down * den g) (omega (arith, ap (λ z. z * den g) h.cross, ap (λ z. z * den f) k.cross)) }

pub numerators_same : {f g : Fraction} {a b a' b' d : ℕ} → f ≈ g → Is f a b d → Is g a' b' d → a + b' ≡ a' + b
numerators_same {f} {g} {a} {b} {a'} {b'} {d} e h k =
    eq_of_mul-eq-mul_right (den f * den g) (mul-pos (positive f) (positive g)) (a + b') (a' + b)
    (omega (arith, ap (λ z. z * den g) h.cross, ap (λ z. z * den f) k.cross, ap (λ z. z * d) e.cross))

pub below : {f g : Fraction} {a b a' b' d : ℕ} → 0 < d → Is f a b d → Is g a' b' d → a + b' ≤ a' + b → f ≼ g
below {f} {g} {a} {b} {a'} {b'} {d} p h k l =
    record {
      cross = le_of_mul-le-mul_right {m = f.up * den g + g.down * den f} {n = g.up * den f + f.down * den g} {k = d}
          (omega (arith, ap (λ z. z * den g) h.cross, ap (λ z. z * den f) k.cross, mul-le-mul_right (den f * den g) l)) p;
    }

pub numerators_below : {f g : Fraction} {a b a' b' d : ℕ} → f ≼ g → Is f a b d → Is g a' b' d → a + b' ≤ a' + b
numerators_below {f} {g} {a} {b} {a'} {b'} {d} l h k =
    le_of_mul-le-mul_right {m = a + b'} {n = a' + b} {k = den f * den g}
    (omega (arith, ap (λ z. z * den g) h.cross, ap (λ z. z * den f) k.cross, mul-le-mul_right d l.cross)) (mul-pos (positive f) (positive g))

pub strictly_below : {f g : Fraction} {a b a' b' d : ℕ} → Is f a b d → Is g a' b' d → a + b' < a' + b → f ≺ g
strictly_below {f} {g} {a} {b} {a'} {b'} {d} h k l =
    record {
      cross = lt_of_mul-lt-mul_right d
          (omega (arith, ap (λ z. z * den g) h.cross, ap (λ z. z * den f) k.cross, mul-lt-mul_of_pos_right {m = a + b'} {n = a' + b} {k = den f * den g} l (mul-pos (positive f) (positive g))));
    }

pub numerators_strictly_below : {f g : Fraction} {a b a' b' d : ℕ} → 0 < d → f ≺ g → Is f a b d → Is g a' b' d → a + b' < a' + b
numerators_strictly_below {f} {g} {a} {b} {a'} {b'} {d} p l h k =
    lt_of_mul-lt-mul_right (den f * den g)
    (omega (arith, ap (λ z. z * den g) h.cross, ap (λ z. z * den f) k.cross, mul-lt-mul_of_pos_right {m = f.up * den g + g.down * den f} {n = g.up * den f + f.down * den g} {k = d} l.cross p))

-- ---- the same over any two denominators
module _ {f g : Fraction} {a b d a' b' d' : ℕ} (h : Is f a b d) (k : Is g a' b' d') where
  pub equal_across : 0 < d → 0 < d' → a * d' + b' * d ≡ a' * d + b * d' → f ≈ g
  equal_across p q e = same q (is_recast a' b' d' p e h) k

  pub below_across : 0 < d → 0 < d' → a * d' + b' * d ≤ a' * d + b * d' → f ≼ g
  below_across p q e = below (mul-pos q p) (is_widened d' h) (is_widened_behind d k) (omega (arith, e))

  pub strictly_below_across : a * d' + b' * d < a' * d + b * d' → f ≺ g
  strictly_below_across e = strictly_below (is_widened d' h) (is_widened_behind d k) (omega (arith, e))

-- ---- equality
pub ≈_refl : (f : Fraction) → f ≈ f
≈_refl f = record { cross = refl }

pub ≈_sym : {f g : Fraction} → f ≈ g → g ≈ f
≈_sym h = record { cross = sym h.cross }

-- equal fractions are the same (a - b)/d
pub is_≈ : {f g : Fraction} {a b d : ℕ} → f ≈ g → Is g a b d → Is f a b d
is_≈ {f} {g} {a} {b} {d} e h =
    record { cross = eq_of_mul-eq-mul_right (den g) (positive g) (f.up * d + b * den f) (a * den f + f.down * d) (omega (arith, ap (λ z. z * d) e.cross, ap (λ z. z * den f) h.cross)) }

pub ≈_trans : {f g h : Fraction} → f ≈ g → g ≈ h → f ≈ h
≈_trans {f} {g} {h} p q = same (positive h) (is_≈ p (is_≈ q (is_self h))) (is_self h)

-- two fractions over one denominator
pub over_left : (f g : Fraction) → Is f (den g * f.up) (den g * f.down) (den g * den f)
over_left f g = is_widened (den g) (is_self f)

pub over_right : (f g : Fraction) → Is g (g.up * den f) (g.down * den f) (den g * den f)
over_right f g = record { cross = omega arith }

pub ⊹-≈ : {f f' g g' : Fraction} → f ≈ f' → g ≈ g' → f ⊹ g ≈ f' ⊹ g'
⊹-≈ {f} {f'} {g} {g'} p q = same (mul-pos (positive g') (positive f')) (is_⊹ (is_≈ p (over_left f' g')) (is_≈ q (over_right f' g'))) (is_⊹ (over_left f' g') (over_right f' g'))

pub ⊝-≈ : {f f' g g' : Fraction} → f ≈ f' → g ≈ g' → f ⊝ g ≈ f' ⊝ g'
⊝-≈ {f} {f'} {g} {g'} p q = same (mul-pos (positive g') (positive f')) (is_⊝ (is_≈ p (over_left f' g')) (is_≈ q (over_right f' g'))) (is_⊝ (over_left f' g') (over_right f' g'))

pub ⊛-≈ : {f f' g g' : Fraction} → f ≈ f' → g ≈ g' → f ⊛ g ≈ f' ⊛ g'
⊛-≈ {f} {f'} {g} {g'} p q = same (mul-pos (positive f') (positive g')) (is_⊛ (is_≈ p (is_self f')) (is_≈ q (is_self g'))) (is_⊛ (is_self f') (is_self g'))

-- ---- order
pub ≼_of_≈ : {f g : Fraction} → f ≈ g → f ≼ g
≼_of_≈ h = record { cross = le_of_eq h.cross }

pub ≼_trans : {f g h : Fraction} → f ≼ g → g ≼ h → f ≼ h
≼_trans {f} {g} {h} p q =
    record {
      cross = le_of_mul-le-mul_right {m = f.up * den h + h.down * den f} {n = h.up * den f + f.down * den h} {k = den g}
          (omega (arith, mul-le-mul_right (den h) p.cross, mul-le-mul_right (den f) q.cross)) (positive g);
    }

sum_ordered : (u v D u' v' D' w z E w' z' E' : ℕ) → u * D' + v' * D ≤ u' * D + v * D' → w * E' + z' * E ≤ w' * E + z * E' →
    (u * E + w * D) * (D' * E') + (v' * E' + z' * D') * (D * E) ≤ (u' * E' + w' * D') * (D * E) + (v * E + z * D) * (D' * E')
sum_ordered u v D u' v' D' w z E w' z' E' p q =
    rw (spread u w D E D' E', spread' v' z' D E D' E', spread' u' w' D E D' E', spread v z D E D' E')
    (weighed (u * D') (v' * D) (u' * D) (v * D') (w * E') (z' * E) (w' * E) (z * E') (E * E') (D * D') p q)
  where
    spread : (u w D E D' E' : ℕ) → (u * E + w * D) * (D' * E') ≡ u * D' * (E * E') + w * E' * (D * D')
    spread u w D E D' E' = omega arith

    spread' : (u w D E D' E' : ℕ) → (u * E' + w * D') * (D * E) ≡ u * D * (E * E') + w * E * (D * D')
    spread' u w D E D' E' = omega arith

    weighed : (a b c d a' b' c' d' k l : ℕ) → a + b ≤ c + d → a' + b' ≤ c' + d' → a * k + a' * l + (b * k + b' * l) ≤ c * k + c' * l + (d * k + d' * l)
    weighed a b c d a' b' c' d' k l p q = omega (arith, mul-le-mul_right k p, mul-le-mul_right l q)

pub ⊹-≼ : {f f' g g' : Fraction} → f ≼ f' → g ≼ g' → f ⊹ g ≼ f' ⊹ g'
unfolding ◌⊹◌ ◌less◌over◌
⊹-≼ {f} {f'} {g} {g'} p q =
    record { cross = rw (both f g, both f' g') (sum_ordered f.up f.down (den f) f'.up f'.down (den f') g.up g.down (den g) g'.up g'.down (den g') p.cross q.cross) }
