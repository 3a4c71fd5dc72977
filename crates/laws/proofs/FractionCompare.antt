-- Fractions compared across any two denominators; multiples, squares, products that keep the order, tests of equal fractions, what a difference tells.
-- Assumes nothing.
use Prim.Native.Nat.{ℕ, ◌+◌, ◌-◌, ◌*◌, ◌^◌, ◌≤◌, ◌<◌}
use mathlib.Core.List.{[]}
use mathlib.Core.Path.{◌≡◌, refl, sym, ◌∙◌}
use mathlib.Core.Bool.{Bool, true, false, cond}
use native.Mathlib.Nat.{le_antisymm, mul-pos, mul_comm, mul-le-mul_right, mul-lt-mul_of_pos_right, lt_of_mul-lt-mul_right}
use native.Mathlib.Omega.{arith}
use lib.Dec.{lit<}
use Rattle.laws.specs.Fraction.{Fraction, den, ◌less◌over◌, ◌over◌, whole, Is, ◌≈◌, ◌≼◌, ◌≺◌, ◌≼?◌, ◌⊝◌, ◌⊛◌}
use Rattle.laws.proofs.Fraction.{positive, is_over, is_whole, is_nothing, is_self, is_shifted, is_⊝, is_⊛, is_widened, is_written, over_left, over_right, same, below, strictly_below, numerators_below, numerators_strictly_below, ≈_refl, ≈_sym, ≈_trans, ⊛-≈, ≼_of_≈, ≼_trans, below_across}
use Rattle.laws.proofs.FractionRing.{⊛_comm, ⊛_nothing}
use Rattle.laws.proofs.FractionOrder.{ordered, test_passes, test_fails}
use Rattle.laws.proofs.Polynomial.{◌:*◌, ◌:^◌, ◌:=◌, ◌⊢◌, poly1}

-- ---- two quotients over any two denominators
module _ {f g : Fraction} {a b d a' b' d' : ℕ} (h : Is f a b d) (k : Is g a' b' d') where
  left : Is f (a * d') (b * d') (d * d')
  left = is_written (is_widened d' h) (mul_comm d' a) (mul_comm d' b) (mul_comm d' d)

  right : Is g (a' * d) (b' * d) (d * d')
  right = is_written (is_widened d k) (mul_comm d a') (mul_comm d b') refl

  pub across_below : f ≼ g → a * d' + b' * d ≤ a' * d + b * d'
  across_below l = numerators_below l left right

  pub across_strictly_below : 0 < d → 0 < d' → f ≺ g → a * d' + b' * d < a' * d + b * d'
  across_strictly_below p q l = numerators_strictly_below (mul-pos p q) l left right

-- ---- multiples and squares of what is not negative
pub plain_not_negative : {f : Fraction} → f.down ≡ 0 → whole 0 ≼ f
unfolding ◌less◌over◌
plain_not_negative {f} e = record { cross = rw e (omega arith) }

pub is_times : {f : Fraction} {n d : ℕ} (k : ℕ) → Is f n 0 d → Is (whole k ⊛ f) (k * n) 0 d
is_times {f} {n} {d} k h = is_written (is_⊛ (is_whole k {d = 1} (lit< tt)) h) (omega arith) (omega arith) (omega arith)

pub is_square : {f : Fraction} {n d : ℕ} → Is f n 0 d → Is (f ⊛ f) (n ^ 2) 0 (d ^ 2)
is_square {f} {n} {d} h = is_written (is_⊛ h h) (square n) (omega arith) (poly1 (λ d. [] ⊢ d :* d := d :^ 2) tt d)
  where
    square : (n : ℕ) → n * n + 0 * 0 ≡ n ^ 2
    square n = omega (arith, poly1 (λ n. [] ⊢ n :* n := n :^ 2) tt n)

-- ---- products with what is not negative keep the order
pub ⊛_rises : {f g : Fraction} (n : ℕ) {d : ℕ} → 0 < d → f ≼ g → f ⊛ (n over d) ≼ g ⊛ (n over d)
⊛_rises {f} {g} n {d} p l =
    below_across (is_⊛ (is_self f) (is_over n p)) (is_⊛ (is_self g) (is_over n p)) (mul-pos (positive f) p) (mul-pos (positive g) p)
    (crossed f.up f.down (den f) g.up g.down (den g) l.cross)
  where
    crossed : (u v D u' v' D' : ℕ) → u * D' + v' * D ≤ u' * D + v * D' →
        (u * n + v * 0) * (D' * d) + (u' * 0 + v' * n) * (D * d) ≤ (u' * n + v' * 0) * (D * d) + (u * 0 + v * n) * (D' * d)
    crossed u v D u' v' D' h = omega (arith, mul-le-mul_right (n * d) h)

-- the same from the left
pub rises_⊛ : {f g : Fraction} (n : ℕ) {d : ℕ} → 0 < d → f ≼ g → (n over d) ⊛ f ≼ (n over d) ⊛ g
rises_⊛ {f} {g} n {d} p l = ≼_trans (≼_of_≈ (⊛_comm (n over d) f)) (≼_trans (⊛_rises n p l) (≼_of_≈ (⊛_comm g (n over d))))

pub times_rises : {f g : Fraction} (k : ℕ) → f ≼ g → whole k ⊛ f ≼ whole k ⊛ g
times_rises k l = rises_⊛ k (lit< tt) l

-- whatever way what is not negative is written
pub ⊛_keeps : {f g x : Fraction} → whole 0 ≼ x → f ≼ g → f ⊛ x ≼ g ⊛ x
⊛_keeps {f} {g} {x} p l =
    let n : x.down ≤ x.up = omega (arith, numerators_below p (is_nothing (positive x)) (is_self x)) in
    let i : Is x (x.up - x.down) 0 (den x) = is_shifted (x.up - x.down) 0 (omega arith) (is_self x) in
    let e : x ≈ ((x.up - x.down) over den x) = same (positive x) i (is_over (x.up - x.down) (positive x)) in
    ≼_trans (≼_of_≈ (⊛-≈ (≈_refl f) e)) (≼_trans (⊛_rises (x.up - x.down) (positive x) l) (≼_of_≈ (⊛-≈ (≈_refl g) (≈_sym e))))

pub ⊛_not_negative : {f g : Fraction} → whole 0 ≼ f → whole 0 ≼ g → whole 0 ≼ f ⊛ g
⊛_not_negative {f} {g} p q = ≼_trans (≼_of_≈ (≈_trans (≈_sym (⊛_nothing g)) (⊛_comm g (whole 0)))) (⊛_keeps q p)

-- ---- below and strictly below
pub ≈_of_both : {f g : Fraction} → f ≼ g → g ≼ f → f ≈ g
≈_of_both p q = record { cross = le_antisymm p.cross q.cross }

pub ≼_of_≺ : {f g : Fraction} → f ≺ g → f ≼ g
≼_of_≺ l = record { cross = omega (arith, l.cross) }

pub strictly_then_below : {f g h : Fraction} → f ≺ g → g ≼ h → f ≺ h
strictly_then_below {f} {g} {h} p q =
    record {
      cross = lt_of_mul-lt-mul_right (den g)
          (omega (arith, mul-lt-mul_of_pos_right {k = den h} p.cross (positive h), mul-le-mul_right (den f) q.cross));
    }

pub below_then_strictly : {f g h : Fraction} → f ≼ g → g ≺ h → f ≺ h
below_then_strictly {f} {g} {h} p q =
    record {
      cross = lt_of_mul-lt-mul_right (den g)
          (omega (arith, mul-le-mul_right (den h) p.cross, mul-lt-mul_of_pos_right {k = den f} q.cross (positive f)));
    }

-- ---- what is asked of equal fractions has one answer
pub test_same : {f f' g g' : Fraction} → f ≈ f' → g ≈ g' → (f ≼? g) ≡ (f' ≼? g')
test_same {f} {f'} {g} {g'} p q =
    ordered f g
    (λ l. test_passes l ∙ sym (test_passes (≼_trans (≼_of_≈ (≈_sym p)) (≼_trans l (≼_of_≈ q)))))
    (λ l. test_fails l ∙ sym (test_fails (below_then_strictly (≼_of_≈ (≈_sym q)) (strictly_then_below l (≼_of_≈ p)))))

pub cond_≈ : (t : Bool) {f f' g g' : Fraction} → f ≈ f' → g ≈ g' → cond t f g ≈ cond t f' g'
cond_≈ true p q = p
cond_≈ false p q = q

-- ---- what a difference tells of the two
is_difference : (f g : Fraction) → Is (f ⊝ g) (den g * f.up + g.down * den f) (den g * f.down + g.up * den f) (den g * den f)
is_difference f g = is_⊝ (over_left f g) (over_right f g)

pub difference_not_below : (f g : Fraction) {h : Fraction} → f ⊝ g ≈ h → whole 0 ≼ h → g ≼ f
difference_not_below f g e l =
    let d = mul-pos (positive g) (positive f) in
    below d (over_right f g) (over_left f g) (omega (arith, numerators_below (≼_trans l (≼_of_≈ (≈_sym e))) (is_nothing d) (is_difference f g)))

pub difference_below : (f g : Fraction) {h : Fraction} → f ⊝ g ≈ h → h ≺ whole 0 → f ≺ g
difference_below f g e l =
    let d = mul-pos (positive g) (positive f) in
    strictly_below (over_left f g) (over_right f g) (omega (arith, numerators_strictly_below d (below_then_strictly (≼_of_≈ e) l) (is_difference f g) (is_nothing d)))
