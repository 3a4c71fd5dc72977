-- e2 and e3 in closed form on either side of w, and of a w in two parts. Assumes nothing.
use Prim.Native.Nat.{ℕ, ◌+◌, ◌-◌, ◌*◌, ◌^◌, ◌≤◌}
use mathlib.Core.Path.{◌≡◌}
use mathlib.Core.List.{[], ◌∷◌}
use native.Mathlib.Nat.{add-zero, add-sub_cancel_left, sub-eq-zero_of_le, zero-mul, le_dest}
use native.Mathlib.Omega.{arith, sub_cases}
use Rattle.laws.specs.Span.{e2, e3}
use Rattle.laws.proofs.Span.{e2_sum, e3_sum}
use Rattle.laws.proofs.Polynomial.{C, ◌:+◌, ◌:*◌, ◌:^◌, ◌:=◌, ◌⊲◌, eq, ◌⊢◌, poly3, poly9, poly10}

-- ---- on either side of w

pub e2_below : {w t : ℕ} → t ≤ w → e2 w t ≡ t ^ 2
e2_below {w} {t} h =
    let (r, e) = le_dest h in
    rw (← e)
    (poly3 (λ t r E. (C 1 ⊲ E :+ (t :+ r) :^ 2 := C 2 :* (t :+ r) :* t :+ r :^ 2) ∷ [] ⊢ E := t :^ 2) tt
    t r (e2 (t + r) t) (rw (add-sub_cancel_left t r) at (e2_sum (t + r) t)))

pub e3_below : {w t : ℕ} → t ≤ w → e3 w t + t ^ 3 ≡ 3 * w * t ^ 2
e3_below {w} {t} h =
    let (r, e) = le_dest h in
    rw (← e)
    (poly3 (λ t r E. (C 1 ⊲ E :+ (t :+ r) :^ 3 := C 3 :* (t :+ r) :^ 2 :* t :+ r :^ 3) ∷ [] ⊢ E :+ t :^ 3 := C 3 :* (t :+ r) :* t :^ 2) tt
    t r (e3 (t + r) t) (rw (add-sub_cancel_left t r) at (e3_sum (t + r) t)))

pub e2_above : {w t : ℕ} → w ≤ t → e2 w t + w ^ 2 ≡ 2 * w * t
e2_above {w} {t} h = rw (sub-eq-zero_of_le h, add-zero) at (e2_sum w t)

pub e3_above : {w t : ℕ} → w ≤ t → e3 w t + w ^ 3 ≡ 3 * w ^ 2 * t
e3_above {w} {t} h = rw (sub-eq-zero_of_le h, add-zero) at (e3_sum w t)

-- ---- of a + b, by those of a, and of b from there on

-- of t, what is left of a and then of b: where some of a is left, all of b is
left_of_both : (a b t : ℕ) → a + b - t ≡ b - (t - a) + (a - t)
left_of_both a b t = omega arith

left_in_turn : (a b t : ℕ) → (a - t) * b ≡ (a - t) * (b - (t - a))
left_in_turn a b t =
    sub_cases a t ((a - t) * b ≡ (a - t) * (b - (t - a)))
    (λ h e. let z : b - (t - a) ≡ b = omega arith in rw z)
    (λ h e. rw (e, zero-mul b, zero-mul (b - (t - a))))

pub e2_adds : (a b t : ℕ) → e2 a t + e2 b (t - a) ≡ e2 (a + b) t
e2_adds a b t =
    plain a b t (t - a) (a - t) (b - (t - a)) (e2 a t) (e2 b (t - a)) (e2 (a + b) t)
    (e2_sum a t) (e2_sum b (t - a)) (rw (left_of_both a b t) at (e2_sum (a + b) t)) (omega arith) (left_in_turn a b t)
  where
    plain : (a b t q r z x y s : ℕ) → x + a ^ 2 ≡ 2 * a * t + r ^ 2 → y + b ^ 2 ≡ 2 * b * q + z ^ 2 → s + (a + b) ^ 2 ≡ 2 * (a + b) * t + (z + r) ^ 2 →
        a + q ≡ t + r → r * b ≡ r * z → x + y ≡ s
    plain = poly9
        (λ a b t q r z x y s.
        (C 1 ⊲ x :+ a :^ 2 := C 2 :* a :* t :+ r :^ 2) ∷
        (C 1 ⊲ y :+ b :^ 2 := C 2 :* b :* q :+ z :^ 2) ∷
        eq (C 0) (C 1) (s :+ (a :+ b) :^ 2) (C 2 :* (a :+ b) :* t :+ (z :+ r) :^ 2) ∷
        (C 2 :* b ⊲ a :+ q := t :+ r) ∷ (C 2 ⊲ r :* b := r :* z) ∷ [] ⊢ x :+ y := s) tt

pub e3_adds : (a b t : ℕ) → 3 * b * e2 a t + e3 a t + e3 b (t - a) ≡ e3 (a + b) t
e3_adds a b t =
    plain a b t (t - a) (a - t) (b - (t - a)) (e2 a t) (e3 a t) (e3 b (t - a)) (e3 (a + b) t)
    (e2_sum a t) (e3_sum a t) (e3_sum b (t - a)) (rw (left_of_both a b t) at (e3_sum (a + b) t)) (omega arith) (left_in_turn a b t)
  where
    plain : (a b t q r z w x y s : ℕ) → w + a ^ 2 ≡ 2 * a * t + r ^ 2 → x + a ^ 3 ≡ 3 * a ^ 2 * t + r ^ 3 → y + b ^ 3 ≡ 3 * b ^ 2 * q + z ^ 3 →
        s + (a + b) ^ 3 ≡ 3 * (a + b) ^ 2 * t + (z + r) ^ 3 → a + q ≡ t + r → r * b ≡ r * z → 3 * b * w + x + y ≡ s
    plain = poly10
        (λ a b t q r z w x y s.
        (C 3 :* b ⊲ w :+ a :^ 2 := C 2 :* a :* t :+ r :^ 2) ∷
        (C 1 ⊲ x :+ a :^ 3 := C 3 :* a :^ 2 :* t :+ r :^ 3) ∷
        (C 1 ⊲ y :+ b :^ 3 := C 3 :* b :^ 2 :* q :+ z :^ 3) ∷
        eq (C 0) (C 1) (s :+ (a :+ b) :^ 3) (C 3 :* (a :+ b) :^ 2 :* t :+ (z :+ r) :^ 3) ∷
        (C 3 :* b :^ 2 ⊲ a :+ q := t :+ r) ∷ (C 3 :* (b :+ z :+ r) ⊲ r :* b := r :* z) ∷ [] ⊢ C 3 :* b :* w :+ x :+ y := s) tt
