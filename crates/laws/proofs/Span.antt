-- Span functions: e2 and e3 are some, what is made of them is one again, and for each the share of a group is not negative. Assumes nothing.
use Prim.Native.Nat.{ℕ, zero, suc, ◌+◌, ◌-◌, ◌*◌, ◌^◌, ◌≤◌}
use mathlib.Core.Path.{◌≡◌, refl}
use mathlib.Core.List.{[], ◌∷◌}
use native.Mathlib.Nat.{mul-le-mul_left, pow-le-pow_left, zero-add, mul-add, mul-zero, le_dest, sub-zero, zero-sub, mul-le-mul_right}
use native.Mathlib.Omega.{arith}
use Rattle.laws.specs.Span.{SpanFunction, e2, e3}
use Rattle.laws.proofs.Polynomial.{C, ◌:+◌, ◌:*◌, ◌:^◌, ◌:≤◌, ◌⊲◌, sq, ◌⊢◌, poly3, poly4}

-- ---- sums of two powers

-- of two pairs of numbers the one that lies wider apart, and is not lower in sum, has the greater sum of squares and of cubes
pub wider_squares : (w p q u : ℕ) → w ≤ p → w ≤ q → p + q ≤ u + w → p ^ 2 + q ^ 2 ≤ u ^ 2 + w ^ 2
wider_squares w p q u h k l =
    let (a, e) = le_dest h in
    let (b, f) = le_dest k in
    let m : w + a + b ≤ u = omega arith in
    let (r, g) = le_dest m in
    rw (← e, ← f, ← g) (poly4 (λ w a b r. [] ⊢ (w :+ a) :^ 2 :+ (w :+ b) :^ 2 :≤ (w :+ a :+ b :+ r) :^ 2 :+ w :^ 2) tt w a b r)

pub wider_cubes : (w p q u : ℕ) → w ≤ p → w ≤ q → p + q ≤ u + w → p ^ 3 + q ^ 3 ≤ u ^ 3 + w ^ 3
wider_cubes w p q u h k l =
    let (a, e) = le_dest h in
    let (b, f) = le_dest k in
    let m : w + a + b ≤ u = omega arith in
    let (r, g) = le_dest m in
    rw (← e, ← f, ← g) (poly4 (λ w a b r. [] ⊢ (w :+ a) :^ 3 :+ (w :+ b) :^ 3 :≤ (w :+ a :+ b :+ r) :^ 3 :+ w :^ 3) tt w a b r)

-- ---- e2 and e3: the difference in each is exact

square_tangent : (w d t : ℕ) → w ≤ d + t → w ^ 2 ≤ 2 * w * t + d ^ 2
square_tangent = poly3 (λ w d t. (C 2 :* w ⊲ w :≤ d :+ t) ∷ sq (C 1) w d ∷ [] ⊢ w :^ 2 :≤ C 2 :* w :* t :+ d :^ 2) tt

cube_tangent : (w d t : ℕ) → w ≤ d + t → w ^ 3 ≤ 3 * w ^ 2 * t + d ^ 3
cube_tangent = poly3 (λ w d t. (C 3 :* w :^ 2 ⊲ w :≤ d :+ t) ∷ sq (C 2 :* w :+ d) w d ∷ [] ⊢ w :^ 3 :≤ C 3 :* w :^ 2 :* t :+ d :^ 3) tt

left_falls : (w x i : ℕ) → w - (x + i) ≤ w - x
left_falls w x i = omega arith

pub e2_sum : (w t : ℕ) → e2 w t + w ^ 2 ≡ 2 * w * t + (w - t) ^ 2
unfolding e2
e2_sum w t = omega (arith, square_tangent w (w - t) t (omega arith))

pub e3_sum : (w t : ℕ) → e3 w t + w ^ 3 ≡ 3 * w ^ 2 * t + (w - t) ^ 3
unfolding e3
e3_sum w t = omega (arith, cube_tangent w (w - t) t (omega arith))

-- a line less what falls and is convex, where both start alike
line_less : (s c : ℕ) (g h : ℕ → ℕ) → ((t : ℕ) → h t + c ≡ s * t + g t) → g 0 ≡ c → ((x i : ℕ) → g (x + i) ≤ g x) →
    ((x i j : ℕ) → g (x + i) + g (x + j) ≤ g x + g (x + i + j)) → SpanFunction s h
line_less s c g h sum start falls convex = record {
  nothing = omega (arith, sum 0);
  steep = λ x i. omega (arith, sum (x + i), sum x, falls x i);
  convex = λ x i j. omega (arith, sum (x + i), sum (x + j), sum x, sum (x + i + j), convex x i j);
}

pub e2_spans : (w : ℕ) → SpanFunction (2 * w) (e2 w)
e2_spans w =
    line_less (2 * w) (w ^ 2) (λ t. (w - t) ^ 2) (e2 w) (e2_sum w) (rw sub-zero refl) (λ x i. pow-le-pow_left (left_falls w x i) 2)
    (λ x i j. wider_squares (w - (x + i + j)) (w - (x + i)) (w - (x + j)) (w - x) (omega arith) (omega arith) (omega arith))

pub e3_spans : (w : ℕ) → SpanFunction (3 * w ^ 2) (e3 w)
e3_spans w =
    line_less (3 * w ^ 2) (w ^ 3) (λ t. (w - t) ^ 3) (e3 w) (e3_sum w) (rw sub-zero refl) (λ x i. pow-le-pow_left (left_falls w x i) 3)
    (λ x i j. wider_cubes (w - (x + i + j)) (w - (x + i)) (w - (x + j)) (w - x) (omega arith) (omega arith) (omega arith))

-- ---- what every span function does

module _ {s : ℕ} {h : ℕ → ℕ} (f : SpanFunction s h) where
  pub superadditive : (i j : ℕ) → h i + h j ≤ h (i + j)
  superadditive i j = omega (arith, f.nothing, rw (zero-add i, zero-add j) at (f.convex 0 i j))

  pub rises : {x y : ℕ} → x ≤ y → h x ≤ h y
  rises {x} {y} p = let (d, e) = le_dest p in rw (← e) (omega (arith, superadditive x d))

  -- steep, for any two places
  pub steep_between : {x y : ℕ} → x ≤ y → h y + s * x ≤ h x + s * y
  steep_between {x} {y} p = let (d, e) = le_dest p in rw (← e) (omega (arith, f.steep x d))

  -- convex, for any two pairs of places
  pub wider : (m p q n : ℕ) → m ≤ p → m ≤ q → p + q ≤ m + n → h p + h q ≤ h m + h n
  wider m p q n a b c =
      let (i, d) = le_dest a in
      let (j, e) = le_dest b in
      let r : m + i + j ≤ n = omega arith in
      rw (← d, ← e) (omega (arith, f.convex m i j, rises r))

-- ---- what is a span function again

pub steeper : {s t : ℕ} {h : ℕ → ℕ} → s ≤ t → SpanFunction s h → SpanFunction t h
steeper p f = record { nothing = f.nothing; steep = λ x i. omega (arith, f.steep x i, mul-le-mul_right i p); convex = f.convex }

pub sum_spans : {s t : ℕ} {h g : ℕ → ℕ} → SpanFunction s h → SpanFunction t g → SpanFunction (s + t) (λ x. h x + g x)
sum_spans f k = record {
  nothing = omega (arith, f.nothing, k.nothing);
  steep = λ x i. omega (arith, f.steep x i, k.steep x i);
  convex = λ x i j. omega (arith, f.convex x i j, k.convex x i j);
}

pub multiple_spans : {s : ℕ} {h : ℕ → ℕ} (c : ℕ) → SpanFunction s h → SpanFunction (c * s) (λ x. c * h x)
multiple_spans c f = record {
  nothing = rw f.nothing (mul-zero c);
  steep = λ x i. omega (arith, mul-le-mul_left c (f.steep x i));
  convex = λ x i j. omega (arith, mul-le-mul_left c (f.convex x i j));
}

-- lengths in another unit
pub unit_spans : {s : ℕ} {h : ℕ → ℕ} (c : ℕ) → SpanFunction s h → SpanFunction (c * s) (λ x. h (c * x))
unit_spans c f = record {
  nothing = rw (mul-zero c) f.nothing;
  steep = λ x i. rw (mul-add c x i) (omega (arith, f.steep (c * x) (c * i)));
  convex = λ x i j. rw (mul-add c (x + i) j, mul-add c x i, mul-add c x j) (f.convex (c * x) (c * i) (c * j));
}

rest_rises : (x i u : ℕ) → x - u ≤ x + i - u
rest_rises x i u = omega arith

-- lengths counted from u on
pub later_spans : {s : ℕ} {h : ℕ → ℕ} (u : ℕ) → SpanFunction s h → SpanFunction s (λ x. h (x - u))
later_spans {s} u f = record {
  nothing = rw (zero-sub u) f.nothing;
  steep = λ x i. let m : x + i - u ≤ x - u + i = omega arith in omega (arith, steep_between f (rest_rises x i u), mul-le-mul_left s m);
  convex = λ x i j. wider f (x - u) (x + i - u) (x + j - u) (x + i + j - u) (rest_rises x i u) (rest_rises x j u) (omega arith);
}

-- ---- no share is negative

-- of a group of length w whose last piece is l and whose first piece is f, in halves; τa and τf are 1 where it touches the aft and the forward end
pub share_not_negative : {s : ℕ} {h : ℕ → ℕ} → SpanFunction s h → (w l f τa τf : ℕ) → τa ≤ 1 → τf ≤ 1 →
    (2 - τa) * h (w - l) + τa * s * (w - l) + (2 - τf) * h (w - f) + τf * s * (w - f) ≤ (2 - τa - τf) * h w + (τa + τf) * s * w + 2 * h (w - l - f)
share_not_negative {s} {h} g w l f τa τf a b =
    cases τa τf a b
    (wider g (w - l - f) (w - l) (w - f) w (omega arith) (omega arith) (omega arith))
    (steep_between g {x = w - l} {y = w} (omega arith))
    (steep_between g {x = w - f} {y = w} (omega arith))
  where
    cases : (τa τf : ℕ) → τa ≤ 1 → τf ≤ 1 → h (w - l) + h (w - f) ≤ h (w - l - f) + h w →
        h w + s * (w - l) ≤ h (w - l) + s * w → h w + s * (w - f) ≤ h (w - f) + s * w →
        (2 - τa) * h (w - l) + τa * s * (w - l) + (2 - τf) * h (w - f) + τf * s * (w - f) ≤ (2 - τa - τf) * h w + (τa + τf) * s * w + 2 * h (w - l - f)
    cases zero zero a b c d e = omega arith
    cases zero (suc zero) a b c d e = omega arith
    cases (suc zero) zero a b c d e = omega arith
    cases (suc zero) (suc zero) a b c d e = omega arith
    cases (suc (suc n)) k a b c d e = omega arith
    cases zero (suc (suc n)) a b c d e = omega arith
    cases (suc zero) (suc (suc n)) a b c d e = omega arith
