-- Fractions in order: what the test tells, the lesser of two, what is above 0 and may divide, and the one root that is not below it. Assumes nothing.
use Prim.Native.Nat.{ℕ, ◌+◌, ◌-◌, ◌*◌, ◌≤◌, ◌<◌, min}
use mathlib.Core.Path.{◌≡◌, refl, sym}
use mathlib.Core.Bool.{true, false, cond}
use native.Mathlib.Nat.{mul-pos, le_antisymm, le_dest, mul-lt-mul_of_pos_left, mul-lt-mul_of_pos_right}
use native.Mathlib.Omega.{arith, by_contra}
use lib.Dec.{leb}
use borrow.Author.Tests.{le-leb, lt-leb}
use Rattle.laws.specs.Fraction.{Fraction, den, whole, Is, ◌≈◌, ◌≼◌, ◌≺◌, ◌≼?◌, lesser, ◌⊹◌, ◌⊛◌, ◌⊘◌}
use Rattle.laws.proofs.Choice.{split, chosen}
use Rattle.laws.proofs.Fraction.{positive, is_self, is_nothing, is_shifted, is_⊹, is_⊛, is_⊘, is_≈, over_left, over_right, same, numerators_same, below, numerators_below, strictly_below, numerators_strictly_below}

-- ---- tests
pub test_passes : {f g : Fraction} → f ≼ g → (f ≼? g) ≡ true
unfolding ◌≼?◌
test_passes {f} {g} h = le-leb (f.up * den g + g.down * den f) (g.up * den f + f.down * den g) h.cross

pub test_fails : {f g : Fraction} → g ≺ f → (f ≼? g) ≡ false
unfolding ◌≼?◌
test_fails {f} {g} h = lt-leb (f.up * den g + g.down * den f) (g.up * den f + f.down * den g) h.cross

-- f is at most g, or above it
pub ordered : {P : Type 0} (f g : Fraction) → (f ≼ g → P) → (g ≺ f → P) → P
ordered f g h k =
    split (f.up * den g + g.down * den f) (g.up * den f + f.down * den g) (λ l. h (record { cross = l })) (λ l. k (record { cross = omega (arith, l) }))

-- (a - b)/d, whichever way a test goes
pub is_chosen : {f g : Fraction} {a b d : ℕ} (m n : ℕ) → (m ≤ n → Is f a b d) → (n < m → Is g a b d) → Is (cond (leb m n) f g) a b d
is_chosen {a = a} {b} {d} m n h k = chosen (λ f. Is f a b d) m n h k

-- ---- the lesser of two
pub lesser_first : {f g : Fraction} → f ≼ g → lesser f g ≡ f
unfolding lesser
lesser_first h = rw (test_passes h) refl

pub lesser_second : {f g : Fraction} → g ≺ f → lesser f g ≡ g
unfolding lesser
lesser_second h = rw (test_fails h) refl

pub is_lesser : {f g : Fraction} {a c d : ℕ} → 0 < d → Is f a 0 d → Is g c 0 d → Is (lesser f g) (min a c) 0 d
is_lesser {f} {g} {a} {c} p h k =
    split a c (λ l. rw (lesser_first (below p h k (omega arith))) (is_shifted (min a c) 0 (omega arith) h))
    (λ l. rw (lesser_second (strictly_below k h (omega arith))) (is_shifted (min a c) 0 (omega arith) k))

-- ---- above 0
pub above_0 : {f : Fraction} {a b d : ℕ} → 0 < d → Is f a b d → b < a → whole 0 ≺ f
above_0 p h l = strictly_below (is_nothing p) h (omega arith)

pub numerator_above_0 : {f : Fraction} {a b d : ℕ} → 0 < d → Is f a b d → whole 0 ≺ f → b < a
numerator_above_0 p h l = omega (arith, numerators_strictly_below p l (is_nothing p) h)

pub sum_above_0 : {f g : Fraction} → whole 0 ≺ f → whole 0 ≺ g → whole 0 ≺ f ⊹ g
sum_above_0 {f} {g} h k =
    above_0 (mul-pos (positive g) (positive f)) (is_⊹ (over_left f g) (over_right f g))
    (summed (numerator_above_0 (positive f) (is_self f) h) (numerator_above_0 (positive g) (is_self g) k) (positive f) (positive g))
  where
    summed : {u v D u' v' D' : ℕ} → v < u → v' < u' → 0 < D → 0 < D' → D' * v + v' * D < D' * u + u' * D
    summed {u} {v} {D} {u'} {v'} {D'} h k p q = omega (arith, mul-lt-mul_of_pos_left {m = v} {n = u} {k = D'} h q, mul-lt-mul_of_pos_right {m = v'} {n = u'} {k = D} k p)

-- what is not below 0 has a numerator with nothing taken away
above_shifted : {f : Fraction} {a b d : ℕ} → b ≤ a → Is f a b d → Is f (a - b) 0 d
above_shifted {a = a} {b} l h = is_shifted (a - b) 0 (omega arith) h

pub product_above_0 : {f g : Fraction} → whole 0 ≺ f → whole 0 ≺ g → whole 0 ≺ f ⊛ g
product_above_0 {f} {g} h k =
    let l : f.down < f.up = numerator_above_0 (positive f) (is_self f) h in
    let m : g.down < g.up = numerator_above_0 (positive g) (is_self g) k in
    let n : 0 < (f.up - f.down) * (g.up - g.down) = mul-pos (omega arith) (omega arith) in
    above_0 (mul-pos (positive f) (positive g)) (is_⊛ (above_shifted (omega arith) (is_self f)) (above_shifted (omega arith) (is_self g))) (omega (arith, n))

-- equal quotients, by what is above 0
pub ⊘-≈ : {f f' g g' : Fraction} → whole 0 ≺ g' → f ≈ f' → g ≈ g' → f ⊘ g ≈ f' ⊘ g'
⊘-≈ {f} {f'} {g} {g'} p e h =
    let l : g'.down < g'.up = numerator_above_0 (positive g') (is_self g') p in
    let n : 0 < g'.up - g'.down = omega arith in
    let k = above_shifted (omega arith) (is_self g') in
    same (mul-pos (positive f') n) (is_⊘ n (is_≈ e (is_self f')) (is_≈ h k)) (is_⊘ n (is_self f') k)

-- ---- no two numbers that are not below 0 have one square
pub one_root : {r s : Fraction} → whole 0 ≼ r → whole 0 ≼ s → r ⊛ r ≈ s ⊛ s → r ≈ s
one_root {r} {s} h k e =
    let p : 0 < den s * den r = mul-pos (positive s) (positive r) in
    let i = above_shifted (omega (arith, numerators_below h (is_nothing p) (over_left r s))) (over_left r s) in
    let j = above_shifted (omega (arith, numerators_below k (is_nothing p) (over_right r s))) (over_right r s) in
    let q = root (den s * r.up - den s * r.down) (s.up * den r - s.down * den r) (omega (arith, numerators_same e (is_⊛ i i) (is_⊛ j j))) in
    same p (rw q at i) j
  where
    not_above : (w d : ℕ) → w * w ≡ d * d → w ≤ d
    not_above w d e = by_contra w d (λ (h : d < w). let (k, f) = le_dest h in omega (arith, rw (← f) at e))

    root : (w d : ℕ) → w * w ≡ d * d → w ≡ d
    root w d e = le_antisymm (not_above w d e) (not_above d w (sym e))
