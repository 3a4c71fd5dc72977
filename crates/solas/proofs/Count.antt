-- The rules for one, two, three and more zones count the whole ship once. Assumes nothing.
use Prim.Native.Nat.{ℕ, zero, suc, ◌+◌, ◌-◌, ◌≤◌, ◌<◌}
use mathlib.Core.Path.{◌≡◌, refl, ap, ◌∙◌}
use native.Mathlib.Nat.{add-zero, le_trans}
use native.Mathlib.Omega.{arith}
use Rattle.laws.specs.Sums.{sum_below}
use Rattle.laws.proofs.Sums.{sum_below_same, sum_below_add, sum_below_zero, place_not_above}
use Rattle.solas.specs.Count.{added, taken, groups}

module _ (F : ℕ → ℕ → ℕ) where
  -- what the groups of up to k + 1 zones from a have still to give to those from a + 1
  next : ℕ → ℕ → ℕ
  next a zero = 0
  next a (suc k) = F (a + 1) (a + k + 1)

  -- the groups of up to k + 1 zones that begin with zone a
  row : (a k : ℕ) → sum_below (λ j. added F a (suc j)) (suc k) + next a k ≡ sum_below (λ j. taken F a (suc j)) (suc k) + F a (a + k)
  unfolding added taken next
  row a zero = rw (add-zero a) (omega arith)
  row a (suc zero) =
      let e : F (a + 1) (a + 0 + 1) ≡ F (a + 1) (a + 1) = ap (λ z. F (a + 1) z) (omega arith) in
      omega arith
  row a (suc (suc k)) =
      let e₁ : F a (a + suc k) ≡ F a (a + k + 1) = ap (λ z. F a z) (omega arith) in
      let e₂ : F a (a + suc (suc k)) ≡ F a (a + k + 2) = ap (λ z. F a z) (omega arith) in
      let e₃ : F (a + 1) (a + suc k + 1) ≡ F (a + 1) (a + k + 2) = ap (λ z. F (a + 1) z) (omega arith) in
      omega (arith, row a (suc k))

  -- the zones after the first k of m, where r are left
  rest : ℕ → ℕ → ℕ → ℕ
  rest m k zero = 0
  rest m k (suc r) = F (suc k) m

  -- all groups of m zones that begin with zone i + 1, where that leaves r zones
  row_all : (m i r : ℕ) → m ≡ i + suc r →
      sum_below (λ j. added F (suc i) (suc j)) (suc r) + rest m (suc i) r ≡ sum_below (λ j. taken F (suc i) (suc j)) (suc r) + F (suc i) m
  unfolding next rest
  row_all m i zero e =
      let q : F (suc i) (suc i + 0) ≡ F (suc i) m = ap (λ z. F (suc i) z) (omega arith) in
      omega (arith, row (suc i) zero)
  row_all m i (suc k) e =
      let q : F (suc i) (suc i + suc k) ≡ F (suc i) m = ap (λ z. F (suc i) z) (omega arith) in
      let r₁ : F (suc i + 1) (suc i + k + 1) ≡ F (suc (suc i)) (suc i + k + 1) = ap (λ z. F z (suc i + k + 1)) (omega arith) in
      let r₂ : F (suc (suc i)) (suc i + k + 1) ≡ F (suc (suc i)) m = ap (λ z. F (suc (suc i)) z) (omega arith) in
      omega (arith, row (suc i) (suc k))

  -- the groups that begin with one of the first k zones
  rows : (m k r : ℕ) → m ≡ k + r → 0 < m →
      sum_below (λ i. sum_below (λ j. added F (suc i) (suc j)) (m - i)) k + rest m k r ≡ sum_below (λ i. sum_below (λ j. taken F (suc i) (suc j)) (m - i)) k + F 1 m
  unfolding rest
  rows m zero zero e p = omega arith
  rows m zero (suc r) e p = omega arith
  rows m (suc k) r e p =
      let s : m - k ≡ suc r = omega arith in
      let f : m ≡ k + suc r = omega arith in
      rw s (omega (arith, rows m k (suc r) f p, row_all m k r f))

  -- THE COUNT: all that is added is all that is taken away, and the whole ship once
  pub counted_once : (m : ℕ) → 0 < m → groups (added F) m ≡ groups (taken F) m + F 1 m
  unfolding groups rest
  counted_once m p = omega (arith, rows m m zero (omega arith) p)

-- ---- figures that add up, add up in what is added and what is taken away
module _ (F G H : ℕ → ℕ → ℕ) (sums : (a e : ℕ) → F a e + G a e ≡ H a e) where
  pub added_adds : (a n : ℕ) → added F a n + added G a n ≡ added H a n
  unfolding added
  added_adds a zero = refl
  added_adds a (suc zero) = sums a a
  added_adds a (suc (suc zero)) = sums a (a + 1)
  added_adds a (suc (suc (suc k))) = omega (arith, sums a (a + k + 2), sums (a + 1) (a + k + 1))

  pub taken_adds : (a n : ℕ) → taken F a n + taken G a n ≡ taken H a n
  unfolding taken
  taken_adds a zero = refl
  taken_adds a (suc zero) = refl
  taken_adds a (suc (suc zero)) = omega (arith, sums a a, sums (a + 1) (a + 1))
  taken_adds a (suc (suc (suc k))) = omega (arith, sums a (a + k + 1), sums (a + 1) (a + k + 2))

-- ---- sums over all groups
pub groups_same : (f g : ℕ → ℕ → ℕ) (m : ℕ) → ((a n : ℕ) → 1 ≤ a → 1 ≤ n → a + n ≤ m + 1 → f a n ≡ g a n) → groups f m ≡ groups g m
unfolding groups
groups_same f g m h =
    sum_below_same (λ i. sum_below (λ j. f (suc i) (suc j)) (m - i)) (λ i. sum_below (λ j. g (suc i) (suc j)) (m - i)) m
    (λ i p. sum_below_same (λ j. f (suc i) (suc j)) (λ j. g (suc i) (suc j)) (m - i) (λ j q. h (suc i) (suc j) (omega arith) (omega arith) (omega arith)))

pub groups_add : (f g : ℕ → ℕ → ℕ) (m : ℕ) → groups (λ a n. f a n + g a n) m ≡ groups f m + groups g m
unfolding groups
groups_add f g m =
    sum_below_same (λ i. sum_below (λ j. f (suc i) (suc j) + g (suc i) (suc j)) (m - i)) (λ i. sum_below (λ j. f (suc i) (suc j)) (m - i) + sum_below (λ j. g (suc i) (suc j)) (m - i)) m
    (λ i p. sum_below_add (λ j. f (suc i) (suc j)) (λ j. g (suc i) (suc j)) (m - i))
    ∙ sum_below_add (λ i. sum_below (λ j. f (suc i) (suc j)) (m - i)) (λ i. sum_below (λ j. g (suc i) (suc j)) (m - i)) m

pub groups_nothing : (m : ℕ) → groups (λ a n. 0) m ≡ 0
unfolding groups
groups_nothing m = (sum_below_zero (λ i. sum_below (λ j. 0) (m - i)) m).1 (λ i p. (sum_below_zero (λ j. 0) (m - i)).1 (λ j q. refl))

pub group_not_above : (f : ℕ → ℕ → ℕ) (m i j : ℕ) → suc i + suc j ≤ m + 1 → f (suc i) (suc j) ≤ groups f m
unfolding groups
group_not_above f m i j h =
    le_trans (place_not_above (λ j. f (suc i) (suc j)) j (m - i) (omega arith))
    (place_not_above (λ i. sum_below (λ j. f (suc i) (suc j)) (m - i)) i m (omega arith))

-- where no group takes away more than it adds, what one adds more is at most the whole ship
pub excess_not_above : (F : ℕ → ℕ → ℕ) (m : ℕ) → 0 < m → ((a n : ℕ) → 1 ≤ a → 1 ≤ n → a + n ≤ m + 1 → taken F a n ≤ added F a n) →
    (a n : ℕ) → 1 ≤ a → 1 ≤ n → a + n ≤ m + 1 → added F a n ≤ taken F a n + F 1 m
excess_not_above F m p h zero n q r t = absurd (omega arith)
excess_not_above F m p h (suc i) zero q r t = absurd (omega arith)
excess_not_above F m p h (suc i) (suc j) q r t =
    let split = groups_same (added F) (λ a n. taken F a n + (added F a n - taken F a n)) m (λ a n x y z. let l : taken F a n ≤ added F a n = h a n x y z in omega arith) in
    let sums = groups_add (taken F) (λ a n. added F a n - taken F a n) m in
    omega (arith, split, sums, counted_once F m p, group_not_above (λ a n. added F a n - taken F a n) m i j t, h (suc i) (suc j) q r t)
