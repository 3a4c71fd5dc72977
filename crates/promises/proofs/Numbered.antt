-- The groups of a ship by number: a, then n, and what a figure of all groups comes to when it is summed by number. Assumes nothing.
use Prim.Native.Nat.{ℕ, zero, suc, ◌+◌, ◌-◌, ◌*◌, ◌/◌, ◌%◌, ◌≤◌, ◌<◌}
use mathlib.Core.Path.{◌≡◌, refl, sym, ◌∙◌, ap}
use mathlib.Core.Bool.{cond}
use mathlib.Core.Logic.{◌⊎◌, inl, inr}
use native.Mathlib.Nat.{mul-le-mul_right, div-add-mod'}
use native.Mathlib.Omega.{arith}
use lib.Arith.{digits_div, digits_mod}
use lib.Dec.{ltb}
use borrow.Author.Tests.{lt-ltb, le-ltb, ltb-true}
use Rattle.laws.specs.Sums.{sum_below}
use Rattle.laws.proofs.Choice.{either_way}
use Rattle.laws.proofs.Sums.{sum_below_same, sum_below_split, sum_below_zero, sum_below_pairs}
use Rattle.solas.specs.Ship.{Ship}
use Rattle.solas.specs.Count.{groups, Group}

module _ (s : Ship) where
  abbrev m : ℕ
  m = s.m

  -- the number of the group of n zones from zone a
  unfoldable pub place : ℕ → ℕ → ℕ
  place a n = (a - 1) * m + (n - 1)

  module _ {a n : ℕ} (g : Group s a n) where
    place_first : place a n / m ≡ a - 1
    unfolding place
    place_first = digits_div (a - 1) (omega (arith, g.from, g.some, g.fits))

    place_count : place a n % m ≡ n - 1
    unfolding place
    place_count = digits_mod (a - 1) (omega (arith, g.from, g.some, g.fits))

    pub place_below : place a n < m * m
    unfolding place
    place_below = let up : a ≤ m = omega (arith, g.some, g.fits) in let all = mul-le-mul_right m up in omega (arith, before a g.from, all, g.some, g.fits, g.from)
      where
        before : (a : ℕ) → 1 ≤ a → (a - 1) * m + m ≡ a * m
        before zero h = absurd (omega (arith, h))
        before (suc a) h = let e : suc a - 1 ≡ a = omega arith in rw e (omega arith)

  -- no two groups have one number
  pub place_tells : {a n a' n' : ℕ} → Group s a n → Group s a' n' → place a n ≡ place a' n' → (a ≡ a') × (n ≡ n')
  place_tells {a} {n} {a'} {n'} g k e =
      let p : a - 1 ≡ a' - 1 = sym (place_first g) ∙ ap (λ t. t / m) e ∙ place_first k in
      let q : n - 1 ≡ n' - 1 = sym (place_count g) ∙ ap (λ t. t % m) e ∙ place_count k in
      (omega (arith, p, g.from, k.from), omega (arith, q, g.some, k.some))

  -- groups by a, then n
  pub place_rises : {a n a' n' : ℕ} → Group s a n → Group s a' n' → ((a < a') ⊎ ((a' ≡ a) × (n < n'))) → place a n < place a' n'
  unfolding place
  place_rises {a} {n} {a'} {n'} g k (inl l) =
      let up : a - 1 + 1 ≤ a' - 1 = omega (arith, l, g.from) in
      omega (arith, mul-le-mul_right m up, g.fits, g.from, g.some)
  place_rises {a} {n} {a'} {n'} g k (inr (e, l)) = rw e (omega (arith, l, g.some))

  -- ---- what all groups give, by number
  module _ (f : ℕ → ℕ → ℕ) where
    abbrev square : ℕ → ℕ → ℕ
    square i j = cond (ltb (i + j) m) (f (suc i) (suc j)) 0

    pub by_place : ℕ → ℕ
    by_place k = square (k / m) (k % m)

    in_row : (i : ℕ) → i < m → sum_below (λ j. square i j) m ≡ sum_below (λ j. f (suc i) (suc j)) (m - i)
    in_row i l =
        let e : m - i + i ≡ m = omega arith in
        let inside = sum_below_same (λ j. square i j) (λ j. f (suc i) (suc j)) (m - i) (λ j k. let t = lt-ltb (i + j) m (omega (arith, k, l)) in rw t refl) in
        let outside : sum_below (λ j. square i (m - i + j)) i ≡ 0 = (sum_below_zero (λ j. square i (m - i + j)) i).1 (λ j k. let t = le-ltb (i + (m - i + j)) m (omega arith) in rw t refl) in
        ap (sum_below (λ j. square i j)) (sym e) ∙ omega (arith, sum_below_split (λ j. square i j) (m - i) i, inside, outside)

    pub all_places : sum_below by_place (m * m) ≡ groups f m
    unfolding by_place groups
    all_places = sum_below_pairs square m m ∙ sum_below_same (λ i. sum_below (λ j. square i j) m) (λ i. sum_below (λ j. f (suc i) (suc j)) (m - i)) m in_row

    pub at_place : {a n : ℕ} → Group s a n → by_place (place a n) ≡ f a n
    unfolding by_place
    at_place {a} {n} g =
        let t = lt-ltb (a - 1 + (n - 1)) m (omega (arith, g.from, g.some, g.fits)) in
        let p : suc (a - 1) ≡ a = omega (arith, g.from) in
        let q : suc (n - 1) ≡ n = omega (arith, g.some) in
        rw (place_first g, place_count g, t, p, q) refl

    -- a number that gives is a group's
    pub has_place : (k : ℕ) → k < m * m → 0 < by_place k → (a : ℕ) × (n : ℕ) × Group s a n × (place a n ≡ k)
    unfolding by_place place
    has_place k l p =
        either_way (ltb (k / m + k % m) m)
        (λ t.
        let u = ltb-true (k / m + k % m) m t in
        let p : suc (k / m) - 1 ≡ k / m = omega arith in
        let q : suc (k % m) - 1 ≡ k % m = omega arith in
        (suc (k / m), suc (k % m), record { from = omega arith; some = omega arith; fits = omega (arith, u) }, rw (p, q) (omega (arith, div-add-mod' k m))))
        (λ t. absurd (omega (arith, rw t at p)))
