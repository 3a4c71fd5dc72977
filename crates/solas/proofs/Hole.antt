-- Every hole in the side of a ship in zones is counted once. Assumes nothing.
use Prim.Native.Nat.{ℕ, zero, suc, ◌+◌, ◌*◌, ◌≤◌, ◌<◌, zero-le}
use mathlib.Core.Path.{◌≡◌, refl, ap, ◌∙◌}
use mathlib.Core.Bool.{Bool, true, false}
use native.Mathlib.Nat.{le_dest, mul-le-mul, lt_irrefl, le_refl}
use native.Mathlib.Omega.{arith}
use lib.Dec.{leb}
use borrow.Author.Tests.{le-leb, lt-leb}
use Rattle.laws.proofs.Choice.{split}
use Rattle.solas.specs.Ship.{Ship, Zoned}
use Rattle.solas.specs.Count.{added, taken, groups, mark, hole, Group, OneHole}
use Rattle.solas.proofs.Count.{counted_once}
use Rattle.solas.proofs.Ship.{aft_next, fwd_next}

one_or_none : (b : Bool) → mark b ≤ 1
one_or_none true = omega arith
one_or_none false = omega arith

marked : (m n : ℕ) → m ≤ n → mark (leb m n) ≡ 1
marked m n h = rw (le-leb m n h)

unmarked : (m n : ℕ) → n < m → mark (leb m n) ≡ 0
unmarked m n h = rw (lt-leb m n h)

-- what is within a narrower bound is within the wider
mark_rises : (m n m' n' : ℕ) → m' ≤ m → n ≤ n' → mark (leb m n) ≤ mark (leb m' n')
mark_rises m n m' n' p q = split m n (λ h. omega (arith, marked m n h, marked m' n' (omega arith))) (λ h. omega (arith, unmarked m n h))

-- of two marks that fall and two that rise
corner : (x y z t : ℕ) → y ≤ x → x ≤ 1 → t ≤ z → z ≤ 1 → (x * t + y * z ≤ x * z + y * t) × (x * z + y * t ≤ x * t + y * z + 1)
corner x y z t h x₁ k z₁ =
    let (i, e) = le_dest h in
    let (j, f) = le_dest k in
    let i₁ : i ≤ 1 = omega arith in
    let j₁ : j ≤ 1 = omega arith in
    rw (← e, ← f) (omega arith, omega (arith, mul-le-mul i₁ j₁))

module _ (s : Ship) (h : Zoned s) (u w : ℕ) (wide : u < w) where
  -- a hole that begins after zone a + 1 does, or ends before zone a does
  begins : (a : ℕ) → 1 ≤ a → a < s.m → mark (leb (s.aft (a + 1)) u) ≤ mark (leb (s.aft a) u)
  begins a p q = mark_rises (s.aft (a + 1)) u (s.aft a) u (omega (arith, aft_next h a p q)) (le_refl u)

  ends : (a : ℕ) → 1 ≤ a → a < s.m → mark (leb w (s.fwd a)) ≤ mark (leb w (s.fwd (a + 1)))
  ends a p q = mark_rises w (s.fwd a) w (s.fwd (a + 1)) (le_refl w) (omega (arith, fwd_next h a p q))

  -- no hole begins in zone a + 1 and ends in zone a
  not_back : (a : ℕ) → 1 ≤ a → a < s.m → mark (leb (s.aft (a + 1)) u) * mark (leb w (s.fwd a)) ≡ 0
  not_back a p q =
      split (s.aft (a + 1)) u (λ l. rw (unmarked w (s.fwd a) (omega (arith, h.next a p q))) (omega arith)) (λ l. rw (unmarked (s.aft (a + 1)) u l) (omega arith))

  bounds : (a n : ℕ) → Group s a n → (taken (hole s u w) a n ≤ added (hole s u w) a n) × (added (hole s u w) a n ≤ taken (hole s u w) a n + 1)
  unfolding added taken hole
  bounds a zero g = absurd (lt_irrefl 0 g.some)
  bounds a (suc zero) g =
      (zero-le, mul-le-mul (one_or_none (leb (s.aft a) u)) (one_or_none (leb w (s.fwd a))))
  bounds a (suc (suc zero)) g =
      let c = corner (mark (leb (s.aft a) u)) (mark (leb (s.aft (a + 1)) u)) (mark (leb w (s.fwd (a + 1)))) (mark (leb w (s.fwd a)))
      (begins a g.from (omega (arith, g.fits))) (one_or_none (leb (s.aft a) u)) (ends a g.from (omega (arith, g.fits))) (one_or_none (leb w (s.fwd (a + 1)))) in
      (omega (arith, c.0, not_back a g.from (omega (arith, g.fits))), omega (arith, c.1, not_back a g.from (omega (arith, g.fits))))
  bounds a (suc (suc (suc k))) g =
      let e : s.fwd (a + k + 2) ≡ s.fwd (a + k + 1 + 1) = ap (λ z. s.fwd z) (omega arith) in
      let c = corner (mark (leb (s.aft a) u)) (mark (leb (s.aft (a + 1)) u)) (mark (leb w (s.fwd (a + k + 1 + 1)))) (mark (leb w (s.fwd (a + k + 1))))
      (begins a g.from (omega (arith, g.fits))) (one_or_none (leb (s.aft a) u))
      (ends (a + k + 1) (omega arith) (omega (arith, g.fits))) (one_or_none (leb w (s.fwd (a + k + 1 + 1)))) in
      rw e c

whole_ship : (s : Ship) → Zoned s → (u w : ℕ) → w ≤ s.L → hole s u w 1 s.m ≡ 1
unfolding hole
whole_ship s h u w inside = rw (marked (s.aft 1) u (omega (arith, h.stern)), marked w (s.fwd s.m) (omega (arith, h.bow))) refl

pub one_hole : OneHole
one_hole s h u w wide inside = record {
  least = λ a n g. (bounds s h u w wide a n g).0;
  most = λ a n g. (bounds s h u w wide a n g).1;
  once = counted_once (hole s u w) s.m h.some ∙ ap (λ z. groups (taken (hole s u w)) s.m + z) (whole_ship s h u w inside);
}
