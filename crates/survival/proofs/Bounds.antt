-- Bottom and top: they are what 01 says, one number each, by the value of s⁴ alone, at most one apart, and they enclose every survival. Assumes nothing.
use Prim.Native.Nat.{ℕ, ◌+◌, ◌*◌, ◌/◌, ◌^◌, ◌≤◌, ◌<◌}
use mathlib.Core.List.{[]}
use mathlib.Core.Logic.{◌↔◌}
use mathlib.Core.Path.{◌≡◌, refl, ap, ◌∙◌}
use native.Mathlib.Nat.{le_refl, le_antisymm, le_trans, le_of_lt, lt_of_not-le, le_of_mul-le-mul_right, mul-le-mul_left}
use native.Mathlib.Omega.{arith}
use lib.Dec.{lit<}
use Rattle.laws.specs.Fraction.{Fraction, whole, Is, ◌≈◌, ◌≼◌, ◌⊛◌}
use Rattle.laws.specs.Rounding.{ceil}
use Rattle.laws.proofs.Polynomial.{◌:^◌, ◌:=◌, ◌⊢◌, poly1}
use Rattle.laws.proofs.Fraction.{is_over, is_whole, is_written, ≈_refl, ≈_sym, ⊛-≈, ≼_of_≈, ≼_trans, below_across}
use Rattle.laws.proofs.Roots.{powers_ordered, root_below, root_above}
use Rattle.laws.proofs.FractionCompare.{across_below, is_times, is_square, ≈_of_both}
use Rattle.roots.proofs.Root.{down_of_fraction, up_of_fraction}
use Rattle.roots.proofs.RootValue.{down_root, up_root}
use Rattle.numbers.specs.Ratio.{ratio_of}
use Rattle.numbers.proofs.Ratios.{ratio_positive, is_ratio}
use Rattle.survival.specs.Survival.{fourth_power, Factor, root, given, ends, Sensible, Bottom, Top, BottomAndTop, scaled_of, rounded_of, ten_thousandths, NotAbove, NotBelow}
use Rattle.survival.proofs.Factors.{same_rounded, times_down, times_up}
-- checked first, so that a definition that gives another number is refused there
use Rattle.survival.proofs.Values.{apart, one}

-- ---- fourth powers
is_fourth : {x : Fraction} {n d : ℕ} → Is x n 0 d → Is (fourth_power x) (n ^ 4) 0 (d ^ 4)
is_fourth {x} {n} {d} h = is_written (is_square (is_square h)) (twice n) refl (twice d)
  where
    twice : (n : ℕ) → (n ^ 2) ^ 2 ≡ n ^ 4
    twice = poly1 (λ n. [] ⊢ (n :^ 2) :^ 2 := n :^ 4) tt

-- ---- over numbers: the bottom and the top of the root of N/M
module _ {f : Fraction} (h : Sensible (root f)) where
  abbrev N : ℕ
  N = (ratio_of f).num

  abbrev M : ℕ
  M = (ratio_of f).den

  pub proper : N ≤ M
  proper = omega (arith, across_below (is_ratio h.0) (is_whole 1 {d = 1} (lit< tt)) h.1)

  bottom_of : ((ends (root f)).bottom ^ 4 * M ≤ 10 ^ 16 * N) × ((t : ℕ) → t ^ 4 * M ≤ 10 ^ 16 * N → t ≤ (ends (root f)).bottom)
  unfolding rounded_of scaled_of
  bottom_of =
      down_of_fraction (ratio_positive f) (down_root (10 ^ 16 * N / M) (omega (arith, times_down (10 ^ 16) (ratio_positive f) proper)))

  top_of : (10 ^ 16 * N ≤ (ends (root f)).top ^ 4 * M) × ((t : ℕ) → 10 ^ 16 * N ≤ t ^ 4 * M → (ends (root f)).top ≤ t)
  unfolding rounded_of scaled_of
  top_of =
      up_of_fraction (10 ^ 16 * N) (ratio_positive f) (up_root (ceil (10 ^ 16 * N) M) (omega (arith, times_up (10 ^ 16) (ratio_positive f) proper)))

  -- ---- in the words of 01
  multiple : Is (whole (10 ^ 16) ⊛ f) (10 ^ 16 * N) 0 M
  multiple = is_times (10 ^ 16) (is_ratio h.0)

  count : (t : ℕ) → Is (whole (t ^ 4)) (t ^ 4 * 1) 0 1
  count t = is_whole (t ^ 4) (lit< tt)

  pub bottom_is : Bottom f (ends (root f)).bottom
  bottom_is =
      record {
        within = below_across (count (ends (root f)).bottom) multiple (lit< tt) (ratio_positive f) (omega (arith, bottom_of.0));
        greatest = λ t l. bottom_of.1 t (omega (arith, across_below (count t) multiple l));
      }

  pub top_is : Top f (ends (root f)).top
  top_is =
      record {
        reaches = below_across multiple (count (ends (root f)).top) (ratio_positive f) (lit< tt) (omega (arith, top_of.0));
        least = λ t l. top_of.1 t (omega (arith, across_below multiple (count t) l));
      }

  root_near : (ends (root f)).top ≤ (ends (root f)).bottom + 1
  root_near =
      let b = (ends (root f)).bottom in
      let above : 10 ^ 16 * N < (b + 1) ^ 4 * M = lt_of_not-le (λ l. omega (arith, bottom_of.1 (b + 1) l)) in
      top_of.1 (b + 1) (le_of_lt above)

  root_ordered : (ends (root f)).bottom ≤ (ends (root f)).top
  root_ordered = (powers_ordered 3 (ends (root f)).bottom (ends (root f)).top).0 (le_of_mul-le-mul_right (le_trans bottom_of.0 top_of.0) (ratio_positive f))

pub bottom_and_top : BottomAndTop
bottom_and_top f h = (bottom_is h, top_is h)

-- ---- one number each, by the value of s⁴ alone
pub bottom_unique : {f : Fraction} {s t : ℕ} → Bottom f s → Bottom f t → s ≡ t
bottom_unique {f} {s} {t} p q = le_antisymm (q.greatest s p.within) (p.greatest t q.within)

pub top_unique : {f : Fraction} {s t : ℕ} → Top f s → Top f t → s ≡ t
top_unique {f} {s} {t} p q = le_antisymm (p.least t q.reaches) (q.least s p.reaches)

multiples_same : {f g : Fraction} → f ≈ g → whole (10 ^ 16) ⊛ f ≼ whole (10 ^ 16) ⊛ g
multiples_same e = ≼_of_≈ (⊛-≈ (≈_refl (whole (10 ^ 16))) e)

pub bottom_same : {f g : Fraction} {s : ℕ} → f ≈ g → Bottom f s → Bottom g s
bottom_same e p =
    record {
      within = ≼_trans p.within (multiples_same e);
      greatest = λ t l. p.greatest t (≼_trans l (multiples_same (≈_sym e)));
    }

pub top_same : {f g : Fraction} {s : ℕ} → f ≈ g → Top f s → Top g s
top_same e p =
    record {
      reaches = ≼_trans (multiples_same (≈_sym e)) p.reaches;
      least = λ t l. p.least t (≼_trans (multiples_same e) l);
    }

pub ends_same : {f g : Fraction} → f ≈ g → Sensible (root f) → ends (root f) ≡ ends (root g)
ends_same {f} {g} e h =
    let k : Sensible (root g) = (≼_trans h.0 (≼_of_≈ e), ≼_trans (≼_of_≈ (≈_sym e)) h.1) in
    same_rounded (bottom_unique (bottom_same e (bottom_is h)) (bottom_is k)) (top_unique (top_same e (top_is h)) (top_is k))

-- ---- the bottom is one exactly where s⁴ is
pub bottom_one : {f : Fraction} → Sensible (root f) → ((ends (root f)).bottom ≡ 10 ^ 4) ↔ (f ≈ whole 1)
bottom_one {f} h = (
  λ e. ≈_of_both h.1 (below_across (is_whole 1 {d = 1} (lit< tt)) (is_ratio h.0) (lit< tt) (ratio_positive f) (omega (arith, rw e at (bottom_of h).0))),
  λ e. ap (λ r. r.bottom) (ends_same e h ∙ one),
)

-- ---- a survival that is not above is at most the top, one that is not below at least the bottom
pub not_above_top : (s : Factor) {x : Fraction} → Sensible s → whole 0 ≼ x → NotAbove s x → x ≼ ten_thousandths (ends s).top
not_above_top (given n) h p l = l
not_above_top (root f) {x} h p l =
    let i = is_ratio p in
    let k = across_below (is_fourth i) (is_ratio h.0) l in
    below_across i (is_over (ends (root f)).top {d = 10 ^ 4} (lit< tt)) (ratio_positive x) (lit< tt)
    (omega (arith, root_below (ratio_of x).num (ratio_of x).den (ratio_of f).num (ratio_of f).den (ends (root f)).top (10 ^ 4) (ratio_positive f) (omega arith) (omega (arith, (top_of h).0))))

pub not_below_bottom : (s : Factor) {x : Fraction} → Sensible s → whole 0 ≼ x → NotBelow s x → ten_thousandths (ends s).bottom ≼ x
not_below_bottom (given n) h p l = l
not_below_bottom (root f) {x} h p l =
    let i = is_ratio p in
    let k = across_below (is_ratio h.0) (is_fourth i) l in
    below_across (is_over (ends (root f)).bottom {d = 10 ^ 4} (lit< tt)) i (lit< tt) (ratio_positive x)
    (omega (arith, root_above (ratio_of x).num (ratio_of x).den (ratio_of f).num (ratio_of f).den (ends (root f)).bottom (10 ^ 4) (ratio_positive f) (omega arith) (omega (arith, (bottom_of h).0))))

-- ---- at most one apart, and at most one
pub ends_near : (s : Factor) → Sensible s → (ends s).top ≤ (ends s).bottom + 1
ends_near (root f) h = root_near h
ends_near (given n) h = omega arith

pub ends_ordered : (s : Factor) → Sensible s → (ends s).bottom ≤ (ends s).top
ends_ordered (root f) h = root_ordered h
ends_ordered (given n) h = le_refl n

pub ends_at_most : (s : Factor) → Sensible s → (ends s).top ≤ 10 ^ 4
ends_at_most (root f) h = (top_of h).1 (10 ^ 4) (omega (arith, mul-le-mul_left (10 ^ 16) (proper h)))
ends_at_most (given n) h = h
