-- The rule of 2020 beside the earlier one: where its R is above, and where it is not, by products of whole numbers. Assumes nothing.
use Prim.Native.Nat.{ℕ, ◌+◌, ◌-◌, ◌*◌, ◌≤◌, ◌<◌}
use mathlib.Core.Logic.{◌↔◌, inl, inr}
use mathlib.Core.Path.{◌≡◌, ap}
use native.Mathlib.Nat.{le_dest, mul-le-mul_left}
use native.Mathlib.Omega.{arith}
use lib.Dec.{lit<, leb→le}
use Rattle.laws.specs.Fraction.{Fraction, ◌less◌over◌, ◌≈◌, ◌≼◌, ◌≺◌}
use Rattle.laws.proofs.Choice.{split}
use Rattle.laws.proofs.Fraction.{below_across, strictly_below_across, ≈_sym, ≼_of_≈, ≼_trans}
use Rattle.laws.proofs.FractionCompare.{across_strictly_below, strictly_then_below, below_then_strictly}
use Rattle.solas.specs.Index.{persons, passenger_R, NoLogarithm, R2020}
use Rattle.solas.specs.Rules.{Within, Compared, RulesCompared}
use Rattle.solas.proofs.Required.{is_passenger_R, is_R2020_few, is_R2020_some, is_R2020_many}
-- checked first, so that a definition that gives another number is refused there
use Rattle.solas.proofs.Values.{rules_nearest}

-- ---- over plain numbers: n persons, and x of a ship, its length and 250 cm for each person counted. The earlier R is (x + 1,022,500)/(x + 1,522,500)
module _ (x n : ℕ) where
  -- what is compared beyond 6,000 persons, and what it is if the comparison fails
  abbrev Lower : Type 0
  Lower = (682000 + 31 * n) * (x + 1522500) < 400000000 * (n + 5000)

  abbrev NotLower : Type 0
  NotLower = 400000000 * (n + 5000) ≤ (682000 + 31 * n) * (x + 1522500)

  -- the two R cross multiplied
  one_comparison : ((x + 1022500) * (800 * (n + 5000)) < (769 * n + 3318000) * (x + 1522500)) ↔ Lower
  one_comparison = (λ l. omega (arith, l), λ l. omega (arith, l))

-- x is nowhere more than in 400 m with all persons in excess
lower_of_some : (x n : ℕ) → x ≤ 40000 + 500 * n → 400 ≤ n → n ≤ 1350 → (x + 1022500) * 37900000 < (5000 * n + 25363817) * (x + 1522500)
lower_of_some x n l p q =
    let (k, e) = le_dest q in
    omega (arith, mul-le-mul_left k l, ap (λ z. z * x) e, ap (λ z. z * n) e, mul-le-mul_left n p)

-- so what holds there of b persons holds of fewer everywhere
lower_of_fewer : (x n b : ℕ) → x ≤ 40000 + 500 * n → 1350 < n → n ≤ b → Lower (40000 + 500 * b) b → Lower x n
lower_of_fewer x n b l p q h =
    let (k, e) = le_dest q in
    omega (arith, rw (← e) at h, mul-le-mul_left (682000 + 31 * n) l, mul-le-mul_left k p)

-- nowhere less than in 20 m with 10,000 persons in lifeboats and the others, m, in excess, and what holds there holds of more everywhere
not_lower_of_more : (x n m : ℕ) → 500 * n ≤ x + 2498000 → 10000 + m ≤ n → NotLower (2000 + 250 * (10000 + 2 * m)) (10000 + m) → NotLower x n
not_lower_of_more x n m l p h =
    let (k, e) = le_dest p in
    rw (← e) (omega (arith, rw (← e) at (mul-le-mul_left (682000 + 31 * n) l), h))

-- ---- of ships
module _ (L n1 n2 : ℕ) where
  abbrev Above : Type 0
  Above = passenger_R L (persons n1 n2) ≺ R2020 (n1 + n2)

  few : Within L n1 n2 → n1 + n2 ≤ 1350 → Above
  unfolding persons
  few w p =
      let earlier = is_passenger_R L (n1 + 2 * n2) in
      let most : L + 250 * (n1 + 2 * n2) ≤ 40000 + 500 * (n1 + n2) = omega (arith, w.short) in
      split 400 (n1 + n2) (λ q. strictly_below_across earlier (is_R2020_some q p) (omega (arith, lower_of_some (L + 250 * (n1 + 2 * n2)) (n1 + n2) most q p)))
      (λ q. strictly_below_across earlier (is_R2020_few q) (omega (arith, most)))

  -- by one comparison, as soon as the last form of R holds
  beyond : 1350 < n1 + n2 → Above ↔ Lower (L + 250 * (n1 + 2 * n2)) (n1 + n2)
  unfolding persons
  beyond p =
      let x = L + 250 * (n1 + 2 * n2) in
      let earlier = is_passenger_R L (n1 + 2 * n2) in
      let later = is_R2020_many {n = n1 + n2} p in (
        λ l. (one_comparison x (n1 + n2)).0 (omega (arith, across_strictly_below earlier later (omega arith) (omega arith) l)),
        λ l. strictly_below_across earlier later (omega (arith, (one_comparison x (n1 + n2)).1 l)),
      )

  many : {b : ℕ} → Within L n1 n2 → 1350 < n1 + n2 → n1 + n2 ≤ b → Lower (40000 + 500 * b) b → Above
  many {b} w p q h = (beyond p).1 (lower_of_fewer (L + 250 * (n1 + 2 * n2)) (n1 + n2) b (omega (arith, w.short)) p q h)

  most : {b : ℕ} → Within L n1 n2 → b ≤ n1 + n2 → 10000 ≤ b → NotLower (2000 + 250 * (10000 + 2 * (b - 10000))) b → R2020 (n1 + n2) ≼ passenger_R L (persons n1 n2)
  unfolding persons
  most {b} w p q h =
      let e : 10000 + (b - 10000) ≡ b = omega arith in
      let l = not_lower_of_more (L + 250 * (n1 + 2 * n2)) (n1 + n2) (b - 10000) (omega (arith, w.long, w.lifeboats)) (rw e p) (rw e h) in
      below_across (is_R2020_many (omega arith)) (is_passenger_R L (n1 + 2 * n2)) (omega arith) (omega arith) (omega (arith, l))

pub rules_compared : RulesCompared
unfolding persons passenger_R R2020 ◌less◌over◌
rules_compared = record {
  few = λ {L} {n1} {n2} w p. few L n1 n2 w p;
  beyond = λ L n1 n2 p. beyond L n1 n2 (omega (arith, p));
  many = λ {L} {n1} {n2} w p q. many L n1 n2 w (omega (arith, p)) q (lit< tt);
  at_8113 = record { cross = leb→le _ _ tt };
  most = λ {L} {n1} {n2} w p. most L n1 n2 w p (leb→le _ _ tt) (leb→le _ _ tt);
  at_16304 = record { cross = lit< tt };
}

-- ---- the same of whatever fractions are equal to these
alike : {f f' g g' : Fraction} → f ≈ f' → g ≈ g' → f ≺ g → f' ≺ g'
alike p q l = below_then_strictly (≼_of_≈ (≈_sym p)) (strictly_then_below l (≼_of_≈ q))

module _ {earlier earlier' : ℕ → ℕ → ℕ → Fraction} {later later' : ℕ → Fraction} (e : (L n1 n2 : ℕ) → earlier L n1 n2 ≈ earlier' L n1 n2) (l : (n : ℕ) → NoLogarithm n → later n ≈ later' n) where
  above_too : (L n1 n2 n : ℕ) → NoLogarithm n → earlier L n1 n2 ≺ later n → earlier' L n1 n2 ≺ later' n
  above_too L n1 n2 n t = alike (e L n1 n2) (l n t)

  not_above_too : (L n1 n2 n : ℕ) → NoLogarithm n → later n ≼ earlier L n1 n2 → later' n ≼ earlier' L n1 n2
  not_above_too L n1 n2 n t h = ≼_trans (≼_of_≈ (≈_sym (l n t))) (≼_trans h (≼_of_≈ (e L n1 n2)))

  pub compared_alike : Compared earlier later → Compared earlier' later'
  compared_alike c = record {
    few = λ {L} {n1} {n2} w p. above_too L n1 n2 (n1 + n2) (inl p) (c.few w p);
    beyond = λ L n1 n2 p. (
      λ h. (c.beyond L n1 n2 p).0 (alike (≈_sym (e L n1 n2)) (≈_sym (l (n1 + n2) (inr p))) h),
      λ h. above_too L n1 n2 (n1 + n2) (inr p) ((c.beyond L n1 n2 p).1 h),
    );
    many = λ {L} {n1} {n2} w p q. above_too L n1 n2 (n1 + n2) (inr p) (c.many w p q);
    at_8113 = not_above_too 40000 0 8113 8113 (inr (leb→le _ _ tt)) c.at_8113;
    most = λ {L} {n1} {n2} w p. not_above_too L n1 n2 (n1 + n2) (inr (omega (arith, p))) (c.most w p);
    at_16304 = above_too 2000 10000 6304 16304 (inr (leb→le _ _ tt)) c.at_16304;
  }
