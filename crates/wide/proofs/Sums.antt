-- Sums that are carried from limb to limb, and what is carried out of the last. Assumes nothing.
use mathlib.Core.Path.{◌≡◌, refl, ◌∙◌, ap}
use mathlib.Core.List.{List, [], ◌∷◌, ◌++◌}
use Prim.Native.Nat.{ℕ, zero, suc, ◌+◌, ◌*◌, ◌^◌, ◌≤◌, ◌<◌}
use native.Mathlib.Nat.{pow-suc}
use native.Mathlib.Numerals.{add-one}
use native.Mathlib.Omega.{arith}
use lib.ListN.{length, get_or, take, set, length-set}
use lib.Seq.{take_all, take-suc, length-take-le, get_or-set_same, get_or-set_other}
use lib.Dec.{leb, eqb, lit<}
use Rattle.std.proofs.lemmas.List.{take-set}
use borrow.Author.Tests.{le-leb, lt-leb, eq-eqb, ne_eqb}
use Rattle.laws.proofs.Choice.{split}
use Rattle.wide.specs.declared.Place.{Place}
use Rattle.wide.specs.declared.Sum.{Sum}
use Rattle.wide.specs.Limbs.{value, limit, Limbs, Placed, Carried}
use Rattle.wide.proofs.Limbs.{six, six_limbs, below}

-- ---- limb by limb

-- the first i limbs of r, with `out` carried out of them, are those of w·factor + more + carry
pub record Chain (factor : ℕ) (w more : List ℕ) (carry : ℕ) (r : List ℕ) (out i : ℕ) : Type 0 where
  pub limbs : Limbs r
  pub carry_small : out < 2 ^ 32
  pub whole : value (take i r) + (2 ^ 32) ^ i * out ≡ value (take i w) * factor + value (take i more) + carry

-- a limb behind others
value_behind : (xs : List ℕ) (x : ℕ) → value (xs ++ x ∷ []) ≡ value xs + (2 ^ 32) ^ length xs * x
unfolding value
value_behind [] x = omega arith
value_behind (a ∷ xs) x = omega (arith, value_behind xs x, ap (λ t. t * x) (pow-suc (2 ^ 32) (length xs)))

one_longer : (w : List ℕ) (i : ℕ) → i < length w → value (take (i + 1) w) ≡ value (take i w) + (2 ^ 32) ^ i * get_or w i 0
one_longer w i h = rw (add-one i, take-suc w i 0 h) (value_behind (take i w) (get_or w i 0) ∙ rw (length-take-le i w (omega arith)) refl)

limb_set : {r : List ℕ} {i x : ℕ} → Limbs r → i < 6 → x < 2 ^ 32 → Limbs (set r i x)
limb_set {r} {i} {x} h l k = record { six = length-set r i x ∙ h.six; small = each }
  where
    each : (j : ℕ) → get_or (set r i x) j 0 < 2 ^ 32
    each j =
        split j i
        (λ a. split i j
        (λ b. let e : j ≡ i = omega arith in rw (e, get_or-set_same r i x 0 (omega (arith, h.six))) k)
        (λ b. rw (get_or-set_other r i j x 0 (λ e. omega arith)) (h.small j)))
        (λ a. rw (get_or-set_other r i j x 0 (λ e. omega arith)) (h.small j))

pub no_limb : {factor : ℕ} {w more r : List ℕ} {carry : ℕ} → r ≡ six 0 0 0 0 0 0 → carry < 2 ^ 32 → Chain factor w more carry r carry 0
unfolding value
no_limb e h = record { limbs = rw e (six_limbs (lit< tt) (lit< tt) (lit< tt) (lit< tt) (lit< tt) (lit< tt)); carry_small = h; whole = omega arith }

pub limb_more : {factor : ℕ} {w more r : List ℕ} {carry out i : ℕ} {p : Place} → Limbs w → Limbs more → i < 6 → Chain factor w more carry r out i →
    Placed (get_or w i 0 * factor + get_or more i 0 + out) p → Chain factor w more carry (set r i p.limb) p.carry (i + 1)
limb_more {factor} {w} {more} {r} {carry} {out} {i} {p} hw hm l c h =
    let t = (2 ^ 32) ^ i in
    let next : (2 ^ 32) ^ (i + 1) ≡ t * 2 ^ 32 = rw (add-one i) (pow-suc (2 ^ 32) i) in
    let here : value (take (i + 1) (set r i p.limb)) ≡ value (take i r) + t * p.limb =
    one_longer (set r i p.limb) i (omega (arith, length-set r i p.limb, c.limbs.six)) ∙ rw (take-set r i p.limb, get_or-set_same r i p.limb 0 (omega (arith, c.limbs.six))) refl in
    record {
      limbs = limb_set c.limbs l h.limb_small;
      carry_small = h.carry_small;
      whole = rw (here, next, one_longer w i (omega (arith, hw.six)), one_longer more i (omega (arith, hm.six))) (omega (arith, c.whole, ap (λ x. t * x) h.whole));
    }

pub all_limbs : {factor : ℕ} {w more r : List ℕ} {carry out i : ℕ} → Limbs w → Limbs more → i ≡ 6 → Chain factor w more carry r out i →
    Carried (value w * factor + value more + carry) (record { limbs = r; carry = out })
unfolding limit
all_limbs {factor} {w} {more} {r} {carry} {out} {i} hw hm e c =
    record {
      limbs = c.limbs;
      carry_small = c.carry_small;
      whole = rw (e, take_all 6 r (omega (arith, c.limbs.six)), take_all 6 w (omega (arith, hw.six)), take_all 6 more (omega (arith, hm.six))) at c.whole;
    }

-- ---- what is carried out: nothing, exactly where the sum is below the limit

pub none_carried : (v l out n : ℕ) → v + l * out ≡ n → n < l → (out ≡ 0) × (v ≡ n)
none_carried v l zero n e h = (refl, omega arith)
none_carried v l (suc out) n e h = absurd (omega arith)

some_carried : (v l out n : ℕ) → v + l * out ≡ n → v < l → l ≤ n → out ≡ 0 → ⊥
some_carried v l zero n e h k z = omega arith
some_carried v l (suc out) n e h k z = omega arith

-- a and the complement c of b
pub compared : (a b c : ℕ) {s : Sum} → Carried (a * 1 + c + 0) s → c + b + 1 ≡ limit → eqb s.carry 0 ≡ leb a b
compared a b c {s} p e =
    split a b
    (λ h. rw (le-leb a b h, eq-eqb s.carry 0 (none_carried (value s.limbs) limit s.carry (a + c) (omega (arith, p.whole)) (omega arith)).0) refl)
    (λ h. rw (lt-leb a b h, ne_eqb s.carry 0 (some_carried (value s.limbs) limit s.carry (a + c) (omega (arith, p.whole)) (below p.limbs) (omega arith))) refl)
