-- Products: those of two limbs, and those of a wide number with a number of two limbs. Assumes nothing.
use mathlib.Core.Path.{◌≡◌, refl, ap, ◌∙◌}
use mathlib.Core.List.{List, [], ◌∷◌}
use Prim.Native.Nat.{ℕ, ◌+◌, ◌-◌, ◌*◌, ◌/◌, ◌%◌, ◌^◌, ◌≤◌, ◌<◌}
use native.Mathlib.Nat.{le_of_lt, lt_of_le_of_lt, mul-le-mul, div-add-mod'}
use native.Mathlib.Omega.{arith}
use lib.ListN.{get_or}
use lib.Dec.{lit<}
use Rattle.wide.specs.declared.Sum.{Sum}
use Rattle.wide.specs.Limbs.{value, limit, Writes, Carried}
use Rattle.wide.proofs.Limbs.{six, six_limbs, listed}
use Rattle.wide.proofs.Sums.{none_carried}

-- 64 bits hold the largest product of two limbs, and two limbs more
pub product_fits : {a b : ℕ} → a < 2 ^ 32 → b < 2 ^ 32 → a * b + 2 * (2 ^ 32 - 1) < 2 ^ 64
product_fits {a} {b} p q =
    let h : a ≤ 2 ^ 32 - 1 = omega arith in
    let k : b ≤ 2 ^ 32 - 1 = omega arith in
    omega (arith, mul-le-mul h k)

-- six limbs hold the product of two numbers of 64 bits, and of three
pub three_fit : {a b c : ℕ} → a < 2 ^ 64 → b < 2 ^ 64 → c < 2 ^ 64 → (a * b < limit) × (a * b * c < limit)
unfolding limit
three_fit {a} {b} {c} p q r =
    let two : a * b ≤ 2 ^ 64 * 2 ^ 64 = mul-le-mul (le_of_lt p) (le_of_lt q) in
    let last : c ≤ 2 ^ 64 - 1 = omega arith in
    (lt_of_le_of_lt two (lit< tt), lt_of_le_of_lt (mul-le-mul two last) (lit< tt))

-- ---- the limbs of the product by a factor of two limbs

-- r is w with one limb more behind it, at the power t of the base that w reaches
record Behind (t last : ℕ) (w r : List ℕ) : Type 0 where
  pub whole : value r ≡ value w + t * last

behind_none : {last : ℕ} → Behind 1 last [] (last ∷ [])
unfolding value
behind_none = record { whole = omega arith }

behind_more : {a last : ℕ} (t : ℕ) {w r : List ℕ} → Behind t last w r → Behind (2 ^ 32 * t) last (a ∷ w) (a ∷ r)
unfolding value
behind_more t h = record { whole = omega (arith, h.whole) }

last_apart : (a b c d e f : ℕ) → value (six a b c d e f) ≡ value (a ∷ b ∷ c ∷ d ∷ e ∷ []) + 2 ^ 160 * f
last_apart a b c d e f = all.whole
  where
    all : Behind (2 ^ 160) f (a ∷ b ∷ c ∷ d ∷ e ∷ []) (six a b c d e f)
    all = behind_more (2 ^ 128) (behind_more (2 ^ 96) (behind_more (2 ^ 64) (behind_more (2 ^ 32) (behind_more 1 behind_none))))

first_apart : (a : ℕ) (w : List ℕ) → value (a ∷ w) ≡ a + 2 ^ 32 * value w
unfolding value
first_apart a w = refl

-- the product by the lower limb is `low` and, one place on, `rest`; with it added, that by the higher limb is `high` and nothing more. t is the power of the base that five limbs reach
two_limbs : (w factor z t low rest lower out more high last higher over : ℕ) → limit ≡ 2 ^ 32 * t
    → z ≡ 0
    → lower ≡ low + 2 ^ 32 * rest
    → lower + limit * out ≡ w * (factor % 2 ^ 32) + z + 0
    → more ≡ rest + t * out
    → higher ≡ high + t * last
    → higher + limit * over ≡ w * (factor / 2 ^ 32) + more + 0
    → w * factor < limit
    → low + 2 ^ 32 * high ≡ w * factor
two_limbs w factor z t low rest lower out more high last higher over e none p q r s u h =
    let parts = ap (λ x. w * x) (div-add-mod' factor (2 ^ 32)) in
    (none_carried (low + 2 ^ 32 * high) limit (last + 2 ^ 32 * over) (w * factor) (rw e (omega (arith, parts, rw e at q, rw e at u))) h).1

abbrev limb : Sum → ℕ → ℕ
limb s i = get_or s.limbs i 0

pub product_limbs : (n factor z : ℕ) (lower higher : Sum) → z ≡ 0 → n * factor < limit
    → Carried (n * (factor % 2 ^ 32) + z + 0) lower
    → Carried (n * (factor / 2 ^ 32) + value (six (limb lower 1) (limb lower 2) (limb lower 3) (limb lower 4) (limb lower 5) lower.carry) + 0) higher
    → Writes (six (limb lower 0) (limb higher 0) (limb higher 1) (limb higher 2) (limb higher 3) (limb higher 4)) (n * factor)
unfolding limit
product_limbs n factor z lower higher none h p q =
    let l = p.limbs.small in
    let k = q.limbs.small in
    record {
      limbs = six_limbs (l 0) (k 0) (k 1) (k 2) (k 3) (k 4);
      number =
          rw (first_apart (limb lower 0) (limb higher 0 ∷ limb higher 1 ∷ limb higher 2 ∷ limb higher 3 ∷ limb higher 4 ∷ []))
          (two_limbs n factor z (2 ^ 160) _ _ _ lower.carry _ _ _ _ higher.carry refl none (ap value (listed _ p.limbs.six) ∙ first_apart _ _) p.whole
          (last_apart _ _ _ _ _ _) (ap value (listed _ q.limbs.six) ∙ last_apart _ _ _ _ _ _) q.whole h);
    }
