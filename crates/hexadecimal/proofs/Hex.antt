-- Digits and the bytes that they write, there and back. Assumes nothing.
use Prim.Native.Nat.{ℕ, ◌+◌, ◌-◌, ◌*◌, ◌/◌, ◌%◌, ◌≤◌, ◌<◌}
use mathlib.Core.Path.{◌≡◌, refl, sym, ap}
use mathlib.Core.Bool.{Bool, true, false, cond, ◌&&◌}
use mathlib.Core.List.{List, [], ◌∷◌}
use native.Mathlib.Omega.{arith}
use lib.Dec.{leb, ltb}
use borrow.Author.Tests.{ltb-true, ltb-false, lt-ltb, le-ltb, le-leb, lt-leb, leb-true}
use Rattle.laws.proofs.Tests.{both, picked}
use Rattle.std.specs.Prelude.{Option, Some, None}
use Rattle.std.proofs.lemmas.Option.{none-some}
use Rattle.hexadecimal.specs.Hex.{digit_of, joined, pair_of, byte_of, digit}
-- checked first, so that a definition that gives another number is refused there
use Rattle.hexadecimal.proofs.Examples.{end_bytes_lem}

-- ---- one digit

-- what a digit's value tells: it is below 16, and the digit is the value's
module _ (b v : ℕ) where
  low_digit : (leb 48 b && leb b 57) ≡ true → Some (b - 48) ≡ Some v → (v < 16) × (digit v ≡ b)
  unfolding digit
  low_digit p e =
      let k : b - 48 ≡ v = cc in
      let l : 48 ≤ b = leb-true 48 b (both (leb 48 b) (leb b 57) p).0 in
      let h : b ≤ 57 = leb-true b 57 (both (leb 48 b) (leb b 57) p).1 in
      (omega arith, rw (lt-ltb v 10 (omega arith)) (omega arith))

  high_digit : (leb 97 b && leb b 102) ≡ true → Some (b - 87) ≡ Some v → (v < 16) × (digit v ≡ b)
  unfolding digit
  high_digit p e =
      let k : b - 87 ≡ v = cc in
      let l : 97 ≤ b = leb-true 97 b (both (leb 97 b) (leb b 102) p).0 in
      let h : b ≤ 102 = leb-true b 102 (both (leb 97 b) (leb b 102) p).1 in
      (omega arith, rw (le-ltb v 10 (omega arith)) (omega arith))

  either_digit : (s t : Bool) → (leb 48 b && leb b 57) ≡ s → (leb 97 b && leb b 102) ≡ t →
      cond s (Some (b - 48)) (cond t (Some (b - 87)) None) ≡ Some v → (v < 16) × (digit v ≡ b)
  either_digit true t p q e = low_digit p e
  either_digit false true p q e = high_digit q e
  either_digit false false p q e = absurd (none-some v e)

  digit_is : digit_of b ≡ Some v → (v < 16) × (digit v ≡ b)
  unfolding digit_of
  digit_is e = either_digit (leb 48 b && leb b 57) (leb 97 b && leb b 102) refl refl e

  pub digit_below : digit_of b ≡ Some v → v < 16
  digit_below e = (digit_is e).0

  digit_again : digit_of b ≡ Some v → digit v ≡ b
  digit_again e = (digit_is e).1

-- the other way: the digit of a number below 16 has it as its value
module _ (n : ℕ) (h : n < 16) where
  by_test : (t : Bool) → ltb n 10 ≡ t → digit_of (cond t (48 + n) (87 + n)) ≡ Some n
  unfolding digit_of
  by_test true e =
      let l : n < 10 = ltb-true n 10 e in
      rw (le-leb 48 (48 + n) (omega arith), le-leb (48 + n) 57 (omega arith)) (ap Some (omega arith))
  by_test false e =
      let l : 10 ≤ n = ltb-false n 10 e in
      rw (le-leb 48 (87 + n) (omega arith), lt-leb (87 + n) 57 (omega arith), le-leb 97 (87 + n) (omega arith), le-leb (87 + n) 102 (omega arith)) (ap Some (omega arith))

  pub value_of_digit : digit_of (digit n) ≡ Some n
  unfolding digit
  value_of_digit = by_test (ltb n 10) refl

  pub digit_no_feed : digit n ≡ 10 → ⊥
  unfolding digit
  digit_no_feed e = picked (λ d. d ≡ 10 → ⊥) (ltb n 10) (48 + n) (87 + n) (λ t g. omega arith) (λ t g. omega arith) e

-- ---- a pair

pair_parts : (d e : Option ℕ) (x : ℕ) → joined d e ≡ Some x → (h : ℕ) × (l : ℕ) × (d ≡ Some h) × (e ≡ Some l) × (x ≡ h * 16 + l)
pair_parts (Some h) (Some l) x q = let k : h * 16 + l ≡ x = cc in (h, l, refl, refl, sym k)
pair_parts (Some h) None x q = absurd (none-some x q)
pair_parts None e x q = absurd (none-some x q)

module _ (a b x : ℕ) (e : pair_of a b ≡ Some x) where
  parts : (h : ℕ) × (l : ℕ) × (digit_of a ≡ Some h) × (digit_of b ≡ Some l) × (x ≡ h * 16 + l)
  unfolding pair_of
  parts = pair_parts (digit_of a) (digit_of b) x e

  pub pair_below : x < 256
  pair_below = let (h, l, p, q, k) = parts in omega (arith, digit_below a h p, digit_below b l q)

  pub byte_of_pair : byte_of a b ≡ x
  unfolding byte_of
  byte_of_pair = let (h, l, p, q, k) = parts in rw (p, q) (sym k)

  pub pair_again : ◌≡◌ {A = List ℕ} (digit (x / 16) ∷ digit (x % 16) ∷ []) (a ∷ b ∷ [])
  pair_again =
      let (h, l, p, q, k) = parts in
      let m : l < 16 = digit_below b l q in
      let u : x / 16 ≡ h = omega arith in
      let w : x % 16 ≡ l = omega arith in
      rw (u, w, digit_again a h p, digit_again b l q) refl

pub pair_of_digits : (b : ℕ) → b < 256 → pair_of (digit (b / 16)) (digit (b % 16)) ≡ Some b
unfolding pair_of
pair_of_digits b h =
    rw (value_of_digit (b / 16) (omega arith), value_of_digit (b % 16) (omega arith)) (ap Some (omega arith))
