-- A line's bytes two by two, how far its digits go, and when it is well written. Assumes nothing.
use Prim.Native.Nat.{ℕ, zero, suc, ◌+◌, ◌*◌, ◌/◌, ◌%◌, ◌≤◌, ◌<◌, min}
use mathlib.Core.Path.{◌≡◌, refl, sym, ◌∙◌, ap}
use mathlib.Core.Bool.{Bool, true, not, ◌&&◌, ◌||◌, and_assoc, and-true}
use mathlib.Core.List.{List, [], ◌∷◌, ◌++◌}
use native.Mathlib.Nat.{min-eq_left, min-eq_right, le_of_lt}
use native.Mathlib.Omega.{arith}
use lib.Dec.{eqb}
use lib.ListN.{length, get_or, take, drop, set, length-set, take-append-drop}
use lib.Seq.{sets, set_out, take_all, take-nil}
use borrow.Author.Tests.{lt-ltb, eq-eqb, ne_eqb, eqb-false, not-true, not-false}
use Rattle.laws.proofs.Tests.{both, neither, same_test}
use Rattle.laws.proofs.Choice.{split}
use Rattle.hexadecimal.specs.Hex.{digit_of, refusal_of, byte_of, bytes_of, pairs, digits_only, proper}
use Rattle.hexadecimal.proofs.Hex.{byte_of_pair}
use Rattle.hexadecimal.proofs.Pairs.{first_pair, proper_parts}

-- ---- the bytes

pub length_bytes_of : (s : List ℕ) → length (bytes_of s) ≡ length s / 2
unfolding bytes_of
length_bytes_of [] = refl
length_bytes_of (a ∷ []) = refl
length_bytes_of (a ∷ b ∷ s) = omega (arith, length_bytes_of s)

-- the byte at a place is that of its two
pub byte_there : (s : List ℕ) (i : ℕ) → i * 2 + 2 ≤ length s → get_or (bytes_of s) i 0 ≡ byte_of (get_or s (i * 2) 0) (get_or s (i * 2 + 1) 0)
unfolding bytes_of
byte_there [] i h = absurd (omega arith)
byte_there (a ∷ []) i h = absurd (omega arith)
byte_there (a ∷ b ∷ s) zero h = refl
byte_there (a ∷ b ∷ s) (suc i) h =
    let k : suc i * 2 ≡ suc (suc (i * 2)) = omega arith in
    let q : suc (suc (i * 2)) + 1 ≡ suc (suc (i * 2 + 1)) = omega arith in
    rw (k, q) (byte_there s i (omega arith))

-- of digits alone they are those of its pairs
pub bytes_pairs : (s : List ℕ) → digits_only s ≡ true → bytes_of s ≡ pairs s
unfolding bytes_of pairs
bytes_pairs [] e = refl
bytes_pairs (a ∷ []) e = refl
bytes_pairs (a ∷ b ∷ s) e =
    let (x, p, r) = first_pair a b s e in
    rw (p, byte_of_pair a b x p, bytes_pairs s r) refl

-- a store past the end changes nothing, so that as many bytes as go in are enough
sets_out : (l : List ℕ) (i : ℕ) (vs : List ℕ) → length l ≤ i → sets l i vs ≡ l
sets_out l i [] h = refl
sets_out l i (v ∷ vs) h = rw (set_out l i v h) (sets_out l (suc i) vs (omega arith))

sets_cut : (l : List ℕ) (i k : ℕ) (vs : List ℕ) → length l ≤ i + k → sets l i (take k vs) ≡ sets l i vs
sets_cut l i k [] h = rw (take-nil k) refl
sets_cut l i zero (v ∷ vs) h = sym (sets_out l i (v ∷ vs) (omega arith))
sets_cut l i (suc k) (v ∷ vs) h = sets_cut (set l i v) (suc i) k vs (omega (arith, length-set l i v))

pub all_that_go_in : (text was : List ℕ) (m : ℕ) → m ≡ min (length text / 2) (length was) → sets was 0 (take m (bytes_of text)) ≡ sets was 0 (bytes_of text)
all_that_go_in text was m e =
    split (length text / 2) (length was)
    (λ h. ap (sets was 0) (take_all m (bytes_of text) (omega (arith, e, min-eq_left h, length_bytes_of text))))
    (λ h. sets_cut was 0 m (bytes_of text) (omega (arith, e, min-eq_right (le_of_lt h))))

-- ---- the digits

abbrev is_digit : ℕ → Bool
is_digit b = eqb (refusal_of (digit_of b)) 0

-- one byte more
pub digits_taken : (s : List ℕ) (k : ℕ) → k < length s → digits_only (take (suc k) s) ≡ (digits_only (take k s) && is_digit (get_or s k 0))
unfolding digits_only
digits_taken [] k h = absurd (omega arith)
digits_taken (b ∷ s) zero h = and-true (is_digit b)
digits_taken (b ∷ s) (suc k) h = ap (is_digit b &&◌) (digits_taken s k (omega arith)) ∙ sym (and_assoc (is_digit b) (digits_only (take k s)) (is_digit (get_or s k 0)))

pub digits_joined : (s t : List ℕ) → digits_only (s ++ t) ≡ (digits_only s && digits_only t)
unfolding digits_only
digits_joined [] t = refl
digits_joined (b ∷ s) t = ap (is_digit b &&◌) (digits_joined s t) ∙ sym (and_assoc (is_digit b) (digits_only s) (digits_only t))

digits_in_two : (k : ℕ) (s : List ℕ) → digits_only s ≡ (digits_only (take k s) && digits_only (drop k s))
digits_in_two k s = ap digits_only (sym (take-append-drop k s)) ∙ digits_joined (take k s) (drop k s)

-- ---- a line is well written where both parts have digits only, and it is neither odd nor without a pair
module _ (s : List ℕ) (k : ℕ) where
  abbrev faulty : Bool
  faulty = not (digits_only (take k s)) || not (digits_only (drop k s)) || eqb (length s % 2) 1 || eqb (length s / 2) 0

  faultless : proper s ≡ true → not faulty ≡ true
  faultless e =
      let (some, even, digits) = proper_parts s e in
      let (front, back) = both (digits_only (take k s)) (digits_only (drop k s)) (sym (digits_in_two k s) ∙ digits) in
      rw (front, back, ne_eqb (length s % 2) 1 (λ o. omega arith), ne_eqb (length s / 2) 0 (λ o. omega arith)) refl

  no_fault : not faulty ≡ true → proper s ≡ true
  unfolding proper
  no_fault e =
      let (abc, d) = neither (not (digits_only (take k s)) || not (digits_only (drop k s)) || eqb (length s % 2) 1) (eqb (length s / 2) 0) (not-true faulty e) in
      let (ab, c) = neither (not (digits_only (take k s)) || not (digits_only (drop k s))) (eqb (length s % 2) 1) abc in
      let (a, b) = neither (not (digits_only (take k s))) (not (digits_only (drop k s))) ab in
      let even = eqb-false (length s % 2) 1 c in
      let some = eqb-false (length s / 2) 0 d in
      rw (
        digits_in_two k s,
        not-false (digits_only (take k s)) a,
        not-false (digits_only (drop k s)) b,
        lt-ltb 0 (length s) (omega arith),
        eq-eqb (length s % 2) 0 (omega arith),
      )
      refl

  pub proper_by_parts : proper s ≡ not faulty
  proper_by_parts = same_test (proper s) (not faulty) faultless no_fault
