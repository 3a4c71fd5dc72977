-- Fields that are written part by part: how long they are, and what the buffer holds once the last part is there. Assumes nothing.
use Prim.Native.Nat.{ℕ, zero, suc, ◌+◌, ◌-◌, ◌*◌, ◌/◌, ◌%◌, ◌^◌, ◌≤◌, ◌<◌}
use mathlib.Core.Path.{◌≡◌, refl, sym, ◌∙◌, ap}
use mathlib.Core.List.{List, [], ◌∷◌, ◌++◌}
use native.Mathlib.Nat.{zero-add, suc-add}
use native.Mathlib.Numerals.{add-one}
use native.Mathlib.Omega.{arith}
use lib.ListN.{length, get_or, take, drop, set, length-append}
use lib.Seq.{take_all, take-suc, length-take-le}
use mir.Syntax.{w64}
use Rattle.std.specs.Int.{bytes_high_first, to_be_bytes}
use Rattle.laws.specs.Bytes.{bytes}
use Rattle.laws.proofs.Bytes.{length_bytes}
use Rattle.laws.proofs.Pieces.{pieces_below, piece_more}
use Rattle.records.specs.declared.Ends.{Ends}
use Rattle.records.specs.Ends.{no_ends}
use Rattle.hexadecimal.specs.Hex.{digit, hex}
use Rattle.hexadecimal.proofs.Pairs.{length_hex}
use Rattle.digits.specs.Splice.{splice}
use Rattle.digits.specs.Fields.{ends_field, partial_field, partials_field}
use Rattle.digits.proofs.Text.{hex_append, digits_then}

-- ---- how long each is

pub length_ends : (lower upper : ℕ) → length (ends_field lower upper) ≡ 8
unfolding ends_field
length_ends lower upper = rw (length-append, length_bytes 4 lower, length_bytes 4 upper) refl

pub length_partial : (t : List Ends) (j : ℕ) → length (partial_field t j) ≡ 8
unfolding partial_field
length_partial t j = length_ends _ _

pub length_partials : (t : List Ends) → length (partials_field t) ≡ 24
unfolding partials_field
length_partials t = simp (length-append, length_partial) refl

-- ---- as they are written

-- the machine's bytes, of which the k low ones are the last k of eight
all_bytes : (k n : ℕ) → bytes_high_first k n ≡ bytes k n
unfolding bytes
all_bytes zero n = refl
all_bytes (suc zero) n = let e : n % 256 ≡ n / 256 ^ 0 % 256 = omega arith in ap (◌∷ []) e
all_bytes (suc (suc k)) n = ap (n / 256 ^ suc k % 256 ∷◌) (all_bytes (suc k) n)

drop_bytes : (j k n : ℕ) → drop j (bytes (j + k) n) ≡ bytes k n
unfolding bytes
drop_bytes zero k n = rw (zero-add k) refl
drop_bytes (suc j) k n = rw (suc-add j k) (drop_bytes j k n)

pub low_bytes : (k n : ℕ) {eight : List ℕ} → k ≤ 8 → eight ≡ to_be_bytes w64 n → take (8 - (8 - k)) (drop (8 - k) eight) ≡ bytes k n
low_bytes k n h e =
    let parts : 8 ≡ 8 - k + k = omega arith in
    let count : 8 - (8 - k) ≡ k = omega arith in
    let low = ap (drop (8 - k)) (e ∙ all_bytes 8 n) ∙ ap (λ m. drop (8 - k) (bytes m n)) parts ∙ drop_bytes (8 - k) k n in
    rw (count, low) (take_all k (bytes k n) (omega (arith, length_bytes k n)))

-- a byte more, by its two digits
pub byte_more : (at i b : ℕ) (bs xs : List ℕ) {ys : List ℕ} {high low : ℕ} → i < length bs → b ≡ get_or bs i 0 → ys ≡ splice at (hex (take i bs)) xs →
    high ≡ digit (b / 16) → low ≡ digit (b % 16) → set (set ys (at + 2 * i) high) (at + 2 * i + 1) low ≡ splice at (hex (take (i + 1) bs)) xs
unfolding splice hex
byte_more at i b bs xs {ys} {high} {low} h e p d f =
    let long : length (take i bs) ≡ i = length-take-le i bs (omega arith) in
    let stored : set (set ys (at + 2 * i) high) (at + 2 * i + 1) low ≡ splice (at + 2 * i) (hex (b ∷ [])) ys = rw (d, f, add-one (at + 2 * i)) refl in
    let more : take i bs ++ b ∷ [] ≡ take (i + 1) bs = rw (e, add-one i) (sym (take-suc bs i 0 h)) in
    digits_then at (at + 2 * i) (take i bs) (b ∷ []) xs (omega (arith, long)) p stored ∙ ap (λ l. splice at (hex l) xs) more

module _ (at : ℕ) (xs : List ℕ) {ys zs : List ℕ} where
  pub ends_written : (lower upper : ℕ) → ys ≡ splice at (hex (bytes 4 lower)) xs → zs ≡ splice (at + 8) (hex (bytes 4 upper)) ys →
      zs ≡ splice at (hex (ends_field lower upper)) xs
  unfolding ends_field
  ends_written lower upper p q = digits_then at (at + 8) (bytes 4 lower) (bytes 4 upper) xs (omega (arith, length_bytes 4 lower)) p q

-- ---- draught by draught

-- three fields, digit by digit
pub three_fields : (at : ℕ) (field : ℕ → List ℕ) (xs : List ℕ) {j : ℕ} {ys : List ℕ} → j ≡ 3 →
    ys ≡ splice at (pieces_below (λ k. hex (field k)) j) xs → ys ≡ splice at (hex (field 0 ++ field 1 ++ field 2)) xs
unfolding pieces_below
three_fields at field xs e p = rw (hex_append (field 0 ++ field 1) (field 2), hex_append (field 0) (field 1)) (rw e at p)

-- the digits of the partial indices
abbrev pub partial_digits : List Ends → ℕ → List ℕ
partial_digits t j = hex (partial_field t j)

module _ (at : ℕ) (t : List Ends) (xs : List ℕ) where
  pub one_more_written : (j : ℕ) {e : Ends} {ys zs : List ℕ} → e ≡ get_or t j no_ends → ys ≡ splice at (pieces_below (partial_digits t) j) xs →
      zs ≡ splice (at + 16 * j) (hex (ends_field e.lower e.upper)) ys → zs ≡ splice at (pieces_below (partial_digits t) (j + 1)) xs
  unfolding splice partial_field
  one_more_written j e p q =
      piece_more (partial_digits t) 16 (λ k. length_hex (partial_field t k) ∙ ap (λ n. n * 2) (length_partial t k)) xs at j (at + 16 * j) refl p (rw e at q)

  pub all_written : {j : ℕ} {ys : List ℕ} → j ≡ 3 → ys ≡ splice at (pieces_below (partial_digits t) j) xs → ys ≡ splice at (hex (partials_field t)) xs
  unfolding partials_field
  all_written e p = three_fields at (partial_field t) xs e p
