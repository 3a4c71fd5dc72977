-- Bytes and their digits, part by part: how long each is, and that parts written one after the other are the whole. Assumes nothing.
use Prim.Native.Nat.{ℕ, zero, suc, ◌+◌, ◌*◌, ◌/◌, ◌^◌}
use mathlib.Core.Path.{◌≡◌, refl, sym, ◌∙◌, ap}
use mathlib.Core.List.{List, [], ◌∷◌, ◌++◌}
use native.Mathlib.Nat.{suc-add, zero-add, add_comm, div-div-eq-div-mul}
use native.Mathlib.Omega.{arith}
use lib.Pow.{pow-add}
use lib.ListN.{length, length-append}
use Rattle.laws.specs.Bytes.{bytes}
use Rattle.hexadecimal.specs.Hex.{hex, line_of}
use Rattle.hexadecimal.proofs.Pairs.{length_hex}
use Rattle.digits.specs.Splice.{splice}
use Rattle.digits.proofs.Splice.{splice_then}

pub hex_append : (xs ys : List ℕ) → hex (xs ++ ys) ≡ hex xs ++ hex ys
unfolding hex
hex_append [] ys = refl
hex_append (x ∷ xs) ys = rw (hex_append xs ys) refl

-- the bytes above the k lowest, and those
pub bytes_append : (j k n : ℕ) → bytes (j + k) n ≡ bytes j (n / 256 ^ k) ++ bytes k n
unfolding bytes
bytes_append zero k n = rw (zero-add k) refl
bytes_append (suc j) k n = rw (suc-add j k, bytes_append j k n, div-div-eq-div-mul, ← pow-add, add_comm k j) refl

pub length_line : (frame : List ℕ) → length (line_of frame) ≡ length frame * 2 + 1
unfolding line_of
length_line frame = rw (length-append, length_hex) refl

-- ---- frames that are written part by part

module _ (at next : ℕ) (first second xs : List ℕ) {ys zs : List ℕ} (e : next ≡ at + length first * 2) (p : ys ≡ splice at (hex first) xs) where
  pub digits_then : zs ≡ splice next (hex second) ys → zs ≡ splice at (hex (first ++ second)) xs
  digits_then q =
      splice_then at next (hex first) (hex second) xs ys zs (omega (arith, length_hex first)) p q
      ∙ ap (λ t. splice at t xs) (sym (hex_append first second))

module _ (at next : ℕ) (frame xs : List ℕ) {ys zs : List ℕ} (e : next ≡ at + length frame * 2) (p : ys ≡ splice at (hex frame) xs) where
  pub feed_then : zs ≡ splice next (10 ∷ []) ys → zs ≡ splice at (line_of frame) xs
  unfolding line_of
  feed_then q = splice_then at next (hex frame) (10 ∷ []) xs ys zs (omega (arith, length_hex frame)) p q
