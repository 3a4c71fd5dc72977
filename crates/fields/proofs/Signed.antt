-- Two bytes with a sign: the number on either side of 32,768, written and read back. Assumes nothing.
use Prim.Native.Nat.{ℕ, suc, ◌+◌, ◌-◌, ◌≤◌, ◌<◌}
use mathlib.Core.Path.{◌≡◌, refl, ◌∙◌, ap}
use mathlib.Core.Bool.{Bool, true, false, cond}
use mathlib.Core.List.{List, [], ◌∷◌, ◌++◌}
use native.Mathlib.Omega.{arith}
use mir.Syntax.{w16}
use mir.Val.{sel, to_z}
use lib.IntN.{ℤ, pos, negsuc}
use lib.Signed.{mag}
use lib.Dec.{ltb}
use borrow.Author.Tests.{lt-ltb, le-ltb}
use Rattle.laws.specs.Bytes.{Octets, bytes}
use Rattle.laws.proofs.Choice.{split}
use Rattle.fields.specs.Fields.{byte_at, word_at, signed, unsigned, signed_at}
use Rattle.fields.proofs.Fields.{word_below, bytes_of_word, word_of_bytes}

pub signed_low : (n : ℕ) → n < 32768 → signed n ≡ pos n
unfolding signed
signed_low n h = rw (lt-ltb n 32768 h) refl

pub signed_high : (n : ℕ) → 32768 ≤ n → signed n ≡ negsuc (65535 - n)
unfolding signed
signed_high n h = rw (le-ltb n 32768 h) refl

-- as the machine reads two bytes
pub as_read : (n : ℕ) → to_z w16 n ≡ signed n
unfolding signed
as_read n = by (ltb n 32768)
  where
    by : (t : Bool) → sel t (pos n) (negsuc (65536 - suc n)) ≡ cond t (pos n) (negsuc (65535 - n))
    by true = refl
    by false = let e : 65536 - suc n ≡ 65535 - n = omega arith in ap negsuc e

-- ---- there and back
pub unsigned_signed : (n : ℕ) → n < 65536 → unsigned (signed n) ≡ n
unfolding unsigned
unsigned_signed n h = split 32768 n (λ l. rw (signed_high n l) (omega arith)) (λ l. rw (signed_low n l) refl)

pub signed_unsigned : (z : ℤ) → mag z < 32768 → signed (unsigned z) ≡ z
unfolding unsigned
signed_unsigned (pos n) h = signed_low n h
signed_unsigned (negsuc n) h = let e : 65535 - (65535 - n) ≡ n = omega arith in signed_high (65535 - n) (omega arith) ∙ ap negsuc e

pub unsigned_below : (z : ℤ) → mag z < 32768 → unsigned z < 65536
unfolding unsigned
unsigned_below (pos n) h = omega arith
unsigned_below (negsuc n) h = omega arith

-- ---- the two bytes of a field with a sign write it, and are written by it
pub bytes_of_signed : (f : List ℕ) (at : ℕ) → Octets f → bytes 2 (unsigned (signed_at f at)) ≡ byte_at f at ∷ byte_at f (at + 1) ∷ []
bytes_of_signed f at o = rw (unsigned_signed (word_at f at) (word_below f at o)) (bytes_of_word f at o)

pub signed_of_bytes : (z : ℤ) (rest : List ℕ) → mag z < 32768 → signed_at (bytes 2 (unsigned z) ++ rest) 0 ≡ z
signed_of_bytes z rest h = rw (word_of_bytes (unsigned z) rest (unsigned_below z h)) (signed_unsigned z h)
