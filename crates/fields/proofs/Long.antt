-- Fields of four bytes: in a part of a line, and written back. Assumes nothing.
use Prim.Native.Nat.{ℕ, ◌+◌, ◌/◌, ◌%◌, ◌<◌}
use mathlib.Core.Path.{◌≡◌, refl, ◌∙◌, ap, ap₂}
use mathlib.Core.List.{List, [], ◌∷◌}
use native.Mathlib.Omega.{arith}
use lib.ListN.{drop}
use Rattle.laws.specs.Bytes.{Octets, bytes}
use Rattle.fields.specs.Fields.{byte_at, word_at, long_at}
use Rattle.fields.proofs.Fields.{word_drop}

pub long_drop : (k at : ℕ) (f : List ℕ) → long_at (drop k f) at ≡ long_at f (k + at)
unfolding long_at
long_drop k at f =
    let e : k + (at + 2) ≡ k + at + 2 = omega arith in
    rw (word_drop k at f, word_drop k (at + 2) f, e) refl

four : {a b c d e f g h : ℕ} → a ≡ e → b ≡ f → c ≡ g → d ≡ h → a ∷ b ∷ c ∷ d ∷ [] ≡ e ∷ f ∷ g ∷ h ∷ []
four p q r s = rw (p, q, r, s) refl

pub four_bytes : (n : ℕ) → n < 4294967296 → bytes 4 n ≡ n / 16777216 ∷ n / 65536 % 256 ∷ n / 256 % 256 ∷ n % 256 ∷ []
unfolding bytes
four_bytes n h = four (omega arith) (omega arith) (omega arith) (omega arith)

-- a field written back is its four bytes
pub bytes_of_long : (f : List ℕ) (at : ℕ) → Octets f → bytes 4 (long_at f at) ≡ byte_at f at ∷ byte_at f (at + 1) ∷ byte_at f (at + 2) ∷ byte_at f (at + 3) ∷ []
unfolding long_at word_at
bytes_of_long f at o =
    let i : byte_at f at < 256 = o at in
    let j : byte_at f (at + 1) < 256 = o (at + 1) in
    let k : byte_at f (at + 2) < 256 = o (at + 2) in
    let l : byte_at f (at + 3) < 256 = o (at + 3) in
    let e : at + 2 + 1 ≡ at + 3 = omega arith in
    rw e (four_bytes _ (omega arith) ∙ four (omega arith) (omega arith) (omega arith) (omega arith))
