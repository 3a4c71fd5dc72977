-- Fields of one and two bytes: how great they are, in a part of a line, and written back. Assumes nothing.
use Prim.Native.Nat.{ℕ, ◌+◌, ◌<◌}
use mathlib.Core.Path.{◌≡◌, refl, ◌∙◌, ap₂}
use mathlib.Core.List.{List, [], ◌∷◌, ◌++◌}
use native.Mathlib.Omega.{arith}
use lib.ListN.{drop}
use lib.Seq.{get_or-drop}
use Rattle.laws.specs.Bytes.{Octets, bytes}
use Rattle.laws.proofs.Bytes.{two_bytes}
use Rattle.fields.specs.Fields.{byte_at, word_at}
-- checked first, so that a definition that gives another number is refused there
use Rattle.fields.proofs.Examples.{count_high_first, four_high_first, either_sign}

pub octets_drop : (k : ℕ) (f : List ℕ) → Octets f → Octets (drop k f)
octets_drop k f o i = rw (get_or-drop k f i 0) (o (k + i))

pub word_below : (f : List ℕ) (at : ℕ) → Octets f → word_at f at < 65536
unfolding word_at
word_below f at o = omega (arith, o at, o (at + 1))

pub word_drop : (k at : ℕ) (f : List ℕ) → word_at (drop k f) at ≡ word_at f (k + at)
unfolding word_at
word_drop k at f =
    let e : k + (at + 1) ≡ k + at + 1 = omega arith in
    rw (get_or-drop k f at 0, get_or-drop k f (at + 1) 0, e) refl

-- the two bytes of a field write it, and are written by it
pub bytes_of_word : (f : List ℕ) (at : ℕ) → Octets f → bytes 2 (word_at f at) ≡ byte_at f at ∷ byte_at f (at + 1) ∷ []
unfolding word_at
bytes_of_word f at o =
    let h : byte_at f at < 256 = o at in
    let l : byte_at f (at + 1) < 256 = o (at + 1) in
    two_bytes (word_at f at) (word_below f at o) ∙ ap₂ (λ x y. x ∷ y ∷ []) (omega arith) (omega arith)

pub word_of_bytes : (n : ℕ) (rest : List ℕ) → n < 65536 → word_at (bytes 2 n ++ rest) 0 ≡ n
unfolding word_at
word_of_bytes n rest h = rw (two_bytes n h) (omega arith)
