-- Numbers and their bytes, the high byte first: what bytes are, and the way there and back. Assumes nothing.
use Prim.Native.Nat.{ℕ, zero, suc, ◌/◌, ◌%◌, ◌^◌, ◌<◌}
use mathlib.Core.Path.{◌≡◌, refl, sym, ◌∙◌, ap, ap₂}
use mathlib.Core.List.{List, [], ◌∷◌, ◌++◌}
use native.Mathlib.Nat.{mod-eq_of_lt, mod-lt, mod-one, pow-succ', one-le-pow}
use native.Mathlib.Omega.{arith}
use lib.Arith.{mod-mul}
use lib.Dec.{lit<}
use lib.ListN.{length}
use Rattle.laws.specs.Bytes.{Octets, number, bytes}

-- ---- a worked case: the high byte stands first

two_and_three : number (2 ∷ 3 ∷ []) ≡ 515
unfolding number
two_and_three = refl

-- ---- any count of bytes

pub octets_cons : (b : ℕ) (bs : List ℕ) → b < 256 → Octets bs → Octets (b ∷ bs)
octets_cons b bs h o zero = h
octets_cons b bs h o (suc i) = o i

pub octets_rest : (b : ℕ) (bs : List ℕ) → Octets (b ∷ bs) → Octets bs
octets_rest b bs o i = o (suc i)

pub octets_append : (xs ys : List ℕ) → Octets xs → Octets ys → Octets (xs ++ ys)
octets_append [] ys o p = p
octets_append (x ∷ xs) ys o p = octets_cons x (xs ++ ys) (o 0) (octets_append xs ys (octets_rest x xs o) p)

place_above : (k : ℕ) → 0 < 256 ^ k
place_above k = one-le-pow k 256 (lit< tt)

pub length_bytes : (k n : ℕ) → length (bytes k n) ≡ k
unfolding bytes
length_bytes zero n = refl
length_bytes (suc k) n = ap suc (length_bytes k n)

pub bytes_octets : (k n : ℕ) → Octets (bytes k n)
unfolding bytes
bytes_octets zero n i = lit< tt
bytes_octets (suc k) n zero = mod-lt (n / 256 ^ k) (lit< tt)
bytes_octets (suc k) n (suc i) = bytes_octets k n i

-- the low bytes of a number spell its remainder
pub number_bytes : (k n : ℕ) → number (bytes k n) ≡ n % 256 ^ k
unfolding number bytes
number_bytes zero n = sym (mod-one n)
number_bytes (suc k) n =
    rw (length_bytes k n, number_bytes k n, pow-succ' 256 k)
    (sym (mod-mul n {m = 256} {c = 256 ^ k} (lit< tt) (place_above k)))

-- and the number itself, where they are enough
pub number_bytes_all : (k n : ℕ) → n < 256 ^ k → number (bytes k n) ≡ n
number_bytes_all k n h = number_bytes k n ∙ mod-eq_of_lt h

-- ---- two bytes

pub two_bytes : (n : ℕ) → n < 65536 → bytes 2 n ≡ n / 256 ∷ n % 256 ∷ []
unfolding bytes
two_bytes n h = ap₂ (λ x y. x ∷ y ∷ []) (omega arith) (omega arith)
