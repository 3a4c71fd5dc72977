-- Document 01, "The case file": fields of one and of two bytes, the high byte first, at a place of a part of a line's bytes; and document 02,
-- "Openings": two bytes in two's complement, and "Passenger ships": four bytes. Assumes nothing.
use Rattle.std.specs.Prelude.{ℕ, ◌+◌, ◌-◌, ◌*◌, cond, List, ltb, ℤ, pos, negsuc, get_or}

abbrev pub byte_at : List ℕ → ℕ → ℕ
byte_at f at = get_or f at 0

unfoldable pub word_at : List ℕ → ℕ → ℕ
word_at f at = byte_at f at * 256 + byte_at f (at + 1)

unfoldable pub long_at : List ℕ → ℕ → ℕ
long_at f at = word_at f at * 65536 + word_at f (at + 2)

-- the number with a sign that two bytes have in two's complement: below 32,768 it is theirs, from there on 65,536 less, where negsuc 0 is -1
unfoldable pub signed : ℕ → ℤ
signed n = cond (ltb n 32768) (pos n) (negsuc (65535 - n))

-- and the two bytes' own number
unfoldable pub unsigned : ℤ → ℕ
unsigned (pos n) = n
unsigned (negsuc n) = 65535 - n

abbrev pub signed_at : List ℕ → ℕ → ℤ
signed_at f at = signed (word_at f at)
