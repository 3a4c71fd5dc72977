-- Document 01, "The case file": lower-case hexadecimal, two digits a byte, the high one first. Assumes nothing.
use Rattle.std.specs.Prelude.{ℕ, ◌+◌, ◌-◌, ◌*◌, ◌/◌, ◌%◌, Bool, true, cond, not, ◌&&◌, ◌||◌, List, [], ◌∷◌, ◌++◌, length, leb, ltb, eqb, Option, Some, None}
use Rattle.lines.specs.Lines.{Line}

-- 0-9 are the bytes 48 to 57, a-f the bytes 97 to 102
unfoldable pub digit_of : ℕ → Option ℕ
digit_of b = cond (leb 48 b && leb b 57) (Some (b - 48)) (cond (leb 97 b && leb b 102) (Some (b - 87)) None)

-- a byte that is no digit is refusal 2
abbrev pub refusal_of : Option ℕ → ℕ
refusal_of (Some v) = 0
refusal_of None = 2

abbrev pub value_of : Option ℕ → ℕ
value_of (Some v) = v
value_of None = 0

-- the value of a digit, and for what is none a number that no digit has
abbrev pub mark_of : Option ℕ → ℕ
mark_of (Some v) = v
mark_of None = 16

abbrev pub joined : Option ℕ → Option ℕ → Option ℕ
joined (Some h) (Some l) = Some (h * 16 + l)
joined (Some h) None = None
joined None d = None

-- the byte that two digits write
unfoldable pub pair_of : ℕ → ℕ → Option ℕ
pair_of a b = joined (digit_of a) (digit_of b)

-- a pair that is none ends the list
abbrev pub before : Option ℕ → List ℕ → List ℕ
before (Some x) rest = x ∷ rest
before None rest = []

-- the bytes of a line's pairs of digits, up to the first that is none
unfoldable pub pairs : List ℕ → List ℕ
pairs [] = []
pairs (a ∷ []) = []
pairs (a ∷ b ∷ s) = before (pair_of a b) (pairs s)

-- the byte that two bytes of a line write, where what is no digit counts as 0
unfoldable pub byte_of : ℕ → ℕ → ℕ
byte_of a b = value_of (digit_of a) * 16 + value_of (digit_of b)

-- a line's bytes two by two, whatever they are
unfoldable pub bytes_of : List ℕ → List ℕ
bytes_of [] = []
bytes_of (a ∷ []) = []
bytes_of (a ∷ b ∷ s) = byte_of a b ∷ bytes_of s

-- no byte is outside 0-9 a-f
unfoldable pub digits_only : List ℕ → Bool
digits_only [] = true
digits_only (b ∷ s) = eqb (refusal_of (digit_of b)) 0 && digits_only s

-- not empty, not odd, digits only
unfoldable pub proper : List ℕ → Bool
proper s = ltb 0 (length s) && eqb (length s % 2) 0 && digits_only s

-- refusal 2: empty line, odd digits, a byte not in 0-9 a-f, no closing line feed
unfoldable pub badly_written : Line → Bool
badly_written l = not (proper l.text) || not l.closed

-- the digit of a number below 16
unfoldable pub digit : ℕ → ℕ
digit n = cond (ltb n 10) (48 + n) (87 + n)

-- the digits that write the bytes
unfoldable pub hex : List ℕ → List ℕ
hex [] = []
hex (b ∷ bs) = digit (b / 16) ∷ digit (b % 16) ∷ hex bs

-- one frame a line, closed by a line feed
unfoldable pub line_of : List ℕ → List ℕ
line_of frame = hex frame ++ 10 ∷ []
