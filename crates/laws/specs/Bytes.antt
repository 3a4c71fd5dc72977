-- Whole numbers as bytes, the high byte first. Assumes nothing.
use Rattle.std.specs.Prelude.{ℕ, zero, suc, ◌+◌, ◌*◌, ◌/◌, ◌%◌, ◌^◌, ◌<◌, List, [], ◌∷◌, length, get_or}

-- each entry is a byte
abbrev pub Octets : List ℕ → Type 0
Octets bs = (i : ℕ) → get_or bs i 0 < 256

-- the number that the bytes spell
unfoldable pub number : List ℕ → ℕ
number [] = 0
number (b ∷ bs) = b * 256 ^ length bs + number bs

-- the k low bytes of n
unfoldable pub bytes : ℕ → ℕ → List ℕ
bytes zero n = []
bytes (suc k) n = n / 256 ^ k % 256 ∷ bytes k n
