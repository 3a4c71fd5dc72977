-- What the code says of a line's text: the bytes that it writes, or refusal 2. Assumes nothing.
use Rattle.std.specs.Prelude.{ℕ, zero, suc, ◌/◌, ◌≡◌, Bool, true, false, cond, ◌||◌, List, eqb, length, get_or, Option, Some, None}
use Rattle.lines.specs.Lines.{Line}
use Rattle.hexadecimal.specs.Hex.{digit_of, mark_of, pairs, proper, badly_written}

-- the mark of a line's byte at a place
abbrev pub mark_at : List ℕ → ℕ → ℕ
mark_at s i = mark_of (digit_of (get_or s i 0))

-- one of the first so many marks is that of no digit
unfoldable pub other_below : List ℕ → ℕ → Bool
other_below marks zero = false
other_below marks (suc k) = other_below marks k || eqb (get_or marks k 0) 16

-- two digits a byte; none where it is badly written
unfoldable pub written_of : List ℕ → Option ℕ
written_of text = cond (proper text) (Some (length text / 2)) None

-- the refusal's number, 0 where the text is well written
abbrev pub written_number : Option ℕ → ℕ
written_number (Some n) = 0
written_number None = 2

-- how many bytes it writes, none where it is badly written
abbrev pub written_count : Option ℕ → ℕ
written_count (Some n) = n
written_count None = 0

-- of a line that is closed: 2 exactly where the table has it, and else as many bytes as the line's digits come to
pub record Numbered (l : Line) : Type 0 where
  pub number : written_number (written_of l.text) ≡ cond (badly_written l) 2 0
  pub count : badly_written l ≡ false → written_count (written_of l.text) ≡ length (pairs l.text)

abbrev pub SaysTheText : Type 0
SaysTheText = (l : Line) → l.closed ≡ true → Numbered l
