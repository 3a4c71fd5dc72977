-- Digits worked out, at which a wrong definition is refused. Assumes nothing.
use Prim.Native.Nat.{ℕ}
use mathlib.Core.Path.{◌≡◌, refl}
use mathlib.Core.Bool.{Bool, true, false, cond, ◌||◌}
use mathlib.Core.List.{List, [], ◌∷◌}
use lib.Dec.{T, eqb}
use lib.ListN.{get_or}
use Rattle.laws.proofs.Table.{every_below}
use Rattle.lines.specs.Lines.{Line}
use Rattle.hexadecimal.specs.Hex.{digit_of, refusal_of, value_of, pair_of, pairs, byte_of, bytes_of, digits_only, proper, badly_written, digit, hex, line_of}

-- 0123456789abcdef
abbrev digits : List ℕ
digits = 48 ∷ 49 ∷ 50 ∷ 51 ∷ 52 ∷ 53 ∷ 54 ∷ 55 ∷ 56 ∷ 57 ∷ 97 ∷ 98 ∷ 99 ∷ 100 ∷ 101 ∷ 102 ∷ []

abbrev has : ℕ → List ℕ → Bool
has b [] = false
has b (x ∷ xs) = eqb b x || has b xs

-- g and A are no digits: refusal 2
letter_g : refusal_of (digit_of 103) ≡ 2
unfolding digit_of
letter_g = refl

capital_a : refusal_of (digit_of 65) ≡ 2
unfolding digit_of
capital_a = refl

-- a byte among the digits has its place for a value, and any other is refused
abbrev read_right : ℕ → Bool
read_right b = cond (has b digits) (eqb (get_or digits (value_of (digit_of b)) 0) b) (eqb (refusal_of (digit_of b)) 2)

every_byte : T (every_below read_right 256)
unfolding digit_of
every_byte = tt

-- 0f0003
abbrev end_line : List ℕ
end_line = 48 ∷ 102 ∷ 48 ∷ 48 ∷ 48 ∷ 51 ∷ []

pub end_bytes_lem : pairs end_line ≡ 15 ∷ 0 ∷ 3 ∷ []
unfolding pairs pair_of digit_of
end_bytes_lem = refl

-- 0g 1: a letter that is no digit counts as 0, and a digit without a second is no byte
no_digit : bytes_of (48 ∷ 103 ∷ 49 ∷ []) ≡ 0 ∷ []
unfolding bytes_of byte_of digit_of
no_digit = refl

end_digits : hex (15 ∷ 0 ∷ 3 ∷ []) ≡ end_line
unfolding hex digit
end_digits = refl

end_line_lem : line_of (15 ∷ 0 ∷ 3 ∷ []) ≡ 48 ∷ 102 ∷ 48 ∷ 48 ∷ 48 ∷ 51 ∷ 10 ∷ []
unfolding line_of hex digit
end_line_lem = refl

abbrev line : List ℕ → Bool → Line
line s c = record { text = s; closed = c }

badly : badly_written (line [] true) ≡ true
unfolding badly_written proper
badly = refl

not_closed : badly_written (line end_line false) ≡ true
unfolding badly_written proper digits_only digit_of
not_closed = refl

well : badly_written (line end_line true) ≡ false
unfolding badly_written proper digits_only digit_of
well = refl
