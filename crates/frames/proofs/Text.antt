-- What is said of a line's text has the table's number, and the count of its bytes. Assumes nothing.
use mathlib.Core.Path.{◌≡◌, refl}
use mathlib.Core.Bool.{Bool, true, false, true≢false}
use mathlib.Core.List.{[], ◌∷◌}
use native.Mathlib.Omega.{arith}
use Rattle.lines.specs.Lines.{Line}
use Rattle.hexadecimal.specs.Hex.{digit_of, digits_only, proper, badly_written}
use Rattle.hexadecimal.proofs.Pairs.{length_pairs}
use Rattle.frames.specs.Decoding.{written_of, written_number, written_count, Numbered, SaysTheText}

-- worked out: g0 is badly written, 0f writes one byte
pub two_texts : (written_number (written_of (103 ∷ 48 ∷ [])) ≡ 2) × (written_number (written_of (48 ∷ 102 ∷ [])) ≡ 0) × (written_count (written_of (48 ∷ 102 ∷ [])) ≡ 1)
unfolding written_of proper digits_only digit_of
two_texts = (refl, refl, refl)

module _ (l : Line) (closed : l.closed ≡ true) where
  by : (t : Bool) → proper l.text ≡ t → Numbered l
  unfolding written_of badly_written
  by true e = record { number = rw (e, closed) refl; count = λ w. rw e (omega (arith, length_pairs l.text e)) }
  by false e = record { number = rw e refl; count = λ w. let bad : true ≡ false = rw e at w in absurd (true≢false bad) }

pub says_the_text : SaysTheText
says_the_text l closed = by l closed (proper l.text) refl
