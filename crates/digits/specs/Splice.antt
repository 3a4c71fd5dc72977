-- A text written over a part of a list. Assumes nothing.
use Rattle.std.specs.Prelude.{ℕ, List}
use Rattle.std.proofs.lemmas.List.Edits.{sets}

-- xs with the text in place of what stood from the place `at` on; the rest stays, and nothing is written past the end
unfoldable pub splice : {A : Type 0} → ℕ → List A → List A → List A
splice at text xs = sets xs at text
