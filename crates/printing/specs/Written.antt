-- What writing a text in front of a lent buffer comes to: how much is written, and the whole buffer afterwards. Assumes nothing.
use Rattle.std.specs.Prelude.{ℕ, cond, List, ◌++◌, leb, length, drop, Option, Some, None}

-- how much is written: all of the text, or nothing where the buffer is too short
unfoldable pub length_in : {A : Type 0} → List A → List A → Option ℕ
length_in text buffer = cond (leb (length text) (length buffer)) (Some (length text)) None

-- the same as a number, 0 where nothing is written
unfoldable pub count_in : {A : Type 0} → List A → List A → ℕ
count_in text buffer = cond (leb (length text) (length buffer)) (length text) 0

-- the text in front and the rest as it was, or all as it was
unfoldable pub written_in : {A : Type 0} → List A → List A → List A
written_in text buffer = cond (leb (length text) (length buffer)) (text ++ drop (length text) buffer) buffer
