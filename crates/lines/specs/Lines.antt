-- Document 01, "The case file": lines, each closed by a line feed; bytes after the last line feed are a line too. Assumes nothing.
use Rattle.std.specs.Prelude.{ℕ, suc, Bool, true, false, cond, ◌||◌, List, [], ◌∷◌, eqb}

-- what stands before the line feed, and whether there is one
pub record Line : Type 0 where
  pub text : List ℕ
  pub closed : Bool

-- a byte in front of the first line
abbrev pub onto : ℕ → List Line → List Line
onto b [] = record { text = b ∷ []; closed = false } ∷ []
onto b (l ∷ ls) = record { text = b ∷ l.text; closed = l.closed } ∷ ls

-- the lines of an input: none where it is empty
unfoldable pub lines : List ℕ → List Line
lines [] = []
lines (b ∷ f) = let rest = lines f in cond (eqb b 10) (record { text = []; closed = true } ∷ rest) (onto b rest)

-- how many bytes stand before the first line feed, or in all where there is none
unfoldable pub line_length : List ℕ → ℕ
line_length [] = 0
line_length (b ∷ f) = let rest = suc (line_length f) in cond (eqb b 10) 0 rest

-- is one of these bytes a line feed?
unfoldable pub has_feed : List ℕ → Bool
has_feed [] = false
has_feed (b ∷ f) = eqb b 10 || has_feed f
