-- A row's v at the three draughts. Assumes nothing.
use Rattle.std.specs.Prelude.{ℕ, List, [], ◌∷◌, get_or}
use Rattle.solas.specs.Height.{row_v}

-- in the order of the draughts
unfoldable pub row_vs : ℕ → ℕ → List ℕ → List ℕ
row_vs H' H ds = row_v H' H (get_or ds 0 0) ∷ row_v H' H (get_or ds 1 0) ∷ row_v H' H (get_or ds 2 0) ∷ []
