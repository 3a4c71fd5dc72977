-- Lines, computed: with and without a line feed. Assumes nothing.
use Prim.Native.Nat.{ℕ}
use mathlib.Core.Path.{◌≡◌, refl}
use mathlib.Core.Bool.{Bool, true, false}
use mathlib.Core.List.{List, [], ◌∷◌}
use Rattle.lines.specs.Lines.{Line, lines}

abbrev line : List ℕ → Bool → Line
line s c = record { text = s; closed = c }

pub two_and_a_rest : lines (97 ∷ 10 ∷ 10 ∷ 98 ∷ []) ≡ line (97 ∷ []) true ∷ line [] true ∷ line (98 ∷ []) false ∷ []
unfolding lines
two_and_a_rest = refl
