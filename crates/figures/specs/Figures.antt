-- An answer as twelve figures, and a lent slice with them in front. Assumes nothing.
use Rattle.std.specs.Prelude.{ℕ, List, ◌∷◌, ◌++◌, drop}
use Rattle.records.specs.declared.Answer.{Answer}
use Rattle.printing.specs.ReadBack.{ends_of}

-- a refusal's number and line, the verdict, the row count, then the ends of A, As, Ap, Al
unfoldable pub figures_of : Answer → List ℕ
figures_of a = a.number ∷ a.line ∷ a.verdict ∷ a.rows ∷ ends_of a

-- the figures in front, and the rest as it was
unfoldable pub figures_in : Answer → List ℕ → List ℕ
figures_in a lent = figures_of a ++ drop 12 lent
