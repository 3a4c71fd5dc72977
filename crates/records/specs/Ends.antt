-- The ends of a figure at the three draughts, in the order deepest, partial, light. Assumes nothing.
use Rattle.std.specs.Prelude.{ℕ, List, get_or}
use Rattle.records.specs.declared.Ends.{Ends}

abbrev pub no_ends : Ends
no_ends = record { lower = 0; upper = 0 }

-- the ends at one of the draughts, counted from 0
abbrev pub at : List Ends → ℕ → Ends
at t i = get_or t i no_ends
