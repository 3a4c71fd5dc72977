-- The figures of a refusal, worked out, in a slice of fourteen. Assumes nothing.
use mathlib.Core.Path.{◌≡◌, refl}
use mathlib.Core.List.{[], ◌∷◌}
use Rattle.records.specs.declared.Answer.{Answer}
use Rattle.records.specs.Ends.{no_ends}
use Rattle.printing.specs.ReadBack.{ends_of}
use Rattle.figures.specs.Figures.{figures_of, figures_in}

-- number 9 at line 500
abbrev refused : Answer
refused = record {
  number = 9;
  line = 500;
  verdict = 0;
  rows = 0;
  attained = no_ends;
  partials = no_ends ∷ no_ends ∷ no_ends ∷ [];
}

pub rest_stays : figures_in refused (1 ∷ 1 ∷ 1 ∷ 1 ∷ 1 ∷ 1 ∷ 1 ∷ 1 ∷ 1 ∷ 1 ∷ 1 ∷ 1 ∷ 7 ∷ 8 ∷ []) ≡ 9 ∷ 500 ∷ 0 ∷ 0 ∷ 0 ∷ 0 ∷ 0 ∷ 0 ∷ 0 ∷ 0 ∷ 0 ∷ 0 ∷ 7 ∷ 8 ∷ []
unfolding figures_in figures_of ends_of
rest_stays = refl
