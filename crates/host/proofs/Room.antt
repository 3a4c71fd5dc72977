-- Room for the figures: with it all twelve stand in front of what was lent, without it nothing is written. Assumes nothing.
use Prim.Native.Nat.{ℕ, ◌≤◌, ◌<◌}
use mathlib.Core.Path.{◌≡◌, refl, ◌∙◌}
use mathlib.Core.Bool.{true, false}
use mathlib.Core.List.{List}
use lib.Dec.{leb}
use lib.ListN.{length}
use borrow.Author.Tests.{le-leb, lt-leb}
use Rattle.records.specs.declared.Answer.{Answer}
use Rattle.casefile.specs.Reading.{Reading}
use Rattle.figures.specs.Figures.{figures_in}
use Rattle.answers.specs.Answer.{answered, sheet_after}
use Rattle.host.specs.Figures.{figure_count, figures_after, sheet_beside}

module _ (r : Reading) (lent sheet : List ℕ) where
  -- too little: nothing is written
  pub no_room : length lent < 12 → (0 ≡ figure_count lent) × (lent ≡ figures_after r (length sheet) lent) × (sheet ≡ sheet_beside lent r sheet)
  unfolding figure_count figures_after sheet_beside
  no_room short = let f : leb 12 (length lent) ≡ false = lt-leb 12 (length lent) short in rw f (refl, refl, refl)

  -- enough: the answer's figures and its sheet
  pub room_for_all : {a : Answer} {after filled : List ℕ} → 12 ≤ length lent → a ≡ answered r (length sheet) →
      filled ≡ sheet_after r sheet → after ≡ figures_in a lent →
      (12 ≡ figure_count lent) × (after ≡ figures_after r (length sheet) lent) × (filled ≡ sheet_beside lent r sheet)
  unfolding figure_count figures_after sheet_beside
  room_for_all room answers fills written = let f : leb 12 (length lent) ≡ true = le-leb 12 (length lent) room in rw f (refl, written ∙ rw answers refl, fills)
