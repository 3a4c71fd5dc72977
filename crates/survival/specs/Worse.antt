-- Document 02, "Smaller damage, worse result": of two results at a draught the lower survival counts, by bottom, by top and exactly, with the marks of its
-- own set. Assumes nothing.
use Rattle.std.specs.Prelude.{ℕ, ◌+◌, ◌<◌, min, ◌↔◌, ◌≡◌, get_or}
use Rattle.laws.specs.Fraction.{Fraction, ◌≼◌, ◌≺◌, lesser}
use Rattle.records.specs.declared.Finding.{Finding}
use Rattle.records.specs.Results.{Results}
use Rattle.survival.specs.Marks.{unmarked, found_marks}
use Rattle.survival.specs.Survival.{root, given, ends, Sensible, fourth_of, nothing, no_survival, survival_of, worse_of, factors_of, survivals_of}
use Rattle.survival.specs.Telling.{IsOne}

-- ---- of any two fractions from 0 to 1 the lesser has the lesser ends: to round the lesser is to take the lesser of what is rounded
pub record LesserEnds (f g : Fraction) : Type 0 where
  pub bottom : (ends (root (lesser f g))).bottom ≡ min (ends (root f)).bottom (ends (root g)).bottom
  pub top : (ends (root (lesser f g))).top ≡ min (ends (root f)).top (ends (root g)).top

abbrev pub LesserHasLesserEnds : Type 0
LesserHasLesserEnds = (f g : Fraction) → Sensible (root f) → Sensible (root g) → LesserEnds f g

-- ---- of any two results
pub record LowerCounts (f g : Finding) : Type 0 where
  -- "At each draught the lower survival counts: the lower bottom and the lower top"
  pub bottom : (survival_of 5 (worse_of f g)).bottom ≡ min (survival_of 5 f).bottom (survival_of 5 g).bottom
  pub top : (survival_of 5 (worse_of f g)).top ≡ min (survival_of 5 f).top (survival_of 5 g).top
  -- "Demand 3's exact survival is the lower of the two"
  pub exact : fourth_of (worse_of f g) ≡ lesser (fourth_of f) (fourth_of g)
  -- "ticket 2's marks are that set's by exact s⁴, the first set's when equal"
  pub first : fourth_of f ≼ fourth_of g → (survival_of 5 (worse_of f g)).marks ≡ found_marks f.lever f.range f.heel f.opening
  pub second : fourth_of g ≺ fourth_of f → (survival_of 5 (worse_of f g)).marks ≡ found_marks g.lever g.range g.heel g.opening
  -- so it is the survival of one of the two, whole
  pub first_whole : fourth_of f ≼ fourth_of g → survival_of 5 (worse_of f g) ≡ survival_of 5 f
  pub second_whole : fourth_of g ≺ fourth_of f → survival_of 5 (worse_of f g) ≡ survival_of 5 g

-- ---- the survival of two results is one exactly when neither of them has a mark: to raise a number of the one that counts is not enough where the other has some
abbrev pub OneOfTwo : Type 0
OneOfTwo = (f g : Finding) → IsOne (survival_of 5 (worse_of f g)) ↔ (((survival_of 5 f).marks ≡ unmarked) × ((survival_of 5 g).marks ≡ unmarked))

-- ---- of a row's results, at each of the three draughts j
pub record RowCounts (rs : Results) (j : ℕ) : Type 0 where
  -- kind 5: of the results j and 3 + j the worse, by its survival and by its exact s⁴
  pub worse : get_or (survivals_of 5 rs) j no_survival ≡ survival_of 5 (worse_of (get_or rs.findings j nothing) (get_or rs.findings (3 + j) nothing))
  pub bottom : (get_or (survivals_of 5 rs) j no_survival).bottom ≡ min (survival_of 5 (get_or rs.findings j nothing)).bottom (survival_of 5 (get_or rs.findings (3 + j) nothing)).bottom
  pub top : (get_or (survivals_of 5 rs) j no_survival).top ≡ min (survival_of 5 (get_or rs.findings j nothing)).top (survival_of 5 (get_or rs.findings (3 + j) nothing)).top
  pub exact : get_or (factors_of 5 rs) j (given 0) ≡ root (lesser (fourth_of (get_or rs.findings j nothing)) (fourth_of (get_or rs.findings (3 + j) nothing)))
  -- another kind of a cargo ship: the one result
  pub alone : (kind : ℕ) → (kind ≡ 5 → ⊥) → (kind ≡ 7 → ⊥) → get_or (survivals_of kind rs) j no_survival ≡ survival_of kind (get_or rs.findings j nothing)

pub record LowerSurvivalCounts : Type 0 where
  pub results : (f g : Finding) → LowerCounts f g
  pub rows : (rs : Results) (j : ℕ) → j < 3 → RowCounts rs j
