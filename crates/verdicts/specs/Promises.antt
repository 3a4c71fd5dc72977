-- What is promised of the verdict, for rows of whatever kind: document 01, "What a reader may rely on". Assumes nothing.
use Rattle.std.specs.Prelude.{ℕ, ◌≡◌, List, ◌↔◌}
use Rattle.laws.specs.Lists.{Every}
use Rattle.laws.specs.Fraction.{Fraction, whole, ◌≼◌, ◌≺◌}
use Rattle.numbers.specs.Figures.{billionths}
use Rattle.records.specs.declared.Ends.{Ends}
use Rattle.records.specs.Ends.{at}
use Rattle.numbers.specs.Ratio.{ratio_of}
use Rattle.indices.specs.Index.{attained_of}
use Rattle.indices.specs.Exact.{RowAt, Sound, NoneAbove, NoneBelow, weighted_sum, Thrice, AtAll, AtEach, partials_of, exact_A}
use Rattle.verdicts.specs.Verdict.{verdict_of}

-- ---- the four figures: A and the three partial indices
pub record AllFour (index deepest partial light : Type 0) : Type 0 where
  pub attained : index
  pub at_deepest : deepest
  pub at_partial : partial
  pub at_light : light

pub data OneOfFour (index deepest partial light : Type 0) : Type 0 where
  attained : index → OneOfFour index deepest partial light
  at_deepest : deepest → OneOfFour index deepest partial light
  at_partial : partial → OneOfFour index deepest partial light
  at_light : light → OneOfFour index deepest partial light

-- ---- the verdict by its ends
module _ (index : Ends) (partials : List Ends) (required mark : Fraction) where
  abbrev pub Meets : Type 0
  Meets = AllFour (required ≼ billionths index.lower) (mark ≼ billionths (at partials 0).lower) (mark ≼ billionths (at partials 1).lower) (mark ≼ billionths (at partials 2).lower)

  abbrev pub Fails : Type 0
  Fails = OneOfFour (billionths index.upper ≺ required) (billionths (at partials 0).upper ≺ mark) (billionths (at partials 1).upper ≺ mark) (billionths (at partials 2).upper ≺ mark)

  pub record ByEnds (verdict : ℕ) : Type 0 where
    pub one : (verdict ≡ 1) ↔ Meets
    pub two : (verdict ≡ 2) ↔ ((Meets → ⊥) × Fails)
    pub three : (verdict ≡ 3) ↔ ((Meets → ⊥) × (Fails → ⊥))

abbrev pub VerdictByEnds : Type 0
VerdictByEnds = (index : Ends) (partials : List Ends) (required mark : Fraction) → whole 0 ≼ required → whole 0 ≼ mark → ByEnds index partials required mark (verdict_of index partials (ratio_of required) (ratio_of mark))

-- ---- the verdict by exact figures
module _ (rs : Thrice (List RowAt)) (required mark : Fraction) where
  abbrev pub verdict_on : ℕ
  verdict_on = verdict_of (attained_of (partials_of rs)) (partials_of rs) (ratio_of required) (ratio_of mark)

  -- A reaches R and each partial index its mark, for these survivals
  abbrev pub ReachAll : Thrice (List Fraction) → Type 0
  ReachAll xs = AllFour (required ≼ exact_A rs xs) (mark ≼ weighted_sum rs.deepest xs.deepest) (mark ≼ weighted_sum rs.partial xs.partial) (mark ≼ weighted_sum rs.light xs.light)

  abbrev pub ShortAt : List RowAt → Type 0
  ShortAt at = (xs : List Fraction) → NoneAbove at xs → weighted_sum at xs ≺ mark

  -- one of the four, fixed first, is below its mark for every list with no fourth power above
  abbrev pub OneShort : Type 0
  OneShort = OneOfFour ((xs : Thrice (List Fraction)) → AtEach NoneAbove rs xs → exact_A rs xs ≺ required) (ShortAt rs.deepest) (ShortAt rs.partial) (ShortAt rs.light)

abbrev pub MeetsIsRight : Type 0
MeetsIsRight = (rs : Thrice (List RowAt)) → AtAll (Every Sound) rs → (required mark : Fraction) → whole 0 ≼ required → whole 0 ≼ mark →
    verdict_on rs required mark ≡ 1 → (xs : Thrice (List Fraction)) → AtEach NoneBelow rs xs → ReachAll rs required mark xs

abbrev pub FailsIsRight : Type 0
FailsIsRight = (rs : Thrice (List RowAt)) → AtAll (Every Sound) rs → (required mark : Fraction) → whole 0 ≼ required → whole 0 ≼ mark →
    verdict_on rs required mark ≡ 2 → OneShort rs required mark
