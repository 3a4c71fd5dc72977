-- What a ship's verdict says by the regulation's own sums: document 002's A held to R, and each partial index to half of it, or to nine tenths of a
-- passenger ship's. Assumes nothing.
use Rattle.std.specs.Prelude.{◌+◌, cond, ◌≡◌, List, eqb}
use Rattle.laws.specs.Fraction.{Fraction, ◌≼◌, ◌≺◌}
use Rattle.regulation.specs.RegulationIndex as regulation
use Rattle.regulation.specs.RegulationIndex.{centimetres, Boundary, vm}
use Rattle.regulation.specs.RegulationPassengers as passengers
use Rattle.regulation.specs.RegulationSums.{plain}
use Rattle.regulation.specs.OfSolasSums.{NoneRises}
use Rattle.indices.specs.Exact.{RowAt, NoneAbove, NoneBelow, Thrice, AtAll, AtEach}
use Rattle.verdicts.specs.Promises.{AllFour, OneOfFour}
use Rattle.casefile.specs.Record.{Case}
use Rattle.casefile.specs.Groups.{Grouped}
use Rattle.answers.specs.Answer.{answer}
use Rattle.promises.specs.Rows.{rows_of}
use Rattle.promises.specs.Sums.{layers_of, EachLayer, LowButTops, metres, partial_at, attained_in, OfEveryFile}

abbrev pub persons_in : Case → Fraction
persons_in c = passengers.persons c.hull.lifeboats c.hull.excess

-- a passenger ship's by its own rule
abbrev pub passengers_in : Case → Fraction
passengers_in c = cond (eqb c.hull.rule 1) (passengers.R2020 (c.hull.lifeboats + c.hull.excess)) (passengers.R (centimetres c.hull.length) (persons_in c))

abbrev pub required_in : Case → Fraction
required_in c = cond (eqb c.hull.kind 6) (passengers_in c) (regulation.R (centimetres c.hull.length))

abbrev pub mark_in : Case → Fraction
mark_in c = cond (eqb c.hull.kind 6) (passengers.partial_mark (passengers_in c)) (regulation.partial_mark (centimetres c.hull.length))

module _ (difference : Boundary → Boundary → Fraction → Fraction) (c : Case) (√ : Fraction) (q : Grouped c.hull c.rows) where
  -- A reaches R, and each partial index its mark
  abbrev pub ReachBySolas : Thrice (List Fraction) → Type 0
  ReachBySolas xs =
      AllFour (required_in c ≼ attained_in difference c √ q xs) (mark_in c ≼ partial_at difference c √ q (metres c).deepest xs.deepest)
      (mark_in c ≼ partial_at difference c √ q (metres c).partial xs.partial) (mark_in c ≼ partial_at difference c √ q (metres c).light xs.light)

  abbrev pub ShortIn : Fraction → List RowAt → Type 0
  ShortIn d rows = (xs : List Fraction) → NoneAbove rows xs → partial_at difference c √ q d xs ≺ mark_in c

  -- one of the four, fixed first, is below its mark for every list with no fourth power above
  abbrev pub ShortBySolas : Type 0
  ShortBySolas =
      OneOfFour ((xs : Thrice (List Fraction)) → AtEach NoneAbove (rows_of c) xs → attained_in difference c √ q xs ≺ required_in c)
      (ShortIn (metres c).deepest (rows_of c).deepest) (ShortIn (metres c).partial (rows_of c).partial)
      (ShortIn (metres c).light (rows_of c).light)

  -- a ship that is said to fail does so, where no row but a layer's last ends more than 12.5 m above the light draught
  abbrev pub FailsIn : Type 0
  FailsIn = (answer c).verdict ≡ 2 → LowButTops c c.hull.light → ShortBySolas

module _ (c : Case) (√ : Fraction) (q : Grouped c.hull c.rows) where
  -- a ship that is said to meet does so, whatever the heights of its rows, for every list with no fourth power below
  abbrev pub MeetsIn : Type 0
  MeetsIn = (answer c).verdict ≡ 1 → (xs : Thrice (List Fraction)) → AtEach NoneBelow (rows_of c) xs → ReachBySolas vm c √ q xs

  -- with plain differences, if it does not rise within a layer
  abbrev pub PlainMeetsIn : Type 0
  PlainMeetsIn = (answer c).verdict ≡ 1 → (xs : Thrice (List Fraction)) → AtEach NoneBelow (rows_of c) xs →
      AtAll (EachLayer NoneRises (layers_of q.groups)) xs → ReachBySolas plain c √ q xs

-- ---- the promises
abbrev pub MeetsBySolas : Type 0
MeetsBySolas = OfEveryFile MeetsIn

abbrev pub PlainMeetsBySolas : Type 0
PlainMeetsBySolas = OfEveryFile PlainMeetsIn

abbrev pub FailsBySolas : Type 0
FailsBySolas = OfEveryFile (FailsIn vm)

abbrev pub PlainFailsBySolas : Type 0
PlainFailsBySolas = OfEveryFile (FailsIn plain)
