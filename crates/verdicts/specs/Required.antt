-- What A and each partial index of a ship must reach, by its hull: a cargo ship's R and half of it, a passenger ship's R, by the rule that it is under, and nine tenths of it. Assumes nothing.
use Rattle.std.specs.Prelude.{◌+◌, ◌^◌, ◌≤◌, cond, ◌≡◌, eqb}
use Rattle.laws.specs.Fraction.{Fraction}
use Rattle.records.specs.declared.Hull.{Hull}
use Rattle.solas.specs.Index.{R, partial_mark, persons, passenger_R, NoLogarithm, R2020, passenger_mark}

-- R of a passenger ship by its own rule
unfoldable pub passenger_required : Hull → Fraction
passenger_required h =
    cond (eqb h.rule 1) (R2020 (h.lifeboats + h.excess)) (passenger_R h.length (persons h.lifeboats h.excess))

unfoldable pub required_of : Hull → Fraction
required_of h = cond (eqb h.kind 6) (passenger_required h) (R h.length)

unfoldable pub mark_of : Hull → Fraction
mark_of h = cond (eqb h.kind 6) (passenger_mark (passenger_required h)) (partial_mark h.length)

-- a length and persons that 64 bits hold times what the verdict compares, and by the rule of 2020 persons of whom it has no logarithm
pub record Sized (h : Hull) : Type 0 where
  pub length : h.length ≤ 10 ^ 6
  pub lifeboats : h.lifeboats ≤ 10 ^ 4
  pub excess : h.excess ≤ 10 ^ 4
  pub persons : h.rule ≡ 1 → NoLogarithm (h.lifeboats + h.excess)
