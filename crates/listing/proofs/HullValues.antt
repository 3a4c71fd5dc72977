-- R, marks and groups' shares as a host gets them: a cargo ship of 99 m, a passenger ship under each rule, and the small ship of docs/ONE-HOLE.md. Assumes nothing.
use Prim.Native.Nat.{ℕ}
use mathlib.Core.Path.{◌≡◌, refl}
use mathlib.Core.List.{[], ◌∷◌}
use Rattle.laws.specs.Fraction.{◌less◌over◌, ◌⊹◌, ◌⊛◌}
use Rattle.laws.specs.Rounding.{ceil}
use Rattle.records.specs.declared.Hull.{Hull}
use Rattle.numbers.specs.Ratio.{ratio_of}
use Rattle.numbers.specs.Figures.{billionths_of, portion_of, halves_of}
use Rattle.solas.specs.Span.{touch, p, P}
use Rattle.solas.specs.Penetration.{c, d, G1, G3}
use Rattle.solas.specs.Count.{added, taken}
use Rattle.solas.specs.Index.{R, partial_mark, persons, passenger_R, R2020, passenger_mark}
use Rattle.spans.specs.Rounded.{ends_of}
use Rattle.spans.specs.Span.{p_ends, PEnds}
use Rattle.layers.specs.Layer.{G1Ends, G3Ends}
use Rattle.penetration.specs.Figures.{plus, minus}
use Rattle.penetration.specs.Penetration.{part_ends, GEnds, mixed, QEnds}
use Rattle.chances.specs.Share.{within_ends, sums_of, lowest, highest, row_of, row_ends}
use Rattle.verdicts.specs.Required.{passenger_required, required_of, mark_of}
use Rattle.listing.specs.Hull.{required_numbers, group_ends, groups_at, groups_from, group_numbers}

-- ---- R and the mark

-- 99 m long and 16 m broad, zones of 30, 30 and 39 m
abbrev pub small : Hull
small = record { kind = 1; length = 9900; breadth = 1600; deepest = 6000; light = 4000; lifeboats = 0; excess = 0; rule = 0; zones = 3; places = 0 ∷ 3000 ∷ 6000 ∷ 9900 ∷ [] }

-- 25 m long, with so many persons in lifeboats and in excess of them, under a rule
abbrev pub ferry : ℕ → ℕ → ℕ → Hull
ferry n1 n2 rule = record { kind = 6; length = 2500; breadth = 800; deepest = 3000; light = 2000; lifeboats = n1; excess = n2; rule = rule; zones = 1; places = 0 ∷ 2500 ∷ [] }

-- 9900 · 12300 of 128000000 more, and half of it
pub of_a_cargo_ship : required_numbers small ≡ 121770000 ∷ 249770000 ∷ 121770000 ∷ 499540000 ∷ []
unfolding required_numbers ratio_of required_of mark_of R partial_mark ◌⊛◌ ◌less◌over◌
of_a_cargo_ship = refl

-- 3/4 and 27/40; 361/500 and 3249/5000
pub of_passenger_ships : (required_numbers (ferry 1500 200 0) ≡ 1500000 ∷ 2000000 ∷ 13500000 ∷ 20000000 ∷ []) × (required_numbers (ferry 200 100 1) ≡ 722 ∷ 1000 ∷ 6498 ∷ 10000 ∷ [])
unfolding required_numbers ratio_of required_of mark_of passenger_required persons passenger_R R2020 passenger_mark ◌⊛◌ ◌less◌over◌
of_passenger_ships = (refl, refl)

-- ---- shares: of zone 1, 1 and 2, all three, 2, 2 and 3, and 3, 80, 20, 0, 70, 20 and 107 of 297
pub of_the_groups : group_numbers small ≡
    269360269 ∷ 269360270 ∷ 67340066 ∷ 67340069 ∷ 0 ∷ 1 ∷ 235690235 ∷ 235690236 ∷ 67340066 ∷ 67340069 ∷ 360269360 ∷ 360269361 ∷ []
unfolding group_numbers groups_from groups_at group_ends row_ends row_of lowest highest sums_of within_ends added taken QEnds mixed c d PEnds GEnds p_ends part_ends G1Ends G3Ends minus plus ends_of billionths_of portion_of halves_of ceil touch P p G1 G3 ◌⊹◌ ◌⊛◌ ◌less◌over◌
of_the_groups = refl
