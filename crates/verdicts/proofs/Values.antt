-- Document 01, "Proved values" and "One file in full": R as the ratio that an index is held to, and the verdict, computed; and what a passenger ship must reach by either rule. Assumes nothing.
use Prim.Native.Nat.{ℕ, ◌*◌}
use mathlib.Core.List.{[]}
use mathlib.Core.Path.{◌≡◌, refl}
use Rattle.laws.specs.Fraction.{Fraction, ◌less◌over◌, ◌⊛◌}
use Rattle.records.specs.declared.Ends.{Ends}
use Rattle.records.specs.declared.Hull.{Hull}
use Rattle.solas.specs.Index.{R, partial_mark, persons, passenger_R, R2020, passenger_mark}
use Rattle.numbers.specs.Ratio.{ratio_of}
use Rattle.indices.specs.Index.{trio}
use Rattle.verdicts.specs.Required.{passenger_required, required_of, mark_of}
use Rattle.verdicts.specs.Verdict.{reaches, all_reach, verdict_of}

-- ---- R, 13/33 and 31/63
pub required :
    ((ratio_of (R 8000)).num * 33 ≡ (ratio_of (R 8000)).den * 13)
    × ((ratio_of (R 10000)).num * 63 ≡ (ratio_of (R 10000)).den * 31)
unfolding R ratio_of ◌less◌over◌
required = (refl, refl)

-- ---- of a passenger ship of 25 m, 1,500 persons with a place in a lifeboat and 200 without: by the earlier rule 3/4, and of its partial indices 27/40; by that of 2020
-- it would not be taken. With 200 and 100 it is 361/500 by the rule of 2020, and of its partial indices 3249/5000; with 5,000 and 4,000 10239/11200, where an excess
-- counted twice would make it 2663/2880
abbrev ship : ℕ → ℕ → ℕ → ℕ → Hull
ship L n1 n2 rule = record { kind = 6; length = L; breadth = 0; deepest = 0; light = 0; lifeboats = n1; excess = n2; rule = rule; zones = 0; places = [] }

abbrev Is : Fraction → ℕ → ℕ → Type 0
Is f n d = (ratio_of f).num * d ≡ (ratio_of f).den * n

pub passengers : Is (required_of (ship 2500 1500 200 0)) 3 4 × Is (mark_of (ship 2500 1500 200 0)) 27 40
unfolding required_of mark_of passenger_required R persons passenger_R passenger_mark ratio_of ◌⊛◌ ◌less◌over◌
passengers = (refl, refl)

pub passengers_of_2020 : Is (required_of (ship 2500 200 100 1)) 361 500 × Is (mark_of (ship 2500 200 100 1)) 3249 5000 × Is (required_of (ship 2500 5000 4000 1)) 10239 11200
unfolding required_of mark_of passenger_required R persons passenger_R R2020 passenger_mark ratio_of ◌⊛◌ ◌less◌over◌
passengers_of_2020 = (refl, refl, refl)

-- ---- the printed file, whose A and partial indices have the same ends
abbrev printed : Ends
printed = record { lower = 0x34243ab9; upper = 0x34243abb }

pub one_file : verdict_of printed (trio printed printed printed) (ratio_of (R 9900)) (ratio_of (partial_mark 9900)) ≡ 1
unfolding R partial_mark ratio_of ◌⊛◌ ◌less◌over◌ reaches all_reach verdict_of
one_file = refl

-- ---- a passenger ship is held to its own rule: ends of 70 in 100 meet that before 2020, 1062400/1562400 of 24 m with 90 persons in lifeboats and 30 besides, and not 0.722
abbrev verdict_under : ℕ → ℕ
verdict_under rule =
    let e : Ends = record { lower = 700000000; upper = 700000000 } in
    verdict_of e (trio e e e) (ratio_of (required_of (ship 2400 90 30 rule))) (ratio_of (mark_of (ship 2400 90 30 rule)))

pub own_rule : (verdict_under 0 ≡ 1) × (verdict_under 1 ≡ 2)
unfolding required_of mark_of passenger_required persons passenger_R R2020 passenger_mark ratio_of ◌⊛◌ ◌less◌over◌ reaches all_reach verdict_of
own_rule = (refl, refl)

-- ---- at 100 m the mark, 31/63, lies between 492,063,492 and 492,063,493 billionths
abbrev verdict_between : ℕ → ℕ → ℕ
verdict_between low high =
    let e : Ends = record { lower = low; upper = high } in
    verdict_of e (trio e e e) (ratio_of (R 10000)) (ratio_of (partial_mark 10000))

pub at_the_mark : (verdict_between 492063492 492063493 ≡ 3) × (verdict_between 492063493 492063493 ≡ 1) × (verdict_between 492063492 492063492 ≡ 2)
unfolding R partial_mark ratio_of ◌⊛◌ ◌less◌over◌ reaches all_reach verdict_of
at_the_mark = (refl, refl, refl)
