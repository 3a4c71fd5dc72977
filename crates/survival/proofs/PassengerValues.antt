-- A passenger ship's survivals, worked out: each of its three factors where it alone decides, at its edge and beyond. Assumes nothing.
use Prim.Native.Nat.{ℕ}
use mathlib.Core.Bool.{Bool, true, false}
use mathlib.Core.List.{[], ◌∷◌}
use mathlib.Core.Path.{◌≡◌, refl}
use lib.IntN.{ℤ, pos, negsuc}
use Rattle.laws.specs.Fraction.{◌≼?◌, lesser, ◌less◌over◌, ◌⊛◌}
use Rattle.laws.specs.Rounding.{ceil}
use Rattle.roots.specs.Root.{with_digits, root_down, root_up}
use Rattle.records.specs.declared.Finding.{Finding}
use Rattle.records.specs.declared.Flooding.{Flooding}
use Rattle.records.specs.declared.Survival.{Survival}
use Rattle.solas.specs.Survival.{unless_immersed}
use Rattle.solas.specs.Passengers.{k_of_passengers, final⁴, intermediate⁴, s_mom, together⁴}
use Rattle.numbers.specs.Ratio.{ratio_of}
use Rattle.survival.specs.Marks.{passenger_marks}
use Rattle.survival.specs.Survival.{scaled_of, rounded_of, passenger_survival, survival_at, survivals_of}

abbrev found : ℕ → ℕ → ℕ → ℤ → Finding
found lever range heel opening = record { lever = lever; range = range; heel = heel; opening = opening; given = 0 }

-- displacement and heeling moment; an intermediate stage's lever, range and heel; the ro-ro mark
abbrev flooding : ℕ → ℕ → ℕ → ℕ → ℕ → ℕ → Flooding
flooding displacement moment lever range heel roro = record { displacement = displacement; moment = moment; lever = lever; range = range; heel = heel; roro = roro }

-- light moments, and an intermediate stage that takes nothing
abbrev calm : ℕ → Flooding
calm roro = flooding 300000 1 50 700 1500 roro

abbrev s : ℕ → ℕ → Bool → Bool → Bool → Bool → Survival
s bottom top lever range heel opening = record { bottom = bottom; top = top; marks = record { lever = lever; range = range; heel = heel; opening = opening } }

-- the moments: all but borne, with a lever of 5 m and no mark; borne in full; by half, with the lever at its cap and with s-final below one; in full with
-- s-final below one; not at all, at 40 mm
pub moments :
    (passenger_survival (found 5000 9000 0 (pos 0)) (flooding 299999 1488000 50 700 0 0) ≡ s 9999 10000 false false false false)
    × (passenger_survival (found 5000 9000 0 (pos 0)) (flooding 300000 1488000 50 700 0 0) ≡ s 10000 10000 false false false false)
    × (passenger_survival (found 120 1600 0 (pos 0)) (flooding 1000 160 50 700 0 0) ≡ s 5000 5000 false false false false)
    × (passenger_survival (found 60 800 0 (pos 0)) (flooding 1000 40 50 700 0 0) ≡ s 3535 3536 true true false false)
    × (passenger_survival (found 60 800 0 (pos 0)) (flooding 1000 20 50 700 0 0) ≡ s 7071 7072 true true false false)
    × (passenger_survival (found 40 1600 0 (pos 0)) (flooding 300000 1 50 700 0 0) ≡ s 0 0 true false false false)
unfolding passenger_survival passenger_marks unless_immersed together⁴ lesser ◌≼?◌ final⁴ k_of_passengers intermediate⁴ s_mom ratio_of scaled_of rounded_of root_down root_up with_digits ceil ◌⊛◌ ◌less◌over◌
moments = (refl, refl, refl, refl, refl, refl)

-- the intermediate stage: where it is the worse one, and where it is not; a millimetre or a hundredth of a degree short of a cap; 15 degrees still count, and
-- no more
pub stages :
    (passenger_survival (found 120 1600 0 (pos 0)) (flooding 300000 1 25 350 0 0) ≡ s 7071 7072 false false false false)
    × (passenger_survival (found 60 400 0 (pos 0)) (flooding 300000 1 25 350 0 0) ≡ s 5946 5947 true true false false)
    × (passenger_survival (found 120 1600 0 (pos 0)) (flooding 300000 1 49 700 0 0) ≡ s 9949 9950 false false false false)
    × (passenger_survival (found 120 1600 0 (pos 0)) (flooding 300000 1 50 699 0 0) ≡ s 9996 9997 false false false false)
    × (passenger_survival (found 120 1600 0 (pos 0)) (flooding 300000 1 25 350 1500 0) ≡ s 7071 7072 false false false false)
    × (passenger_survival (found 120 1600 0 (pos 0)) (flooding 300000 1 25 350 1501 0) ≡ s 0 0 false false false false)
unfolding passenger_survival passenger_marks unless_immersed together⁴ lesser ◌≼?◌ final⁴ k_of_passengers intermediate⁴ s_mom ratio_of scaled_of rounded_of root_down root_up with_digits ceil ◌⊛◌ ◌less◌over◌
stages = (refl, refl, refl, refl, refl, refl)

-- the final stage: at its caps and at 7 degrees, a step from each, at 11 and at 15 degrees; a millimetre under the waterline; with the ro-ro mark
pub finals :
    (passenger_survival (found 120 1600 700 (pos 0)) (calm 0) ≡ s 10000 10000 false false false false)
    × (passenger_survival (found 119 1600 700 (pos 0)) (calm 0) ≡ s 9979 9980 true false false false)
    × (passenger_survival (found 120 1599 700 (pos 0)) (calm 0) ≡ s 9998 9999 false true false false)
    × (passenger_survival (found 120 1600 701 (pos 0)) (calm 0) ≡ s 9993 9994 false false true false)
    × (passenger_survival (found 120 1600 1100 (pos 0)) (calm 0) ≡ s 7071 7072 false false true false)
    × (passenger_survival (found 120 1600 1500 (pos 0)) (calm 0) ≡ s 0 0 false false true false)
    × (passenger_survival (found 120 1600 700 (negsuc 0)) (calm 0) ≡ s 0 0 false false false true)
    × (passenger_survival (found 200 2000 700 (pos 0)) (calm 1) ≡ s 10000 10000 false false false false)
    × (passenger_survival (found 160 2000 700 (pos 0)) (calm 1) ≡ s 9457 9458 true false false false)
    × (passenger_survival (found 200 1999 700 (pos 0)) (calm 1) ≡ s 9998 9999 false true false false)
unfolding passenger_survival passenger_marks unless_immersed together⁴ lesser ◌≼?◌ final⁴ k_of_passengers intermediate⁴ s_mom ratio_of scaled_of rounded_of root_down root_up with_digits ceil ◌⊛◌ ◌less◌over◌
finals = (refl, refl, refl, refl, refl, refl, refl, refl, refl, refl)

-- a row: another factor decides at each draught, and each has its own mark
pub row :
    survivals_of 7 (record {
      findings = found 120 1600 0 (pos 0) ∷ found 120 1600 1100 (pos 0) ∷ found 160 2000 0 (pos 0) ∷ [];
      floodings = flooding 1000 160 50 700 0 0 ∷ flooding 300000 1 50 700 0 0 ∷ flooding 300000 1 50 700 0 1 ∷ [];
    })
    ≡ s 5000 5000 false false false false ∷ s 7071 7072 false false true false ∷ s 9457 9458 true false false false ∷ []
unfolding survivals_of survival_at passenger_survival passenger_marks unless_immersed together⁴ lesser ◌≼?◌ final⁴ k_of_passengers intermediate⁴ s_mom ratio_of scaled_of rounded_of root_down root_up with_digits ceil ◌⊛◌ ◌less◌over◌
row = refl
