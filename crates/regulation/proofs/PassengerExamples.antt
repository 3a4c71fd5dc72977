-- Figures of passenger ships by the regulation's own words, and by document 02's forms, which must not differ: R, s-mom, and an s whose factors are fractions.
-- Assumes nothing.
use mathlib.Core.Bool.{true}
use mathlib.Core.List.Memᴰ
use mathlib.Core.List.{[], ◌∷◌}
use mathlib.Core.Path.{refl}
use native.Mathlib.Omega.{arith}
use lib.Dec.{leb→le}
use lib.IntN.{pos}
use Rattle.laws.specs.Fraction.{Fraction, ◌less◌over◌, ◌over◌, whole, ◌≈◌, ◌≼◌, ◌≼?◌, lesser, ◌⊹◌, ◌⊝◌, ◌⊛◌, ◌⊘◌}
use Rattle.solas.specs.Survival.{unless_immersed}
use Rattle.solas.specs.Passengers.{k_of_passengers, final⁴, intermediate⁴, s_mom, together⁴}
use Rattle.solas.specs.Index.{persons, passenger_R, R2020, passenger_mark}
use Rattle.regulation.specs.RegulationIndex.{millimetres, centimetres, hundredths, held, fourth, Final, Least}
use Rattle.regulation.specs.RegulationPassengers as regulation
use Rattle.regulation.specs.RegulationPassengers.{passenger, smom, Intermediate}
use Rattle.regulation.specs.OfSolasPassengers.{stage_of, PassengerFactorOf}
use Rattle.regulation.proofs.Examples.{fractions}
use Rattle.regulation.proofs.LeastExamples.{in_order, air_pipe, pipe_critical, pipe_dry, of_two}

-- 25 m long, with 1,900 persons counted, of whom 200 are in excess of the lifeboats and count twice
pub required : (regulation.R (centimetres 2500) (regulation.persons 1500 200) ≈ 3 over 4) × (passenger_R 2500 (persons 1500 200) ≈ 3 over 4)
unfolding regulation.R regulation.persons persons passenger_R ◌⊹◌ ◌⊝◌ ◌⊛◌ ◌⊘◌ ◌less◌over◌
required = (record { cross = refl }, record { cross = refl })

-- by the rule of 2020: 399 persons and 400, 1,350, and 6,001
pub required_of_2020 : (regulation.R2020 399 ≈ 722 over 1000) × (regulation.R2020 400 ≈ 27363817 over 37900000) × (regulation.R2020 1350 ≈ 32113817 over 37900000)
    × (regulation.R2020 6001 ≈ 7932769 over 8800800)
unfolding regulation.R2020 ◌⊹◌ ◌⊝◌ ◌⊛◌ ◌⊘◌ ◌less◌over◌
required_of_2020 = (record { cross = refl }, record { cross = refl }, record { cross = refl }, record { cross = refl })

-- what its partial indices must reach: nine tenths of 0.722
pub mark_of_2020 : (regulation.partial_mark (regulation.R2020 399) ≈ 6498 over 10000) × (passenger_mark (R2020 399) ≈ 6498 over 10000)
unfolding regulation.R2020 regulation.partial_mark R2020 passenger_mark ◌⊛◌ ◌less◌over◌
mark_of_2020 = (record { cross = refl }, record { cross = refl })

-- s-mom of 5 m of lever, less than one by a little; of a moment that is more than borne; and of a lever of 39 mm
pub moments : (smom (millimetres 5000) (whole 299999) (whole 1488000) ≈ 1487995040 over 1488000000) × (smom (millimetres 5000) (whole 300000) (whole 1) ≈ whole 1)
    × (smom (millimetres 39) (whole 1000) (whole 1) ≈ whole 0)
unfolding smom held ◌≼?◌ ◌⊝◌ ◌⊛◌ ◌⊘◌ ◌less◌over◌
moments = (record { cross = refl }, record { cross = refl }, record { cross = refl })

-- an intermediate stage of 8 mm, 5.67 degrees and a heel of just 15 degrees: 3/5
pub stage_survives : Intermediate fractions (stage_of 8 567 1500) (3 over 5)
unfolding lesser ◌≼?◌ ◌⊛◌ ◌⊘◌ ◌less◌over◌
stage_survives = record { lost = λ l. absurd (omega (arith, l.cross)); fourth_root = λ l. record { cross = refl } }

-- one that heels a hundredth of a degree more: nothing
pub stage_lost : Intermediate fractions (stage_of 8 567 1501) (whole 0)
unfolding ◌less◌over◌
stage_lost = record { lost = λ l. record { cross = refl }; fourth_root = λ l. absurd (omega (arith, l.cross)) }

-- a final stage that is at the caps of a ro-ro case and heels by 13 degrees: 1/2
pub final_survives : Final fractions (passenger true) (millimetres 200) (hundredths 2000) (hundredths 1300) (1 over 2)
unfolding lesser ◌≼?◌ ◌⊝◌ ◌⊛◌ ◌⊘◌ ◌less◌over◌
final_survives = record {
  K = 1 over 2;
  root = whole 1;
  upright = λ p. absurd (omega (arith, p.cross));
  lost = λ p. absurd (omega (arith, p.cross));
  heeled = λ p q. record { cross = refl };
  fourth_root = record { cross = refl };
  product = record { cross = refl };
}

-- with half of the heeling moment borne, 1/2 by 1/2 is the lesser
abbrev with_moment : Fraction
with_moment = (1 over 2) ⊛ smom (millimetres 200) (whole 1000) (whole 320)

pub quarter_least : Least fractions in_order ((3 over 5) ∷ with_moment ∷ []) (1 over 4)
unfolding smom held ◌≼?◌ ◌⊝◌ ◌⊛◌ ◌⊘◌ ◌less◌over◌
quarter_least = record {
  not_negative = of_two (λ x. whole 0 ≼ x) (record { cross = leb→le _ _ tt }) (record { cross = leb→le _ _ tt });
  one = with_moment;
  among = Memᴰ.tail (Memᴰ.head refl);
  that = record { cross = refl };
  least = of_two (λ x. 1 over 4 ≼ x) (record { cross = leb→le _ _ tt }) (record { cross = leb→le _ _ tt });
}

pub quarter : PassengerFactorOf fractions in_order 200 2000 1300 (pos 0) 8 567 1500 1 1000 320 (1 over 4)
quarter = record {
  openings = air_pipe ∷ [];
  critical = pipe_critical;
  taken = record {
    immersed = λ x m l. absurd (pipe_dry x m l);
    dry = λ d. record { s_intermediate = 3 over 5; s_final = 1 over 2; of_intermediate = stage_survives; of_final = final_survives; minimum = quarter_least };
  };
}

-- so s⁴ is 1/256, and by document 02's forms too
pub quarter_by_figures : (fourth fractions (1 over 4) ≈ 1 over 256)
    × (unless_immersed (pos 0) (together⁴ (intermediate⁴ 8 567 1500) (final⁴ 1 200 2000 1300) (s_mom 200 1000 320)) ≈ 1 over 256)
unfolding unless_immersed together⁴ intermediate⁴ final⁴ k_of_passengers s_mom lesser ◌≼?◌ ◌⊛◌ ◌less◌over◌
quarter_by_figures = (record { cross = refl }, record { cross = refl })
