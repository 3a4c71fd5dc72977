-- What "those of SOLAS" means of passenger ships: the regulation's formulas of s and R come to document 02's forms. Assumes nothing.
use Rattle.std.specs.Prelude.{ℕ, ◌<◌, List, eqb, ℤ}
use Rattle.laws.specs.Fraction.{Fraction, whole, ◌≈◌}
use Rattle.solas.specs.Survival.{unless_immersed}
use Rattle.solas.specs.Passengers.{final⁴, intermediate⁴, s_mom, together⁴}
use Rattle.solas.specs.Index.{persons, passenger_R, NoLogarithm, R2020, passenger_mark}
use Rattle.solas.specs.Rules.{Compared}
use Rattle.regulation.specs.RegulationIndex.{millimetres, centimetres, hundredths, Opening, Numbers, fourth, Order}
use Rattle.regulation.specs.RegulationPassengers as regulation
use Rattle.regulation.specs.RegulationPassengers.{Stage, Damage, TakenOfPassengers}
use Rattle.regulation.specs.OfSolasIndex.{Critical}

-- ---- the required index, and what each partial index must reach
abbrev pub PassengerRequiredIs02's : Type 0
PassengerRequiredIs02's = (L n1 n2 : ℕ) → regulation.R (centimetres L) (regulation.persons n1 n2) ≈ passenger_R L (persons n1 n2)

abbrev pub PassengerMarkIs02's : Type 0
PassengerMarkIs02's = (r r' : Fraction) → r ≈ r' → regulation.partial_mark r ≈ passenger_mark r'

abbrev pub RuleOf2020Is02's : Type 0
RuleOf2020Is02's = (n : ℕ) → NoLogarithm n → regulation.R2020 n ≈ R2020 n

-- ---- and the two rules beside each other, in their own letters
abbrev pub RulesComparedInLetters : Type 0
RulesComparedInLetters = Compared (λ L n1 n2. regulation.R (centimetres L) (regulation.persons n1 n2)) regulation.R2020

-- ---- survival

-- a stage of a lever g, a range t and a heel e
abbrev pub stage_of : ℕ → ℕ → ℕ → Stage
stage_of g t e = record { GZmax = millimetres g; Range = hundredths t; θe = hundredths e }

-- a damage with an intermediate stage, a final one, a ro-ro mark, Δ tonnes and M tonne-metres
abbrev pub damage_of : Stage → Stage → ℕ → ℕ → ℕ → Damage
damage_of intermediate final roro Δ M = record { intermediate = intermediate; final = final; involves_ro_ro = eqb roro 1; Δ = whole Δ; Mheel = whole M }

-- s is the factor of a final stage g, t, e, whose critical opening is o above the waterline, and an intermediate one g', t', e'
pub record PassengerFactorOf (N : Numbers) (O : Order N) (g t e : ℕ) (o : ℤ) (g' t' e' roro Δ M : ℕ) (s : N.Number) : Type 0 where
  pub openings : List Opening
  pub critical : Critical openings o
  pub taken : TakenOfPassengers N O (damage_of (stage_of g' t' e') (stage_of g t e) roro Δ M) openings s

-- among whatever numbers, in order, its roots are found
abbrev pub PassengerSurvivalIs02's : Type 1
PassengerSurvivalIs02's = (N : Numbers) (O : Order N) (g t e : ℕ) (o : ℤ) (g' t' e' roro Δ M : ℕ) (s : N.Number) → 0 < M → PassengerFactorOf N O g t e o g' t' e' roro Δ M s →
    N.◌≐◌ (fourth N s) (N.fraction (unless_immersed o (together⁴ (intermediate⁴ g' t' e') (final⁴ roro g t e) (s_mom g Δ M))))
