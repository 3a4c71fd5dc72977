-- What is promised of a passenger ship's survival (document 02, "Passenger ships"): its marks, when it is one, what its three factors do to it. Assumes nothing.
use Rattle.std.specs.Prelude.{ℕ, ◌^◌, ◌≤◌, ◌<◌, min, true, ◌↔◌, ◌≡◌, pos, get_or, ◌≤ℤ◌, ◌<ℤ◌}
use Rattle.laws.specs.Fraction.{Fraction, whole, ◌≈◌, ◌⊛◌}
use Rattle.records.specs.declared.Finding.{Finding}
use Rattle.records.specs.declared.Flooding.{Flooding}
use Rattle.records.specs.Results.{Results}
use Rattle.solas.specs.Passengers.{lever_cap, range_cap, final⁴, intermediate⁴, s_mom}
use Rattle.survival.specs.Marks.{unmarked}
use Rattle.survival.specs.Survival.{root, given, ends, fourth_power, nothing, no_survival, still, passenger_fourth, passenger_survival, factors_of, survivals_of}

-- s-int⁴, s-final⁴ and s-mom of a result
abbrev pub int_of : Flooding → Fraction
int_of w = intermediate⁴ w.lever w.range w.heel

abbrev pub final_of : Finding → Flooding → Fraction
final_of f w = final⁴ w.roro f.lever f.range f.heel

abbrev pub mom_of : Finding → Flooding → Fraction
mom_of f w = s_mom f.lever w.displacement w.moment

pub record PassengerTelling : Type 0 where
  -- each mark its own number, by the final stage's caps and heel limit
  pub lever : (f : Finding) (w : Flooding) → ((passenger_survival f w).marks.lever ≡ true) ↔ (f.lever < lever_cap w.roro)
  pub range : (f : Finding) (w : Flooding) → ((passenger_survival f w).marks.range ≡ true) ↔ (f.range < range_cap w.roro)
  pub heel : (f : Finding) (w : Flooding) → ((passenger_survival f w).marks.heel ≡ true) ↔ (700 < f.heel)
  pub opening : (f : Finding) (w : Flooding) → ((passenger_survival f w).marks.opening ≡ true) ↔ (f.opening <ℤ pos 0)
  -- no mark means that the final stage takes nothing: its s⁴ is one, and no opening is immersed
  pub unmarked_final : (f : Finding) (w : Flooding) → ((passenger_survival f w).marks ≡ unmarked) ↔ ((final_of f w ≈ whole 1) × (pos 0 ≤ℤ f.opening))
  -- the bottom is one exactly when nothing is marked, s-int is one and s-mom is one; and so is the exact survival
  pub one : (f : Finding) (w : Flooding) → 1 ≤ w.moment →
      ((passenger_survival f w).bottom ≡ 10 ^ 4) ↔ (((passenger_survival f w).marks ≡ unmarked) × (int_of w ≈ whole 1) × (mom_of f w ≈ whole 1))
  pub exact : (f : Finding) (w : Flooding) → 1 ≤ w.moment →
      (passenger_fourth f w ≈ whole 1) ↔ (((passenger_survival f w).marks ≡ unmarked) × (int_of w ≈ whole 1) × (mom_of f w ≈ whole 1))
  -- "Below zero the survival is zero"
  pub lost : (f : Finding) (w : Flooding) → f.opening <ℤ pos 0 → ((passenger_survival f w).bottom ≡ 0) × ((passenger_survival f w).top ≡ 0) × (passenger_fourth f w ≈ whole 0)

-- "s is the lesser of s-intermediate and s-final times s-mom": by bottom, by top and exactly, where no opening is immersed
pub record LesserOfBoth (f : Finding) (w : Flooding) : Type 0 where
  pub bottom : (passenger_survival f w).bottom ≡ min (ends (root (int_of w))).bottom (ends (root (final_of f w ⊛ fourth_power (mom_of f w)))).bottom
  pub top : (passenger_survival f w).top ≡ min (ends (root (int_of w))).top (ends (root (final_of f w ⊛ fourth_power (mom_of f w)))).top

abbrev pub PassengerLesser : Type 0
PassengerLesser = (f : Finding) (w : Flooding) → 1 ≤ w.moment → pos 0 ≤ℤ f.opening → LesserOfBoth f w

-- ---- of a row's results, at each of the three draughts j
pub record PassengerRow (rs : Results) (j : ℕ) : Type 0 where
  pub survival : get_or (survivals_of 7 rs) j no_survival ≡ passenger_survival (get_or rs.findings j nothing) (get_or rs.floodings j still)
  pub exact : get_or (factors_of 7 rs) j (given 0) ≡ root (passenger_fourth (get_or rs.findings j nothing) (get_or rs.floodings j still))

abbrev pub PassengerRows : Type 0
PassengerRows = (rs : Results) (j : ℕ) → j < 3 → PassengerRow rs j
