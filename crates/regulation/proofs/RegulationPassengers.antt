-- A passenger ship's survival is that of the regulation: document 02's s⁴ is the fourth power of whatever 002, 2.7.1.1, gives for s, and nothing where 2.7.6.2 takes
-- s as zero; and R and the mark of a partial index are those of 003, 10.2, and of the resolution of 2020. Assumes nothing.
use Prim.Native.Nat.{ℕ, ◌+◌, ◌-◌, ◌*◌, ◌<◌, min}
use mathlib.Core.Bool.{Bool, true, false, cond}
use mathlib.Core.List.{[], ◌∷◌}
use native.Mathlib.Nat.{mul_comm, mul-sub}
use native.Mathlib.Omega.{arith}
use lib.Dec.{eqb, leb, ltb, lit<}
use lib.IntN.{pos}
use borrow.Author.Tests.{lt-ltb, le-ltb}
use Rattle.laws.specs.Fraction.{Fraction, ◌over◌, whole, Is, ◌≈◌, ◌⊛◌}
use Rattle.laws.specs.Polynomial.{X, C, ◌:+◌, ◌:*◌}
use Rattle.laws.proofs.Choice.{split}
use Rattle.laws.proofs.Fraction.{is_over, is_nothing, is_written, is_⊝, is_⊛, is_⊘, same, below, strictly_below, ≈_refl, ≈_sym, ⊛-≈}
use Rattle.laws.proofs.FractionCompare.{cond_≈}
use Rattle.laws.proofs.FractionTerm.{number, ratio, variable, polynomial, ◌⊹ᵗ◌, ◌⊝ᵗ◌, ◌⊛ᵗ◌, also, agree, quotient, quotient_by}
use Rattle.solas.specs.Survival.{unless_immersed}
use Rattle.solas.specs.Passengers.{lever_cap, range_cap, final⁴, intermediate⁴, s_mom, together⁴}
use Rattle.solas.specs.Index.{persons, R2020, passenger_mark}
use Rattle.solas.proofs.Required.{is_passenger_R}
use Rattle.solas.proofs.Rules.{rules_compared, compared_alike}
use Rattle.solas.proofs.Passengers.{lever_cap_positive, range_cap_positive, is_final⁴, is_intermediate⁴, is_s_mom}
use Rattle.regulation.specs.RegulationIndex.{millimetres, hundredths, Numbers, fourth, Final, Order}
use Rattle.regulation.specs.RegulationPassengers as regulation
use Rattle.regulation.specs.RegulationPassengers.{passenger, smom, Intermediate, Minimum}
use Rattle.regulation.specs.OfSolasPassengers.{stage_of, damage_of, PassengerSurvivalIs02's, PassengerRequiredIs02's, PassengerMarkIs02's, RuleOf2020Is02's, RulesComparedInLetters}
use Rattle.regulation.proofs.Units.{is_millimetres, is_centimetres, is_hundredths, metres_in_millimetres, degrees_in_hundredths}
use Rattle.regulation.proofs.RegulationHeights.{is_held}
use Rattle.regulation.proofs.RegulationSurvival.{fourth_product, fourth_fraction, fourth_nothing, is_under_root, InUnits, final_fourth, unless_immersed_lem}
use Rattle.regulation.proofs.RegulationLeast.{least_fourth}
use Rattle.regulation.proofs.Examples.{fractions}
use Rattle.regulation.proofs.LeastExamples.{in_order}
-- checked first, so that letters that give another figure are refused there
use Rattle.regulation.proofs.PassengerExamples.{quarter}

-- ---- 2.7.3, by the ro-ro mark
limits_in_units : (roro : ℕ) → InUnits (passenger (eqb roro 1)) (lever_cap roro) (range_cap roro) 700 800
limits_in_units roro = record {
  lever = (caps (eqb roro 1)).0;
  range = (caps (eqb roro 1)).1;
  lesser_heel = degrees_in_hundredths 7;
  greater_heel = degrees_in_hundredths 15;
  some_lever = lever_cap_positive roro;
  some_range = range_cap_positive roro;
  some_heels = lit< tt;
}
  where
    caps : (t : Bool) → Is (passenger t).TGZmax (cond t 200 120) 0 1000 × Is (passenger t).TRange (cond t 2000 1600) 0 100
    caps true = (metres_in_millimetres 20, degrees_in_hundredths 20)
    caps false = (metres_in_millimetres 12, degrees_in_hundredths 16)

-- ---- 2.7.4
module _ (g Δ : ℕ) {M : ℕ} (p : 0 < M) where
  is_smom : Is (smom (millimetres g) (whole Δ) (whole M)) (min ((g - 40) * Δ) (1000 * M)) 0 (1000 * M)
  unfolding smom
  is_smom =
      let lever = is_⊝ (is_millimetres g) (metres_in_millimetres 4) in
      let quotient = is_⊘ p (is_⊛ lever (is_over Δ {d = 1} (lit< tt))) (is_over M {d = 1} (lit< tt)) in
      rw (mul_comm (g - 40) Δ, mul-sub Δ g 40) (is_held (omega arith) (is_written {a' = Δ * g} {b' = Δ * 40} {d' = 1000 * M} quotient (omega arith) (omega arith) (omega arith)))

  moment : smom (millimetres g) (whole Δ) (whole M) ≈ s_mom g Δ M
  moment = same (omega arith) is_smom (is_s_mom g Δ p)

module _ (N : Numbers) where
  infix 4 ◌≐◌
  infixl 7 ◌·◌
  open N use {Number, ◌≐◌, ◌·◌, fraction, same_sym, same_trans, same_product, same_fraction, fraction_product}

  -- ---- 2.7.2
  intermediate_fourth : (g t e : ℕ) {s : Number} → Intermediate N (stage_of g t e) s → fourth N s ≐ fraction (intermediate⁴ g t e)
  intermediate_fourth g t e i =
      let limit = degrees_in_hundredths 15 in
      let is-root = is_under_root {G = 50} {T = 700} (lit< tt) (lit< tt) (metres_in_millimetres 5) (degrees_in_hundredths 7) g t in
      split e 1500
      (λ l. same_trans (i.fourth_root (below (lit< tt) (is_hundredths e) limit (omega arith))) (same_fraction (same (lit< tt) is-root (rw (le-ltb 1500 e l) at (is_intermediate⁴ g t e)))))
      (λ l. same_trans (fourth_nothing N (i.lost (strictly_below limit (is_hundredths e) (omega arith))))
      (same_fraction (same (lit< tt) (is_nothing (lit< tt)) (rw (lt-ltb 1500 e l) at (is_intermediate⁴ g t e)))))

  -- ---- 2.7.1.1
  module _ (g t e roro Δ : ℕ) {M : ℕ} (p : 0 < M) where
    abbrev s_mom⁴ : Fraction
    s_mom⁴ = s_mom g Δ M ⊛ s_mom g Δ M ⊛ (s_mom g Δ M ⊛ s_mom g Δ M)

    with_moment_lem : {s : Number} → Final N (passenger (eqb roro 1)) (millimetres g) (hundredths t) (hundredths e) s →
        fourth N (s · fraction (smom (millimetres g) (whole Δ) (whole M))) ≐ fraction (final⁴ roro g t e ⊛ s_mom⁴)
    with_moment_lem {s} f =
        let factors = same_product (final_fourth N (limits_in_units roro) g t e f (is_final⁴ roro g t e)) (fourth_fraction N (same_fraction (moment g Δ p))) in
        same_trans (fourth_product N s (fraction (smom (millimetres g) (whole Δ) (whole M)))) (same_trans factors (same_sym (fraction_product (final⁴ roro g t e) s_mom⁴)))

    minimum_fourth : (O : Order N) (g' t' e' : ℕ) {s : Number} → Minimum N O (damage_of (stage_of g' t' e') (stage_of g t e) roro Δ M) s →
        fourth N s ≐ fraction (together⁴ (intermediate⁴ g' t' e') (final⁴ roro g t e) (s_mom g Δ M))
    unfolding together⁴
    minimum_fourth O g' t' e' k = least_fourth N O (intermediate_fourth g' t' e' k.of_intermediate) (with_moment_lem k.of_final) k.minimum

pub passenger_survival_is_02's : PassengerSurvivalIs02's
passenger_survival_is_02's N O g t e o g' t' e' roro Δ M s p f = unless_immersed_lem N o f.critical f.taken (minimum_fourth N g t e roro Δ p O g' t' e')

-- an s of a quarter, by the theorem
pub quarter_by_theorem : fourth fractions (1 over 4) ≈ unless_immersed (pos 0) (together⁴ (intermediate⁴ 8 567 1500) (final⁴ 1 200 2000 1300) (s_mom 200 1000 320))
quarter_by_theorem = passenger_survival_is_02's fractions in_order 200 2000 1300 (pos 0) 8 567 1500 1 1000 320 (1 over 4) (lit< tt) quarter

-- ---- 003, 10.2
pub passenger_required_is_02's : PassengerRequiredIs02's
unfolding regulation.R regulation.persons persons
passenger_required_is_02's L n1 n2 =
    let length = ratio {ρ = L ∷ n1 ∷ n2 ∷ []} (X 0) (C 100) (lit< tt) (is_centimetres L) in
    let counted = variable 1 ⊹ᵗ number 2 1 tt ⊛ᵗ variable 2 in
    let d = X 0 :+ C 250 :* (X 1 :+ C 2 :* X 2) :+ C 1522500 in
    let r = number 1 1 tt ⊝ᵗ quotient (number 5000 1 tt) (length ⊹ᵗ number 25 10 tt ⊛ᵗ counted ⊹ᵗ number 15225 1 tt) d (C 100) (omega arith) tt in
    same (omega arith) (also r (X 0 :+ C 250 :* (X 1 :+ C 2 :* X 2) :+ C 1022500) (C 0) d tt) (is_passenger_R L (n1 + 2 * n2))

-- 0.9 R, whichever R it is
pub passenger_mark_is_02's : PassengerMarkIs02's
unfolding regulation.partial_mark passenger_mark
passenger_mark_is_02's r r' e = ⊛-≈ (≈_refl (9 over 10)) e

-- ---- resolution MSC.421(98)
pub rule_of_2020_is_02's : RuleOf2020Is02's
unfolding regulation.R2020 R2020
rule_of_2020_is_02's n taken =
    let aboard = variable {ρ = n ∷ []} 0 in
    let some = quotient_by aboard (number 7580 1 tt) 7580 1 tt tt ⊹ᵗ number 66923 100000 tt in
    let many = number 1 1 tt ⊝ᵗ quotient (number 8525 10 tt ⊹ᵗ number 3875 100000 tt ⊛ᵗ aboard) (aboard ⊹ᵗ number 5000 1 tt) (X 0 :+ C 5000) (C 1) (omega arith) tt in
    cond_≈ (ltb n 400) (≈_refl (722 over 1000))
    (cond_≈ (leb n 1350) (agree some (polynomial (C 5000 :* X 0 :+ C 25363817) (C 0) (C 37900000) (lit< tt)) tt)
    (agree many (polynomial (C 769 :* X 0 :+ C 3318000) (C 0) (C 800 :* (X 0 :+ C 5000)) (omega arith)) tt))

-- beside the earlier rule
pub rules_compared_in_letters : RulesComparedInLetters
rules_compared_in_letters = compared_alike (λ L n1 n2. ≈_sym (passenger_required_is_02's L n1 n2)) (λ n taken. ≈_sym (rule_of_2020_is_02's n taken)) rules_compared
