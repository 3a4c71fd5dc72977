-- The fractions are numbers in order such as s-min asks for, and two damages among them: s-min worked out by the regulation's own words and by s⁴. Assumes
-- nothing.
use mathlib.Core.List.Memᴰ
use mathlib.Core.List.{[], ◌∷◌, Memᴰ}
use mathlib.Core.Logic.{⊎_elim}
use mathlib.Core.Path.{◌≡◌, refl}
use native.Mathlib.Omega.{arith}
use lib.Dec.{leb→le}
use lib.IntN.{pos}
use Rattle.laws.specs.Fraction.{Fraction, ◌less◌over◌, ◌over◌, whole, ◌≈◌, ◌≼◌, ◌≺◌, ◌≼?◌, lesser, ◌⊝◌, ◌⊛◌}
use Rattle.laws.proofs.Fraction.{≈_refl, ≼_of_≈, ≼_trans}
use Rattle.laws.proofs.FractionCompare.{⊛_keeps, ⊛_not_negative}
use Rattle.solas.specs.Survival.{k, s⁴, unless_immersed}
use Rattle.regulation.specs.RegulationIndex.{Opening, fourth, Order, Least}
use Rattle.regulation.specs.OfSolasIndex.{Critical, FactorOf}
use Rattle.regulation.proofs.Examples.{fractions, half_survives, tenth_survives}
use Rattle.regulation.proofs.RegulationLeast.{least_is_01's}

-- in their own order
abbrev pub in_order : Order fractions
in_order = record {
  ◌⊑◌ = ◌≼◌;
  below_same = ≼_of_≈;
  below_trans = ≼_trans;
  below_fraction = (λ l. l, λ l. l);
  product_not_negative = ⊛_not_negative;
  product_keeps = ⊛_keeps;
}

-- both with an air pipe just at the final waterline, which is not immersed yet
abbrev pub air_pipe : Opening
air_pipe = record { edge = whole 8; waterline = whole 8 }

pub pipe_critical : Critical (air_pipe ∷ []) (pos 0)
unfolding ◌⊝◌ ◌less◌over◌
pipe_critical = record {
  one = air_pipe;
  among = Memᴰ.head refl;
  height = record { cross = refl };
  lowest = λ x m. rw (Memᴰ.eq_of_singleton m) (≼_of_≈ (≈_refl (whole 8 ⊝ whole 8)));
}

pub pipe_dry : (x : Opening) → Memᴰ x (air_pipe ∷ []) → x.edge ≺ x.waterline → ⊥
unfolding ◌less◌over◌
pipe_dry x m l = let h = rw (Memᴰ.eq_of_singleton m) at l in omega (arith, h.cross)

-- one of a half, and one of a tenth
pub half : FactorOf fractions 30 400 0 (pos 0) (1 over 2)
half = record { openings = air_pipe ∷ []; critical = pipe_critical; taken = record { immersed = λ x m l. absurd (pipe_dry x m l); dry = λ d. half_survives } }

pub tenth : FactorOf fractions 120 1600 2995 (pos 0) (1 over 10)
tenth = record { openings = air_pipe ∷ []; critical = pipe_critical; taken = record { immersed = λ x m l. absurd (pipe_dry x m l); dry = λ d. tenth_survives } }

-- what holds of two holds of each among them
pub of_two : (P : Fraction → Type 0) {a b : Fraction} → P a → P b → (x : Fraction) → Memᴰ x (a ∷ b ∷ []) → P x
of_two P {a} {b} p q x m = ⊎_elim (λ e. rw e p) (λ n. let e : x ≡ b = Memᴰ.eq_of_singleton n in rw e q) (Memᴰ.cases_cons m)

pub tenth_least : Least fractions in_order ((1 over 2) ∷ (1 over 10) ∷ []) (1 over 10)
unfolding ◌less◌over◌
tenth_least = record {
  not_negative = of_two (λ x. whole 0 ≼ x) (record { cross = leb→le _ _ tt }) (record { cross = leb→le _ _ tt });
  one = 1 over 10;
  among = Memᴰ.tail (Memᴰ.head refl);
  that = ≈_refl (1 over 10);
  least = of_two (λ x. 1 over 10 ≼ x) (record { cross = leb→le _ _ tt }) (record { cross = leb→le _ _ tt });
}

-- so the lesser s⁴ is a ten-thousandth, by the theorem and by document 01's figures
pub least_by_theorem : fourth fractions (1 over 10) ≈ lesser (unless_immersed (pos 0) (s⁴ 30 400 0)) (unless_immersed (pos 0) (s⁴ 120 1600 2995))
least_by_theorem = least_is_01's fractions in_order 30 400 0 (pos 0) 120 1600 2995 (pos 0) (1 over 2) (1 over 10) (1 over 10) half tenth tenth_least

pub least_by_figures : (fourth fractions (1 over 10) ≈ 1 over 10000) × (lesser (unless_immersed (pos 0) (s⁴ 30 400 0)) (unless_immersed (pos 0) (s⁴ 120 1600 2995)) ≈ 1 over 10000)
unfolding lesser unless_immersed s⁴ k ◌≼?◌ ◌⊛◌ ◌less◌over◌
least_by_figures = (record { cross = refl }, record { cross = refl })
