-- What the regulation itself says of a passenger ship's s and R, in its own letters, in metres, degrees, tonnes and tonne-metres: document 002, 2.7.1.1, 2.7.2,
-- 2.7.3, 2.7.4 and 2.7.6.2.3, document 003, 10.2, and R of resolution MSC.421(98) as document 02 prints it. Assumes nothing.
use Rattle.std.specs.Prelude.{ℕ, Bool, cond, List, [], ◌∷◌, leb, ltb}
use Rattle.laws.specs.Fraction.{Fraction, ◌over◌, whole, ◌≼◌, ◌≺◌, ◌⊹◌, ◌⊝◌, ◌⊛◌, ◌⊘◌}
use Rattle.regulation.specs.RegulationIndex.{Limits, under_root, Opening, held, Numbers, fourth, Final, UnlessImmersed, Order, Least}

-- ---- 003, 10.2: N1 persons for whom lifeboats are provided, and N2 in excess of them
unfoldable pub persons : ℕ → ℕ → Fraction
persons N1 N2 = whole N1 ⊹ whole 2 ⊛ whole N2

-- of the length Ls, with N persons so counted
unfoldable pub R : Fraction → Fraction → Fraction
R Ls N = whole 1 ⊝ whole 5000 ⊘ (Ls ⊹ (25 over 10) ⊛ N ⊹ whole 15225)

-- ---- resolution MSC.421(98): "with N persons on board, 0.722 below 400; N/7580 + 0.66923 from 400 to 1,350; above 6,000, 1 - (852.5 + 0.03875N)/(N + 5000)".
-- Between 1,350 and 6,000, where it has a logarithm, the last is not its R, and nothing is said of it: no such ship is taken
unfoldable pub R2020 : ℕ → Fraction
R2020 N =
    cond (ltb N 400) (722 over 1000)
    (cond (leb N 1350) (whole N ⊘ whole 7580 ⊹ (66923 over 100000)) (whole 1 ⊝ ((8525 over 10) ⊹ (3875 over 100000) ⊛ whole N) ⊘ (whole N ⊹ whole 5000)))

-- ---- "the partial indices .. are not less than 0.9 R", whichever of the two R is
unfoldable pub partial_mark : Fraction → Fraction
partial_mark R = (9 over 10) ⊛ R

-- ---- 002, 2.7.3, passenger ships, by whether the damage case involves a ro-ro space
abbrev pub passenger : Bool → Limits
passenger roro = record { θmin = whole 7; θmax = whole 15; TGZmax = cond roro (20 over 100) (12 over 100); TRange = cond roro (whole 20) (whole 16) }

-- ---- 2.7.4, from a GZmax with no cap: not more than 1 and, as document 02 adds, not less than 0
unfoldable pub smom : Fraction → Fraction → Fraction → Fraction
smom GZmax Δ Mheel = held ((GZmax ⊝ (4 over 100)) ⊛ Δ ⊘ Mheel)

-- a stage of flooding
pub record Stage : Type 0 where
  pub GZmax : Fraction
  pub Range : Fraction
  pub θe : Fraction

-- a damage at a draught, with one intermediate stage: that of the least s-factor, where there are more
pub record Damage : Type 0 where
  pub intermediate : Stage
  pub final : Stage
  pub involves_ro_ro : Bool
  pub Δ : Fraction
  pub Mheel : Fraction

module _ (N : Numbers) where
  infix 4 ◌≐◌
  infixl 7 ◌·◌
  open N use {Number, ◌≐◌, ◌·◌, fraction}

  -- 2.7.2: "GZmax is not to be taken as more than 0.05 m and Range as not more than 7°. s_intermediate,i = 0, if the intermediate heel angle exceeds 15° for
  -- passenger ships"
  pub record Intermediate (stage : Stage) (s : Number) : Type 0 where
    pub lost : whole 15 ≺ stage.θe → s ≐ fraction (whole 0)
    pub fourth_root : stage.θe ≼ whole 15 → fourth N s ≐ fraction (under_root (5 over 100) (whole 7) stage.GZmax stage.Range)

  -- 2.7.1.1: "s_i = minimum { s_intermediate,i OR s_final,i · s_mom,i }", where neither is negative
  pub record Minimum (O : Order N) (d : Damage) (s : Number) : Type 0 where
    pub s_intermediate : Number
    pub s_final : Number
    pub of_intermediate : Intermediate d.intermediate s_intermediate
    pub of_final : Final N (passenger d.involves_ro_ro) d.final.GZmax d.final.Range d.final.θe s_final
    pub minimum : Least N O (s_intermediate ∷ (s_final · fraction (smom d.final.GZmax d.Δ d.Mheel)) ∷ []) s

  -- s_i of a passenger ship, with 2.7.6.2.3; of its evacuation routes, hatches, controls and pipes (2.7.6.2.2, 2.7.6.3) document 02 has no figures
  abbrev pub TakenOfPassengers : Order N → Damage → List Opening → Number → Type 0
  TakenOfPassengers O d openings s = UnlessImmersed N openings (Minimum O d s) s
