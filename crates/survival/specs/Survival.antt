-- Document 01, "Height and survival": what a survival is exactly, its bottom and top in ten-thousandths, and document 02's openings, marks, second sets and
-- passenger ships with them. Assumes nothing.
use Rattle.std.specs.Prelude.{ℕ, ◌+◌, ◌*◌, ◌/◌, ◌^◌, ◌≤◌, cond, List, [], ◌∷◌, eqb, pos, get_or}
use Rattle.laws.specs.Fraction.{Fraction, ◌over◌, whole, ◌≼◌, ◌≼?◌, ◌⊛◌}
use Rattle.laws.specs.Rounding.{ceil}
use Rattle.roots.specs.Root.{root_down, root_up}
use Rattle.records.specs.declared.Finding.{Finding}
use Rattle.records.specs.declared.Flooding.{Flooding}
use Rattle.records.specs.declared.Marks.{Marks}
use Rattle.records.specs.declared.Rounded.{Rounded}
use Rattle.records.specs.declared.Survival.{Survival}
use Rattle.records.specs.Results.{Results}
use Rattle.solas.specs.Survival.{s⁴, unless_immersed}
use Rattle.solas.specs.Passengers.{final⁴, intermediate⁴, s_mom, together⁴}
use Rattle.numbers.specs.Ratio.{ratio_of}
use Rattle.records.specs.declared.Ratio.{Ratio}
use Rattle.survival.specs.declared.Multiple.{Multiple}
use Rattle.survival.specs.Marks.{unmarked, marks_of, passenger_marks}

-- the fourth root of a fraction, or so many ten-thousandths
pub data Factor : Type 0 where
  root : Fraction → Factor
  given : ℕ → Factor

-- the exact s⁴ of what was found: that of lever, range and heel, or zero
abbrev pub fourth_of : Finding → Fraction
fourth_of f = unless_immersed f.opening (s⁴ f.lever f.range f.heel)

-- a cargo ship's row: of kind 3 it has given survival, of another that of its finding
unfoldable pub factor_of : ℕ → Finding → Factor
factor_of kind f = cond (eqb kind 3) (given f.given) (root (fourth_of f))

unfoldable pub scaled_of : Ratio → Multiple
scaled_of f = record { down = 10 ^ 16 * f.num / f.den; up = ceil (10 ^ 16 * f.num) f.den }

unfoldable pub rounded_of : Ratio → Rounded
rounded_of f = record { bottom = root_down (scaled_of f).down; top = root_up (scaled_of f).up }

-- "A row with given survival has bottom = top"
abbrev pub ends : Factor → Rounded
ends (root f) = rounded_of (ratio_of f)
ends (given n) = record { bottom = n; top = n }

-- a result's survival: its ends, and its marks
abbrev pub marked : Rounded → Marks → Survival
marked r m = record { bottom = r.bottom; top = r.top; marks = m }

unfoldable pub survival_of : ℕ → Finding → Survival
survival_of kind f = marked (ends (factor_of kind f)) (marks_of kind f)

-- from 0 to 1
abbrev pub Sensible : Factor → Type 0
Sensible (root f) = (whole 0 ≼ f) × (f ≼ whole 1)
Sensible (given n) = n ≤ 10 ^ 4

-- "the greatest whole s with s⁴ not above 10¹⁶ times that"
pub record Bottom (f : Fraction) (s : ℕ) : Type 0 where
  pub within : whole (s ^ 4) ≼ whole (10 ^ 16) ⊛ f
  pub greatest : (t : ℕ) → whole (t ^ 4) ≼ whole (10 ^ 16) ⊛ f → t ≤ s

-- "the least not below"
pub record Top (f : Fraction) (s : ℕ) : Type 0 where
  pub reaches : whole (10 ^ 16) ⊛ f ≼ whole (s ^ 4)
  pub least : (t : ℕ) → whole (10 ^ 16) ⊛ f ≼ whole (t ^ 4) → s ≤ t

-- so it is for every s⁴ from 0 to 1
abbrev pub BottomAndTop : Type 0
BottomAndTop = (f : Fraction) → Sensible (root f) → Bottom f (ends (root f)).bottom × Top f (ends (root f)).top

-- ---- what a survival is held to exactly
abbrev pub ten_thousandths : ℕ → Fraction
ten_thousandths n = n over 10 ^ 4

abbrev pub fourth_power : Fraction → Fraction
fourth_power x = x ⊛ x ⊛ (x ⊛ x)

-- "where no fourth power is above its row's s⁴"; "A given survival counts as itself"
abbrev pub NotAbove : Factor → Fraction → Type 0
NotAbove (root f) x = fourth_power x ≼ f
NotAbove (given n) x = x ≼ ten_thousandths n

abbrev pub NotBelow : Factor → Fraction → Type 0
NotBelow (root f) x = f ≼ fourth_power x
NotBelow (given n) x = ten_thousandths n ≼ x

-- ---- a row's results
abbrev pub nothing : Finding
nothing = record { lever = 0; range = 0; heel = 0; opening = pos 0; given = 0 }

-- past the third draught
abbrev pub no_survival : Survival
no_survival = record { bottom = 0; top = 0; marks = unmarked }

-- of two results the one with the lower exact s⁴, the first when equal
unfoldable pub worse_of : Finding → Finding → Finding
worse_of f g = cond (fourth_of f ≼? fourth_of g) f g

-- the result that counts at draught j, 0 deepest, 1 partial, 2 light: of a row of kind 5, whose second set of three stands after the first, the worse of two
unfoldable pub counts_at : ℕ → List Finding → ℕ → Finding
counts_at kind fs j = cond (eqb kind 5) (worse_of (get_or fs j nothing) (get_or fs (3 + j) nothing)) (get_or fs j nothing)

-- ---- a passenger ship's result, of kind 7: what was found at the final stage, and what its row tells besides

-- the exact s⁴: the lesser of s-int⁴ and (s-final · s-mom)⁴, or zero
abbrev pub passenger_fourth : Finding → Flooding → Fraction
passenger_fourth f w =
    unless_immersed f.opening
    (together⁴ (intermediate⁴ w.lever w.range w.heel) (final⁴ w.roro f.lever f.range f.heel) (s_mom f.lever w.displacement w.moment))

unfoldable pub passenger_survival : Finding → Flooding → Survival
passenger_survival f w = marked (ends (root (passenger_fourth f w))) (passenger_marks w.roro f.lever f.range f.heel f.opening)

-- past the third draught
abbrev pub still : Flooding
still = record { displacement = 1; moment = 1; lever = 0; range = 0; heel = 0; roro = 0 }

-- what the moments need: lever, displacement and heeling moment within the case file's limits
pub record Loaded (f : Finding) (w : Flooding) : Type 0 where
  pub lever : f.lever ≤ 5000
  pub displacement : w.displacement ≤ 300000
  pub some : 1 ≤ w.moment
  pub moment : w.moment ≤ 2000000

-- ---- a row's survivals at the three draughts, exact and rounded
unfoldable pub factor_at : ℕ → Results → ℕ → Factor
factor_at kind rs j =
    cond (eqb kind 7) (root (passenger_fourth (get_or rs.findings j nothing) (get_or rs.floodings j still))) (factor_of kind (counts_at kind rs.findings j))

unfoldable pub survival_at : ℕ → Results → ℕ → Survival
survival_at kind rs j =
    cond (eqb kind 7) (passenger_survival (get_or rs.findings j nothing) (get_or rs.floodings j still)) (survival_of kind (counts_at kind rs.findings j))

unfoldable pub factors_of : ℕ → Results → List Factor
factors_of kind rs = factor_at kind rs 0 ∷ factor_at kind rs 1 ∷ factor_at kind rs 2 ∷ []

unfoldable pub survivals_of : ℕ → Results → List Survival
survivals_of kind rs = survival_at kind rs 0 ∷ survival_at kind rs 1 ∷ survival_at kind rs 2 ∷ []
