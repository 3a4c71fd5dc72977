-- What the marks tell (document 02, "Why is this survival not one?" and "Openings"): each its own number; of a found survival none means that it is one, one
-- alone that this number holds it down and no other; an immersed opening leaves nothing; a given survival has no mark. Assumes nothing.
use Rattle.std.specs.Prelude.{ℕ, ◌^◌, ◌≤◌, ◌<◌, true, false, ◌↔◌, ◌≡◌, ℤ, pos, ◌≤ℤ◌, ◌<ℤ◌}
use Rattle.laws.specs.Fraction.{whole, ◌≈◌}
use Rattle.records.specs.declared.Finding.{Finding}
use Rattle.records.specs.declared.Marks.{Marks}
use Rattle.records.specs.declared.Survival.{Survival}
use Rattle.solas.specs.Survival.{s⁴}
use Rattle.survival.specs.Marks.{unmarked}
use Rattle.survival.specs.Survival.{root, ends, fourth_of, survival_of}

-- a cargo ship's row of any kind but 3 has its survival from what was found; a passenger ship's are of kind 7
abbrev pub Found : ℕ → Type 0
Found kind = (kind ≡ 3 → ⊥) × (kind ≡ 7 → ⊥)

-- one by bottom and by top
abbrev pub IsOne : Survival → Type 0
IsOne s = (s.bottom ≡ 10 ^ 4) × (s.top ≡ 10 ^ 4)

-- the same result with another lever, range, heel or opening
abbrev pub with_lever : ℕ → Finding → Finding
with_lever g f = record { lever = g; range = f.range; heel = f.heel; opening = f.opening; given = f.given }

abbrev pub with_range : ℕ → Finding → Finding
with_range t f = record { lever = f.lever; range = t; heel = f.heel; opening = f.opening; given = f.given }

abbrev pub with_heel : ℕ → Finding → Finding
with_heel e f = record { lever = f.lever; range = f.range; heel = e; opening = f.opening; given = f.given }

abbrev pub with_opening : ℤ → Finding → Finding
with_opening o f = record { lever = f.lever; range = f.range; heel = f.heel; opening = o; given = f.given }

-- yes to one of the four things alone
abbrev pub lever_alone : Marks
lever_alone = record { lever = true; range = false; heel = false; opening = false }

abbrev pub range_alone : Marks
range_alone = record { lever = false; range = true; heel = false; opening = false }

abbrev pub heel_alone : Marks
heel_alone = record { lever = false; range = false; heel = true; opening = false }

abbrev pub opening_alone : Marks
opening_alone = record { lever = false; range = false; heel = false; opening = true }

-- ---- yes or no to each thing, whatever the others are
pub record EachMarkItsOwn : Type 0 where
  pub lever : (kind : ℕ) (f : Finding) → Found kind → ((survival_of kind f).marks.lever ≡ true) ↔ (f.lever < 120)
  pub range : (kind : ℕ) (f : Finding) → Found kind → ((survival_of kind f).marks.range ≡ true) ↔ (f.range < 1600)
  pub heel : (kind : ℕ) (f : Finding) → Found kind → ((survival_of kind f).marks.heel ≡ true) ↔ (2500 < f.heel)
  pub opening : (kind : ℕ) (f : Finding) → Found kind → ((survival_of kind f).marks.opening ≡ true) ↔ (f.opening <ℤ pos 0)

-- ---- a found survival is one, rounded either way or exactly, where nothing is marked and nowhere else
pub record OneExactlyWhenUnmarked : Type 0 where
  pub bottom : (kind : ℕ) (f : Finding) → Found kind → ((survival_of kind f).bottom ≡ 10 ^ 4) ↔ ((survival_of kind f).marks ≡ unmarked)
  pub top : (kind : ℕ) (f : Finding) → Found kind → ((survival_of kind f).top ≡ 10 ^ 4) ↔ ((survival_of kind f).marks ≡ unmarked)
  pub exact : (kind : ℕ) (f : Finding) → Found kind → (fourth_of f ≈ whole 1) ↔ ((survival_of kind f).marks ≡ unmarked)

-- ---- where one thing alone is marked, survival is one as soon as that number is brought to its cap, or the opening up to the waterline, and not before
pub record OneMarkAlone : Type 0 where
  pub lever : (kind : ℕ) (f : Finding) → Found kind → (survival_of kind f).marks ≡ lever_alone → (g : ℕ) → IsOne (survival_of kind (with_lever g f)) ↔ (120 ≤ g)
  pub range : (kind : ℕ) (f : Finding) → Found kind → (survival_of kind f).marks ≡ range_alone → (t : ℕ) → IsOne (survival_of kind (with_range t f)) ↔ (1600 ≤ t)
  pub heel : (kind : ℕ) (f : Finding) → Found kind → (survival_of kind f).marks ≡ heel_alone → (e : ℕ) → IsOne (survival_of kind (with_heel e f)) ↔ (e ≤ 2500)
  pub opening : (kind : ℕ) (f : Finding) → Found kind → (survival_of kind f).marks ≡ opening_alone → (o : ℤ) → IsOne (survival_of kind (with_opening o f)) ↔ (pos 0 ≤ℤ o)

-- ---- no change of one number brings survival to one, by its top even, where another is marked
pub record OthersStillHold : Type 0 where
  pub lever : (kind : ℕ) (f : Finding) → Found kind → (g : ℕ) → (survival_of kind (with_lever g f)).top ≡ 10 ^ 4 →
      ((survival_of kind f).marks.range ≡ false) × ((survival_of kind f).marks.heel ≡ false) × ((survival_of kind f).marks.opening ≡ false)
  pub range : (kind : ℕ) (f : Finding) → Found kind → (t : ℕ) → (survival_of kind (with_range t f)).top ≡ 10 ^ 4 →
      ((survival_of kind f).marks.lever ≡ false) × ((survival_of kind f).marks.heel ≡ false) × ((survival_of kind f).marks.opening ≡ false)
  pub heel : (kind : ℕ) (f : Finding) → Found kind → (e : ℕ) → (survival_of kind (with_heel e f)).top ≡ 10 ^ 4 →
      ((survival_of kind f).marks.lever ≡ false) × ((survival_of kind f).marks.range ≡ false) × ((survival_of kind f).marks.opening ≡ false)
  pub opening : (kind : ℕ) (f : Finding) → Found kind → (o : ℤ) → (survival_of kind (with_opening o f)).top ≡ 10 ^ 4 →
      ((survival_of kind f).marks.lever ≡ false) × ((survival_of kind f).marks.range ≡ false) × ((survival_of kind f).marks.heel ≡ false)

-- ---- "Below zero the survival is zero; at zero the opening is not yet immersed": by bottom, by top and exactly; a dry opening, be it where it may, leaves
-- the survival of lever, range and heel
pub record OpeningDecides : Type 0 where
  pub lost : (kind : ℕ) (f : Finding) → Found kind → f.opening <ℤ pos 0 → ((survival_of kind f).bottom ≡ 0) × ((survival_of kind f).top ≡ 0) × (fourth_of f ≈ whole 0)
  pub dry : (kind : ℕ) (f : Finding) (o : ℤ) → Found kind → pos 0 ≤ℤ f.opening → pos 0 ≤ℤ o →
      (survival_of kind (with_opening o f) ≡ survival_of kind f) × (fourth_of f ≈ s⁴ f.lever f.range f.heel)

-- ---- "A given survival has none of them"
abbrev pub GivenIsUnmarked : Type 0
GivenIsUnmarked = (f : Finding) → survival_of 3 f ≡ record { bottom = f.given; top = f.given; marks = unmarked }
