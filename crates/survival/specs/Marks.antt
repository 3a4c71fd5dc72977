-- Document 02, "Why is this survival not one?", "Openings" and "Passenger ships": what holds a result's survival down, yes or no to four things. Assumes nothing.
use Rattle.std.specs.Prelude.{ℕ, false, cond, eqb, ltb, ℤ}
use Rattle.records.specs.declared.Finding.{Finding}
use Rattle.records.specs.declared.Marks.{Marks}
use Rattle.solas.specs.Survival.{immersed}
use Rattle.solas.specs.Passengers.{lever_cap, range_cap}

-- "lever below its cap, range below its cap, heel above 2,500", and the opening: of a lever g in millimetres, a range t and a heel e in hundredths of a
-- degree, and an opening o millimetres above the final waterline
unfoldable pub found_marks : ℕ → ℕ → ℕ → ℤ → Marks
found_marks g t e o = record { lever = ltb g 120; range = ltb t 1600; heel = ltb 2500 e; opening = immersed o }

abbrev pub unmarked : Marks
unmarked = record { lever = false; range = false; heel = false; opening = false }

-- "A given survival has none of them": a row of kind 3
unfoldable pub marks_of : ℕ → Finding → Marks
marks_of kind f = cond (eqb kind 3) unmarked (found_marks f.lever f.range f.heel f.opening)

-- a passenger ship's: "those of the final stage, with its own caps and heel limit"; of the ro-ro mark first
unfoldable pub passenger_marks : ℕ → ℕ → ℕ → ℕ → ℤ → Marks
passenger_marks roro g t e o = record { lever = ltb g (lever_cap roro); range = ltb t (range_cap roro); heel = ltb 700 e; opening = immersed o }
