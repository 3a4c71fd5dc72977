-- Survivals that refuse a slip in this crate at once; document 01's own table is crates/promises/specs/Values.antt. Assumes nothing.
use Prim.Native.Nat.{ℕ, ◌*◌, ◌^◌}
use mathlib.Core.Bool.{Bool, true, false}
use mathlib.Core.List.{[], ◌∷◌}
use mathlib.Core.Path.{◌≡◌, refl}
use lib.IntN.{ℤ, pos, negsuc}
use Rattle.laws.specs.Fraction.{whole, ◌≼?◌, ◌less◌over◌, ◌⊛◌}
use Rattle.laws.specs.Rounding.{ceil}
use Rattle.roots.specs.Root.{with_digits, root_down, root_up}
use Rattle.records.specs.declared.Finding.{Finding}
use Rattle.records.specs.declared.Marks.{Marks}
use Rattle.records.specs.declared.Survival.{Survival}
use Rattle.records.specs.Results as results
use Rattle.solas.specs.Survival.{k, s⁴, unless_immersed}
use Rattle.numbers.specs.Ratio.{ratio_of}
use Rattle.survival.specs.Marks.{found_marks, marks_of}
use Rattle.survival.specs.Survival.{root, ends, factor_of, scaled_of, rounded_of, survival_of, worse_of, counts_at, survival_at, survivals_of}

abbrev found : ℕ → ℕ → ℕ → ℤ → Finding
found lever range heel opening = record { lever = lever; range = range; heel = heel; opening = opening; given = 0 }

abbrev given : ℕ → Finding
given s = record { lever = 0; range = 0; heel = 0; opening = pos 0; given = s }

abbrev marks : Bool → Bool → Bool → Bool → Marks
marks lever range heel opening = record { lever = lever; range = range; heel = heel; opening = opening }

abbrev s : ℕ → ℕ → Bool → Bool → Bool → Bool → Survival
s bottom top lever range heel opening = record { bottom = bottom; top = top; marks = marks lever range heel opening }

pub survivals :
    (survival_of 2 (found 30 400 0 (pos 0)) ≡ s 5000 5000 true true false false)
    × (survival_of 2 (found 60 800 0 (pos 2000)) ≡ s 7071 7072 true true false false)
    × (survival_of 2 (found 120 1600 2995 (pos 0)) ≡ s 1000 1000 false false true false)
    × (survival_of 2 (found 120 1600 3000 (pos 0)) ≡ s 0 0 false false true false)
    × (survival_of 2 (found 5000 9000 2500 (pos 30000)) ≡ s 10000 10000 false false false false)
    × (survival_of 3 (given 7071) ≡ s 7071 7071 false false false false)
unfolding survival_of factor_of marks_of found_marks unless_immersed s⁴ k ratio_of scaled_of rounded_of root_down root_up with_digits ceil ◌⊛◌ ◌less◌over◌
survivals = (refl, refl, refl, refl, refl, refl)

-- a millimetre or a hundredth of a degree from one cap, and at all four
pub nearly :
    (survival_of 2 (found 119 1600 2500 (pos 0)) ≡ s 9979 9980 true false false false)
    × (survival_of 2 (found 120 1599 2500 (pos 0)) ≡ s 9998 9999 false true false false)
    × (survival_of 2 (found 120 1600 2501 (pos 0)) ≡ s 9989 9990 false false true false)
    × (survival_of 2 (found 120 1600 2500 (negsuc 0)) ≡ s 0 0 false false false true)
    × (survival_of 2 (found 120 1600 2500 (pos 0)) ≡ s 10000 10000 false false false false)
unfolding survival_of factor_of marks_of found_marks unless_immersed s⁴ k ratio_of scaled_of rounded_of root_down root_up with_digits ceil ◌⊛◌ ◌less◌over◌
nearly = (refl, refl, refl, refl, refl)

-- second sets, at three draughts each: both sets round to the same ends, and the exact s⁴ tells which counts, the one or the other; equal s⁴, where the
-- first set counts, and so its marks; an opening that is immersed in one set alone
pub second_sets :
    (survivals_of 5 (results.found (found 120 1587 0 (pos 0) ∷ found 60 1600 0 (pos 0) ∷ found 120 1600 0 (pos 0) ∷ found 119 1600 0 (pos 0) ∷ found 120 800 0 (pos 0) ∷ found 120 1600 0 (negsuc 0) ∷ []))
    ≡ s 9979 9980 true false false false ∷ s 8408 8409 true false false false ∷ s 0 0 false false false true ∷ [])
    × (survivals_of 5 (results.found (found 119 1600 0 (pos 0) ∷ found 120 800 0 (pos 0) ∷ found 120 1600 0 (negsuc 0) ∷ found 120 1587 0 (pos 0) ∷ found 60 1600 0 (pos 0) ∷ found 120 1600 0 (pos 0) ∷ []))
    ≡ s 9979 9980 true false false false ∷ s 8408 8409 false true false false ∷ s 0 0 false false false true ∷ [])
    × (survivals_of 5 (results.found (found 60 800 0 (pos 0) ∷ found 120 1600 0 (pos 0) ∷ found 60 800 0 (pos 0) ∷ found 120 1600 0 (pos 0) ∷ found 120 1600 2995 (pos 0) ∷ found 120 1600 0 (pos 0) ∷ []))
    ≡ s 7071 7072 true true false false ∷ s 1000 1000 false false true false ∷ s 7071 7072 true true false false ∷ [])
    × (survival_of 5 (found 120 1587 0 (pos 0)) ≡ s 9979 9980 false true false false)
unfolding survivals_of survival_at counts_at worse_of survival_of factor_of marks_of found_marks unless_immersed s⁴ k ratio_of scaled_of rounded_of root_down root_up with_digits ceil ◌≼?◌ ◌⊛◌ ◌less◌over◌
second_sets = (refl, refl, refl, refl)

-- at the cap, and one below or above it; where survival is 0 for another reason the rest is still told
pub edges :
    (found_marks 120 1600 2500 (pos 0) ≡ marks false false false false)
    × (found_marks 119 1600 2500 (pos 0) ≡ marks true false false false)
    × (found_marks 120 1599 2500 (pos 1) ≡ marks false true false false)
    × (found_marks 120 1600 2501 (pos 30000) ≡ marks false false true false)
    × (found_marks 120 1600 2500 (negsuc 0) ≡ marks false false false true)
    × (found_marks 0 1600 3000 (negsuc 29999) ≡ marks true false true true)
    × (found_marks 120 1599 2501 (negsuc 0) ≡ marks false true true true)
unfolding found_marks
edges = (refl, refl, refl, refl, refl, refl, refl)

-- 10¹⁶ times a fraction that is 1 and a half: below it 1 is the greatest root, and above it 2 the least
pub apart : rounded_of (record { num = 3; den = 2 * 10 ^ 16 }) ≡ record { bottom = 1; top = 2 }
unfolding scaled_of rounded_of root_down root_up with_digits ceil
apart = refl

-- the root of one
pub one : ends (root (whole 1)) ≡ record { bottom = 10 ^ 4; top = 10 ^ 4 }
unfolding ratio_of scaled_of rounded_of root_down root_up with_digits ceil ◌less◌over◌
one = refl

-- and of nothing
pub none : rounded_of (ratio_of (whole 0)) ≡ record { bottom = 0; top = 0 }
unfolding ratio_of scaled_of rounded_of root_down root_up with_digits ceil ◌less◌over◌
none = refl
