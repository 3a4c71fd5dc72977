-- Four rows as a host gets them, on the printed file's hull: one of three different results, over it one with openings under the water, one given, one with a
-- second set. Worked out by the independent program. Assumes nothing.
use Prim.Native.Nat.{ℕ}
use mathlib.Core.Path.{◌≡◌, refl}
use lib.IntN.{ℤ, pos, negsuc}
use mathlib.Core.List.{List, [], ◌∷◌}
use Rattle.laws.specs.Fraction.{◌less◌over◌, ◌⊛◌, ◌≼?◌}
use Rattle.laws.specs.Rounding.{ceil}
use Rattle.roots.specs.Root.{with_digits, root_down, root_up}
use Rattle.records.specs.declared.Finding.{Finding}
use Rattle.records.specs.declared.Hull.{Hull}
use Rattle.records.specs.Results.{found as alone}
use Rattle.solas.specs.Height.{v, v_at, row_v}
use Rattle.solas.specs.Index.{dp}
use Rattle.solas.specs.Survival.{k, s⁴, unless_immersed}
use Rattle.numbers.specs.Ratio.{ratio_of}
use Rattle.chances.proofs.Values.{in_full}
use Rattle.heights.specs.Height.{row_vs}
use Rattle.survival.specs.Marks.{found_marks, marks_of}
use Rattle.survival.specs.Survival.{worse_of, counts_at, factor_of, scaled_of, rounded_of, survival_of, survival_at, survivals_of}
use Rattle.indices.specs.Index.{adds_of}
use Rattle.printing.specs.Marks.{mark_byte}
use Rattle.casefile.specs.Order.{same_group, same_layer}
use Rattle.casefile.specs.Record.{Row}
use Rattle.rows.specs.Standing.{nowhere, stands}
use Rattle.rows.specs.Work.{share_at}
use Rattle.listing.specs.Rows.{six_numbers, row_numbers, numbers_at, numbers_from}

abbrev pub hull : Hull
hull = record { kind = 1; length = 9900; breadth = 1600; deepest = 6000; light = 4000; lifeboats = 0; excess = 0; rule = 0; zones = 2; places = 0 ∷ 1500 ∷ 9900 ∷ [] }

abbrev found : ℕ → ℕ → ℕ → ℤ → Finding
found lever range heel opening = record { lever = lever; range = range; heel = heel; opening = opening; given = 0 }

abbrev given : ℕ → Finding
given s = record { lever = 0; range = 0; heel = 0; opening = pos 0; given = s }

-- 60 mm and 8 degrees; a range a hundredth short; a heel of 29.95 degrees; and over it, in the same layer, openings a millimetre under the water at two draughts
abbrev pub first : Row
first = record { head = record { kind = 2; first = 1; count = 1; depth = 800; height = 12000 }; results = alone (found 60 800 0 (pos 0) ∷ found 120 1599 2500 (pos 1) ∷ found 120 1600 2995 (pos 30000) ∷ []) }

abbrev pub flooded : Row
flooded = record { head = record { kind = 2; first = 1; count = 1; depth = 800; height = 18500 }; results = alone (found 60 800 0 (negsuc 0) ∷ found 120 1599 2500 (pos 0) ∷ found 120 1600 2500 (negsuc 0) ∷ []) }

abbrev second : Row
second = record { head = record { kind = 3; first = 1; count = 2; depth = 800; height = 18500 }; results = alone (given 0 ∷ given 7071 ∷ given 10000 ∷ []) }

-- the second set is worse, then the first, and then both are alike and have other marks
abbrev lesser : Row
lesser =
    record {
      head = record { kind = 5; first = 2; count = 1; depth = 800; height = 18500 };
      results = alone (found 120 1600 0 (pos 0) ∷ found 60 800 0 (pos 0) ∷ found 60 1600 0 (pos 0) ∷ found 120 1600 2995 (pos 0) ∷ found 120 1599 0 (pos 0) ∷ found 120 800 0 (pos 0) ∷ []);
    }

abbrev pub rows : List Row
rows = first ∷ flooded ∷ second ∷ lesser ∷ []

abbrev pub told : List ℕ
told =
    119949494 ∷ 119949495 ∷ 564000 ∷ 7071 ∷ 7072 ∷ 3 ∷ 52194638 ∷ 52202021 ∷ 639200 ∷ 9998 ∷ 9999 ∷ 2 ∷ 83640351 ∷ 83648718 ∷ 741000 ∷ 1000 ∷ 1000 ∷ 4 ∷ 9698044 ∷ 9698045
    ∷ 119949494 ∷ 119949495 ∷ 352500 ∷ 0 ∷ 0 ∷ 11 ∷ 0 ∷ 0 ∷ 277300 ∷ 9998 ∷ 9999 ∷ 2 ∷ 36285152 ∷ 36288783 ∷ 175500 ∷ 0 ∷ 0 ∷ 8 ∷ 0 ∷ 0
    ∷ 65235690 ∷ 65235692 ∷ 916500 ∷ 0 ∷ 0 ∷ 0 ∷ 0 ∷ 0 ∷ 916500 ∷ 7071 ∷ 7071 ∷ 0 ∷ 46128156 ∷ 46128158 ∷ 916500 ∷ 10000 ∷ 10000 ∷ 0 ∷ 65235690 ∷ 65235692
    ∷ 814814814 ∷ 814814815 ∷ 916500 ∷ 1000 ∷ 1000 ∷ 4 ∷ 81481481 ∷ 81481482 ∷ 916500 ∷ 7071 ∷ 7072 ∷ 3 ∷ 576155554 ∷ 576237038 ∷ 916500 ∷ 8408 ∷ 8409 ∷ 1 ∷ 685096295 ∷ 685177778
    ∷ []

pub four_rows : numbers_from hull nowhere rows ≡ told
unfolding numbers_from numbers_at row_numbers six_numbers share_at stands same_group same_layer row_vs row_v v_at v dp adds_of mark_byte worse_of counts_at survivals_of survival_at survival_of factor_of marks_of found_marks unless_immersed s⁴ k ratio_of scaled_of rounded_of root_down root_up with_digits ceil ◌⊛◌ ◌less◌over◌ ◌≼?◌
four_rows = rw (in_full.0, in_full.1, in_full.2) refl
