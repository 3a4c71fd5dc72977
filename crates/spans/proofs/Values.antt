-- 01's worked spans, computed: p, and P at one end, which is rounded from the exact P and not from p's ends; and some of a ship of 20 m. Assumes nothing.
use Prim.Native.Nat.{ℕ}
use mathlib.Core.Path.{◌≡◌, refl}
use Rattle.laws.specs.Fraction.{◌less◌over◌, ◌⊹◌, ◌⊛◌}
use Rattle.laws.specs.Rounding.{ceil}
use Rattle.records.specs.declared.Ends.{Ends}
use Rattle.numbers.specs.Figures.{billionths_of}
use Rattle.solas.specs.Span.{touch, p, P}
use Rattle.spans.specs.Rounded.{ends_of}
use Rattle.spans.specs.Span.{p_ends, PEnds}

abbrev ends : ℕ → ℕ → Ends
ends lower upper = record { lower = lower; upper = upper }

-- 35/396 and 70/297
inner : (p_ends 9900 1500 ≡ ends 88383838 88383839) × (p_ends 9900 3000 ≡ ends 235690235 235690236)
unfolding p_ends ends_of billionths_of ceil p ◌less◌over◌
inner = (refl, refl)

-- 95/792 at either end of the ship, and the whole ship
pub chance :
    (PEnds 9900 0 1500 ≡ ends 119949494 119949495)
    × (PEnds 9900 8400 9900 ≡ ends 119949494 119949495)
    × (PEnds 9900 1000 2500 ≡ ends 88383838 88383839)
    × (PEnds 9900 0 9900 ≡ ends 1000000000 1000000000)
unfolding PEnds ends_of billionths_of ceil touch P p ◌⊹◌ ◌⊛◌ ◌less◌over◌
chance = (refl, refl, refl, refl)

-- at 20 m: 347,543/1,900,800 and 257/594, and at an end 822,743/3,801,600
shortest :
    (PEnds 2000 500 1000 ≡ ends 182840382 182840383)
    × (PEnds 2000 500 1500 ≡ ends 432659932 432659933)
    × (PEnds 2000 0 500 ≡ ends 216420191 216420192)
    × (PEnds 2000 0 2000 ≡ ends 1000000000 1000000000)
unfolding PEnds ends_of billionths_of ceil touch P p ◌⊹◌ ◌⊛◌ ◌less◌over◌
shortest = (refl, refl, refl, refl)
