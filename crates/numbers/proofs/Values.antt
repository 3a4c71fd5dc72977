-- Worked values of 01, computed: the chances and shares of its file in billionths. Assumes nothing.
use mathlib.Core.Path.{◌≡◌, refl}
use Prim.Native.Nat.{ℕ}
use Rattle.laws.specs.Rounding.{ceil}
use Rattle.records.specs.declared.Ends.{Ends}
use Rattle.numbers.specs.Figures.{billionths_of, halves_of, portion_of}

abbrev ends : ℕ → ℕ → Ends
ends lower upper = record { lower = lower; upper = upper }

-- p at x = 1,500 and x = 3,000, then the file's three exact shares, in digits as it is printed
pub chances :
    (billionths_of 35 396 ≡ ends 88383838 88383839)
    × (billionths_of 70 297 ≡ ends 235690235 235690236)
    × (billionths_of 95 792 ≡ ends 0x072648b6 0x072648b7)
    × (billionths_of 155 2376 ≡ ends 0x03e36aea 0x03e36aeb)
    × (billionths_of 22 27 ≡ ends 0x3091165e 0x3091165f)
unfolding billionths_of ceil
chances = (refl, refl, refl, refl, refl)

-- G1 at B = 1,600 and b = 160, its part 3,000/9,900, and the half of an odd number
pub parts :
    (billionths_of 53911 750000 ≡ ends 71881333 71881334)
    × (portion_of 3000 (ends 71881333 71881334) 9900 ≡ ends 21782222 21782223)
    × (halves_of (ends 21782223 21782223) ≡ ends 10891111 10891112)
unfolding billionths_of portion_of halves_of ceil
parts = (refl, refl, refl)
