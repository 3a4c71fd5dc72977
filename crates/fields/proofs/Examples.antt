-- Fields worked out, at which a low byte or a low word first is refused, and a sign that is dropped or changes elsewhere. Assumes nothing.
use mathlib.Core.Path.{◌≡◌, refl}
use mathlib.Core.List.{[], ◌∷◌}
use lib.IntN.{pos, negsuc}
use Rattle.fields.specs.Fields.{word_at, long_at, signed, unsigned, signed_at}

pub count_high_first : word_at (15 ∷ 1 ∷ 3 ∷ []) 1 ≡ 259
unfolding word_at
count_high_first = refl

-- 2,000,000 is 00 1e 84 80
pub four_high_first : long_at (0 ∷ 30 ∷ 132 ∷ 128 ∷ []) 0 ≡ 2000000
unfolding long_at word_at
four_high_first = refl

-- 65,535 is -1, 32,768 the least and 32,767 the greatest; and back
pub either_sign :
    (signed_at (255 ∷ 255 ∷ []) 0 ≡ negsuc 0)
    × (signed_at (0 ∷ 0 ∷ []) 0 ≡ pos 0)
    × (signed_at (128 ∷ 0 ∷ []) 0 ≡ negsuc 32767)
    × (signed_at (127 ∷ 255 ∷ []) 0 ≡ pos 32767)
    × (signed_at (138 ∷ 208 ∷ []) 0 ≡ negsuc 29999)
    × (unsigned (negsuc 29999) ≡ 35536)
    × (unsigned (pos 30000) ≡ 30000)
unfolding word_at signed unsigned
either_sign = (refl, refl, refl, refl, refl, refl, refl)
