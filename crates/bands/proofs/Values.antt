-- Document 01, "Proved values": p by its band's row of the table, worked out at 9,900 cm. Assumes nothing.
use Prim.Native.Nat.{ℕ, ◌*◌, ◌^◌}
use mathlib.Core.Path.{◌≡◌, refl}
use mathlib.Core.List.{[], ◌∷◌}
use lib.ListN.{get_or}
use Rattle.bands.specs.declared.Ratio.{Ratio}
use Rattle.bands.specs.Bands.{bands, counted, valued, quotient_of}

-- row k at L³, xL², x²L and x³
abbrev cubic : ℕ → ℕ → Ratio
cubic k x = quotient_of (get_or bands k []) (9900 ^ 3 ∷ x * 9900 ^ 2 ∷ x ^ 2 * 9900 ∷ x ^ 3 ∷ []) (9900 ^ 2) 9900

-- the last row, which needs L and x alone
abbrev straight : ℕ → Ratio
straight x = quotient_of (get_or bands 2 []) (9900 ∷ x ∷ 0 ∷ 0 ∷ []) 1 9900

abbrev Makes : Ratio → ℕ → ℕ → Type 0
Makes r n d = r.num * d ≡ r.den * n

-- 35/396 at 1,500 cm, 70/297 at 3,000 cm, 277/297 at the whole length
pub by_band : Makes (cubic 0 1500) 35 396 × Makes (cubic 1 3000) 70 297 × Makes (straight 9900) 277 297
unfolding quotient_of valued counted
by_band = (refl, refl, refl)
