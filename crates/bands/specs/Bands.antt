-- 01, "inner p is one of three bands, each a row of coefficients": the table, and what a row comes to. Assumes nothing.
use Rattle.std.specs.Prelude.{ℕ, zero, suc, ◌+◌, ◌-◌, ◌*◌, ◌^◌, ◌≤◌, ◌<◌, ◌≡◌, cond, List, [], ◌∷◌, leb, ℤ, pos, negsuc, neg_ℤ, get_or}
use Rattle.std.specs.Int.Signed.{mag}
use Rattle.laws.specs.Fraction.{Fraction, Is}
use Rattle.bands.specs.declared.Sides.{Sides}
use Rattle.bands.specs.declared.Ratio.{Ratio}

-- the coefficients of L³, xL², x²L and x³, and the divisor, which stands with L³
abbrev pub bands : List (List ℤ)
bands =
    (pos 0 ∷ pos 0 ∷ pos 550 ∷ neg_ℤ (pos 1089) ∷ pos 100 ∷ [])
    ∷ (neg_ℤ (pos 1000) ∷ pos 19800 ∷ pos 32670 ∷ neg_ℤ (pos 35937) ∷ pos 29700 ∷ [])
    ∷ (neg_ℤ (pos 20) ∷ pos 297 ∷ pos 0 ∷ pos 0 ∷ pos 297 ∷ [])
    ∷ []

-- 33x at most 5L, at most 10L, above 10L
unfoldable pub band_of : ℕ → ℕ → ℕ
band_of L x = cond (leb (33 * x) (5 * L)) 0 (cond (leb (33 * x) (10 * L)) 1 2)

-- how far a coefficient is above 0, and how far below
abbrev pub above : ℤ → ℕ
above (pos n) = n
above (negsuc n) = 0

abbrev pub beneath : ℤ → ℕ
beneath (pos n) = 0
beneath (negsuc n) = suc n

-- a coefficient times w, on the side where its sign puts it
unfoldable pub counted : Sides → ℤ → ℕ → Sides
counted s k w = record { up = s.up + above k * w; down = s.down + beneath k * w }

abbrev pub entry : List ℤ → ℕ → ℤ
entry row i = get_or row i (pos 0)

-- the first n of a row's coefficients, at the numbers w
unfoldable pub valued : List ℤ → List ℕ → ℕ → Sides
valued row w zero = record { up = 0; down = 0 }
valued row w (suc n) = counted (valued row w n) (entry row n) (get_or w n 0)

-- a row's value over its divisor, at numbers w for which 1/L is scale over the divisor
unfoldable pub quotient_of : List ℤ → List ℕ → ℕ → ℕ → Ratio
quotient_of row w scale L =
    record {
      num = (valued row w 4).up - (valued row w 4).down;
      den = above (entry row 4) * scale * L;
      cm = above (entry row 4) * scale;
    }

-- five digits for a coefficient, fourteen for a number
pub record Small (row : List ℤ) : Type 0 where
  pub small : (i : ℕ) → i < 5 → mag (entry row i) ≤ 40000

pub record Within (w : List ℕ) : Type 0 where
  pub within : (i : ℕ) → i < 4 → get_or w i 0 ≤ 10 ^ 13

-- a row's value is not negative there, and 64 bits hold what it takes
pub record Ready (row : List ℤ) (w : List ℕ) (scale L : ℕ) : Type 0 where
  pub coefficients : Small row
  pub numbers : Within w
  pub not_negative : (valued row w 4).down ≤ (valued row w 4).up
  pub scaled : scale ≤ 19800 ^ 2
  pub short : L ≤ 19800

-- the ratio is the fraction f, not above one, and a centimetre is cm/den of the ship's length L
pub record Chance (f : Fraction) (L : ℕ) (r : Ratio) : Type 0 where
  pub value : Is f r.num 0 r.den
  pub positive : 0 < r.den
  pub at_most_one : r.num ≤ r.den
  pub centimetre : r.cm * L ≡ r.den
  pub narrow : r.den ≤ 29700 * 19800 ^ 3
