-- Fractions of whole numbers, of either sign: equality and order by cross multiplication. Assumes nothing.
use Rattle.std.specs.Prelude.{ℕ, zero, suc, ◌+◌, ◌-◌, ◌*◌, ◌≤◌, ◌<◌, ◌≡◌, Bool, cond, List, [], ◌∷◌, leb}

infix 5 ◌over◌
infix 5 ◌less◌over◌
infix 4 ◌≈◌
infix 4 ◌≼◌
infix 4 ◌≺◌
infix 4 ◌≼?◌
infixl 6 ◌⊹◌
infixl 6 ◌⊝◌
infixl 7 ◌⊛◌
infixl 7 ◌⊘◌
-- (up - down)/den, where the denominator is one more than `rest`, so that it is never 0
pub record Fraction : Type 0 where
  pub up : ℕ
  pub down : ℕ
  pub rest : ℕ

abbrev pub den : Fraction → ℕ
den f = suc f.rest

-- (a - b)/d, for a d above 0
unfoldable pub ◌less◌over◌ : ℕ → ℕ → ℕ → Fraction
a less b over d = record { up = a; down = b; rest = d - 1 }

-- n/d, for a d above 0
abbrev pub ◌over◌ : ℕ → ℕ → Fraction
n over d = n less 0 over d

abbrev pub whole : ℕ → Fraction
whole n = n over 1

-- f is (a - b)/d
pub record Is (f : Fraction) (a b d : ℕ) : Type 0 where
  pub cross : f.up * d + b * den f ≡ a * den f + f.down * d

pub record ◌≈◌ (f g : Fraction) : Type 0 where
  pub cross : f.up * den g + g.down * den f ≡ g.up * den f + f.down * den g

pub record ◌≼◌ (f g : Fraction) : Type 0 where
  pub cross : f.up * den g + g.down * den f ≤ g.up * den f + f.down * den g

pub record ◌≺◌ (f g : Fraction) : Type 0 where
  pub cross : f.up * den g + g.down * den f < g.up * den f + f.down * den g

-- is f at most g?
unfoldable pub ◌≼?◌ : Fraction → Fraction → Bool
f ≼? g = leb (f.up * den g + g.down * den f) (g.up * den f + f.down * den g)

unfoldable pub lesser : Fraction → Fraction → Fraction
lesser f g = cond (f ≼? g) f g

unfoldable pub ◌⊹◌ : Fraction → Fraction → Fraction
f ⊹ g = (f.up * den g + g.up * den f) less (f.down * den g + g.down * den f) over (den f * den g)

unfoldable pub ◌⊝◌ : Fraction → Fraction → Fraction
f ⊝ g = (f.up * den g + g.down * den f) less (f.down * den g + g.up * den f) over (den f * den g)

unfoldable pub ◌⊛◌ : Fraction → Fraction → Fraction
f ⊛ g = (f.up * g.up + f.down * g.down) less (f.up * g.down + f.down * g.up) over (den f * den g)

-- f divided by a g above 0
unfoldable pub ◌⊘◌ : Fraction → Fraction → Fraction
f ⊘ g = (f.up * den g) less (f.down * den g) over (den f * (g.up - g.down))

-- f 0 + .. + f (n - 1)
unfoldable pub up_to : (ℕ → Fraction) → ℕ → Fraction
up_to f zero = whole 0
up_to f (suc n) = up_to f n ⊹ f n

unfoldable pub total : List Fraction → Fraction
total [] = whole 0
total (f ∷ fs) = f ⊹ total fs
