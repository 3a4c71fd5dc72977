-- How a sentence is worked out at a case: what it says there, and orders of fractions whose numbers are written out. Assumes nothing.
use Prim.Native.Nat.{ℕ, suc, ◌+◌, ◌-◌, ◌*◌, ◌≤◌, ◌<◌}
use mathlib.Core.Path.{◌≡◌}
use native.Mathlib.Omega.{arith}
use lib.Dec.{T, leb, leb→le}
use Rattle.laws.specs.Fraction.{Fraction, den, ◌≼◌, ◌≺◌}

-- what a proof says, whether or not there is one
abbrev pub Said : {A : Type 0} → A → Type 0
Said {A} a = A

-- ---- f and g by cross multiplication

abbrev left : Fraction → Fraction → ℕ
left f g = f.up * den g + g.down * den f

abbrev right : Fraction → Fraction → ℕ
right f g = g.up * den f + f.down * den g

-- an order that a proof says, given this or that, as an equation: where the order is not so, its two numbers differ, and the refusal shows both
abbrev pub Compared : {A : Type 0} {f g : A → Fraction} → ((a : A) → f a ≼ g a) → Type 0
Compared {A} {f} {g} l = (a : A) → left (f a) (g a) + (right (f a) (g a) - left (f a) (g a)) ≡ right (f a) (g a)

pub not_more_than : {f g : Fraction} → T (leb (left f g) (right f g)) → f ≼ g
not_more_than {f} {g} t = record { cross = leb→le (left f g) (right f g) t }

pub less_than : {f g : Fraction} → suc (left f g) + (right f g - suc (left f g)) ≡ right f g → f ≺ g
less_than {f} {g} e = record { cross = order (left f g) (right f g) e }
  where
    order : (a b : ℕ) → suc a + (b - suc a) ≡ b → a < b
    order a b e = omega (arith, e)

pub not_so : {f g : Fraction} → f ≼ g → suc (right f g) + (left f g - suc (right f g)) ≡ left f g → ⊥
not_so {f} {g} l e = order (left f g) (right f g) l.cross e
  where
    order : (a b : ℕ) → a ≤ b → suc b + (a - suc b) ≡ a → ⊥
    order a b l e = omega (arith, l, e)
