-- The damage length law in general: a ship's law is three numbers, and inner p, G and their layers are sums of span functions. Assumes nothing.
use Rattle.std.specs.Prelude.{ℕ, ◌+◌, ◌-◌, ◌*◌, ◌^◌, ◌≤◌, ◌<◌}
use Rattle.laws.specs.Span.{e2, e3}
use Rattle.solas.specs.Span.{Touch, neither, one, both, touch}
use Rattle.solas.specs.Penetration.{c, d}

-- on the scale on which a span of length x is λ·x, damage lengths end at κ + W, and their density has its knuckle at κ
pub record Law : Type 0 where
  pub κ : ℕ
  pub W : ℕ
  pub λx : ℕ

-- what is asked of a law: a knuckle between two stretches, and a density that falls to nothing and not below
pub record Falling (l : Law) : Type 0 where
  pub knuckle : 0 < l.κ
  pub stretch : 0 < l.W
  pub falls : 2 * l.κ ≤ 11 * l.W

-- 6Wκ² times the density at a damage length U up to the knuckle, where it is κ²; and how much that falls with each unit of length
abbrev pub fall : Law → ℕ
fall l = 11 * l.W - 2 * l.κ

abbrev pub density : Law → ℕ → ℕ
density l U = l.κ * (11 * l.W - l.κ) - fall l * U

-- what damage lengths from U to T, both up to the knuckle, give to a span of length X; and their mass
unfoldable pub between : Law → ℕ → ℕ → ℕ → ℕ
between l U T X = 3 * density l T * e2 (T - U) (X - U) + fall l * e3 (T - U) (X - U)

unfoldable pub mass : Law → ℕ → ℕ → ℕ
mass l U T = 6 * (T - U) * density l T + 3 * (T - U) ^ 2 * fall l

-- what damage lengths beyond the knuckle give
unfoldable pub beyond : Law → ℕ → ℕ
beyond l X = l.κ ^ 2 * e3 l.W (X - l.κ)

-- all masses together: 36W²κ²
abbrev pub unit : Law → ℕ
unit l = 36 * l.W ^ 2 * l.κ ^ 2

-- ---- one layer, from one penetration, for which U' is the damage length up to which G counts and C is c'/d, to a deeper one with U and c/d
pub record Layer : Type 0 where
  pub U' : ℕ
  pub U : ℕ
  pub c' : ℕ
  pub c : ℕ
  pub d : ℕ

-- what is asked of a layer: U and C rise, U at most to the knuckle, C at most to one
pub record Rising (l : Law) (y : Layer) : Type 0 where
  pub cut : y.U' ≤ y.U
  pub shallow : y.U ≤ l.κ
  pub chance : y.c' ≤ y.c
  pub proper : y.c ≤ y.d
  pub positive : 0 < y.d

-- Q at the layer less Q at the one before, for an inner span of length X, times d·36W²κ²·λL
unfoldable pub in_layer : Law → Layer → ℕ → ℕ
in_layer l y X = (y.c - y.c') * (l.W * between l y.U l.κ X + beyond l X) + (y.d - y.c') * (l.W * between l y.U' y.U X)

-- the same for the whole ship, by the length X of the ship
unfoldable pub slope : Law → Layer → ℕ
slope l y = (y.c - y.c') * (l.W * mass l y.U l.κ + 3 * l.κ ^ 2 * l.W ^ 2) + (y.d - y.c') * (l.W * mass l y.U' y.U)

-- twice Q at the layer less Q at the one before, times d·36W²κ²·λL, for a span of length x that touches so many ends
abbrev pub twice : Touch → Law → Layer → ℕ → ℕ
twice neither l y x = 2 * in_layer l y (l.λx * x)
twice one l y x = in_layer l y (l.λx * x) + slope l y * (l.λx * x)
twice both l y x = 2 * (slope l y * (l.λx * x))

-- the same for the span from aft to fwd of a ship of length L
unfoldable pub in_span : Law → Layer → ℕ → ℕ → ℕ → ℕ
in_span l y L aft fwd = twice (touch L aft fwd) l y (fwd - aft)

-- what these are over
abbrev pub common : Law → Layer → ℕ → ℕ
common l y L = 2 * (y.d * unit l * (l.λx * L))

-- ---- document 01's law, for lengths up to 198 m, and its layer from b' to b: all lengths 15B times as fine, so that cuts are whole
unfoldable pub law : ℕ → ℕ → Law
law L B = record { κ = 15 * B * (5 * L); W = 15 * B * (5 * L); λx = 15 * B * 33 }

unfoldable pub layer : ℕ → ℕ → ℕ → ℕ → Layer
layer L B b' b = record { U' = 33 * b' * L; U = 33 * b * L; c' = c B b'; c = c B b; d = d B }
