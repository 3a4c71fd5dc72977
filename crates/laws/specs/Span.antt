-- The functions of a span's length that shares are made of, and the two that build the rest; powers are written with ^. Assumes nothing.
use Rattle.std.specs.Prelude.{ℕ, ◌+◌, ◌-◌, ◌*◌, ◌^◌, ◌≤◌, ◌≡◌}

-- h starts at 0, rises nowhere faster than s, and is convex
pub record SpanFunction (s : ℕ) (h : ℕ → ℕ) : Type 0 where
  pub nothing : h 0 ≡ 0
  pub steep : (x i : ℕ) → h (x + i) ≤ h x + s * i
  pub convex : (x i j : ℕ) → h (x + i) + h (x + j) ≤ h x + h (x + i + j)

-- t² up to w, and from there on along the tangent
unfoldable pub e2 : ℕ → ℕ → ℕ
e2 w t = 2 * w * t + (w - t) ^ 2 - w ^ 2

-- t²(3w - t) up to w, and from there on along the tangent
unfoldable pub e3 : ℕ → ℕ → ℕ
e3 w t = 3 * w ^ 2 * t + (w - t) ^ 3 - w ^ 3
