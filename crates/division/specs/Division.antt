-- What long division takes, and division with a rest as it keeps it. Assumes nothing.
use Rattle.std.specs.Prelude.{◌≡◌, ℕ, ◌+◌, ◌*◌, ◌^◌, ◌≤◌, ◌<◌}
use Rattle.division.specs.declared.quotient.Quotient.{Quotient}

-- n/d is at most one, and 64 bits hold what its long division makes
pub record Proper (n d : ℕ) : Type 0 where
  pub positive : 0 < d
  pub at_most_one : n ≤ d
  pub narrow : 40 * d < 2 ^ 64

-- the number that q divides
abbrev pub dividend : Quotient → ℕ
dividend q = q.whole * q.divisor + q.rest

-- q is n divided by d: as its rest is below d, no other quotient and rest are
pub record Division (n d : ℕ) (q : Quotient) : Type 0 where
  pub divisor : q.divisor ≡ d
  pub number : dividend q ≡ n

-- 64 bits hold what the next step makes of q
pub record Carries (q : Quotient) (by : ℕ) : Type 0 where
  pub rest_fits : q.rest * by < 2 ^ 64
  pub whole_fits : (q.whole + 1) * by < 2 ^ 64
