-- Document 01, "Height and survival": what a row adds at the three draughts, the partial indices and A, in billionths. Assumes nothing.
use Rattle.std.specs.Prelude.{ℕ, ◌+◌, ◌*◌, ◌/◌, ◌^◌, ◌≤◌, List, [], ◌∷◌, get_or}
use Rattle.laws.specs.Rounding.{ceil}
use Rattle.laws.specs.Sums.{sum_of}
use Rattle.records.specs.declared.Ends.{Ends}
use Rattle.records.specs.declared.Survival.{Survival}
use Rattle.records.specs.Ends.{at}
use Rattle.records.specs.Results.{Results}
use Rattle.survival.specs.Survival.{nothing, no_survival, still, Loaded}

-- 916,500ths times ten-thousandths
abbrev pub scale : ℕ
scale = 916500 * 10 ^ 4

-- "A row adds share x v x s, rounded down at lower ends with the bottom s, up at upper ends with the top"
unfoldable pub adds_of : Ends → ℕ → ℕ → ℕ → Ends
adds_of share v bottom top = record { lower = share.lower * v * bottom / scale; upper = ceil (share.upper * v * top) scale }

-- ---- three draughts: deepest, partial, light
abbrev pub trio : Ends → Ends → Ends → List Ends
trio s p l = s ∷ p ∷ l ∷ []

abbrev pub adds_at : Ends → List ℕ → List Survival → ℕ → Ends
adds_at share vs ss i = adds_of share (get_or vs i 0) (get_or ss i no_survival).bottom (get_or ss i no_survival).top

unfoldable pub row_adds : Ends → List ℕ → List Survival → List Ends
row_adds share vs ss = trio (adds_at share vs ss 0) (adds_at share vs ss 1) (adds_at share vs ss 2)

-- ---- "Partial indices are sums"
abbrev pub ends_plus : Ends → Ends → Ends
ends_plus a b = record { lower = a.lower + b.lower; upper = a.upper + b.upper }

unfoldable pub plus : List Ends → List Ends → List Ends
plus t u = trio (ends_plus (at t 0) (at u 0)) (ends_plus (at t 1) (at u 1)) (ends_plus (at t 2) (at u 2))

-- the partial indices of rows that add these
abbrev pub sum_at : List (List Ends) → ℕ → Ends
sum_at ts i = record { lower = sum_of (λ t. (at t i).lower) ts; upper = sum_of (λ t. (at t i).upper) ts }

unfoldable pub partials : List (List Ends) → List Ends
partials ts = trio (sum_at ts 0) (sum_at ts 1) (sum_at ts 2)

-- ---- "A = (2As + 2Ap + Al)/5, rounded likewise"
abbrev pub weighed : (Ends → ℕ) → List Ends → ℕ
weighed end t = 2 * end (at t 0) + 2 * end (at t 1) + end (at t 2)

unfoldable pub attained_of : List Ends → Ends
attained_of t = record { lower = weighed (λ e. e.lower) t / 5; upper = ceil (weighed (λ e. e.upper) t) 5 }

-- ---- what 64 bits need
-- a share is at most one
pub record Share (share : Ends) : Type 0 where
  pub low : share.lower ≤ 10 ^ 9
  pub high : share.upper ≤ 10 ^ 9

-- and so are v and the survival
pub record Weights (v : ℕ) (s : Survival) : Type 0 where
  pub height : v ≤ 916500
  pub bottom : s.bottom ≤ 10 ^ 4
  pub top : s.top ≤ 10 ^ 4

pub record RowWeights (vs : List ℕ) (ss : List Survival) : Type 0 where
  pub each : (i : ℕ) → Weights (get_or vs i 0) (get_or ss i no_survival)

-- a row's given survivals are in ten-thousandths, and a passenger ship's loads keep to their limits
pub record Given (rs : Results) : Type 0 where
  pub each : (i : ℕ) → (get_or rs.findings i nothing).given ≤ 10 ^ 4
  pub loads : (i : ℕ) → Loaded (get_or rs.findings i nothing) (get_or rs.floodings i still)

pub record Small (k : ℕ) (e : Ends) : Type 0 where
  pub low : e.lower ≤ k
  pub high : e.upper ≤ k

pub record Within (k : ℕ) (t : List Ends) : Type 0 where
  pub each : (i : ℕ) → Small k (at t i)
