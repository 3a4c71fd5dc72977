-- A row's survivals, of any kind: at each draught bottom and top are those of the exact one, which is from 0 to 1. Assumes nothing.
use Prim.Native.Nat.{ℕ, zero, suc, ◌+◌, ◌^◌, ◌≤◌}
use mathlib.Core.Path.{◌≡◌, refl}
use native.Mathlib.Omega.{arith}
use lib.Dec.{eqb}
use lib.ListN.{get_or}
use Rattle.laws.proofs.Tests.{told, picked}
use Rattle.records.specs.declared.Survival.{Survival}
use Rattle.records.specs.Results.{Results}
use Rattle.survival.specs.Survival.{Factor, given, ends, Sensible, nothing, no_survival, still, survival_of, passenger_survival, factor_at, survival_at, factors_of, survivals_of}
use Rattle.survival.proofs.Factors.{found_sensible}
use Rattle.survival.proofs.Worse.{counts_either}
use Rattle.survival.proofs.Passengers.{passenger_sensible}

-- s is rounded from the exact survival
pub record Rounds (s : Survival) (x : Factor) : Type 0 where
  pub bottom : s.bottom ≡ (ends x).bottom
  pub top : s.top ≡ (ends x).top

module _ (kind : ℕ) (rs : Results) where
  rounds_at : (j : ℕ) → Rounds (survival_at kind rs j) (factor_at kind rs j)
  unfolding survival_at factor_at survival_of passenger_survival
  rounds_at j = told (eqb kind 7) (λ e. rw e (record { bottom = refl; top = refl })) (λ e. rw e (record { bottom = refl; top = refl }))

  pub row_rounds : (j : ℕ) → Rounds (get_or (survivals_of kind rs) j no_survival) (get_or (factors_of kind rs) j (given 0))
  unfolding survivals_of factors_of
  row_rounds zero = rounds_at 0
  row_rounds (suc zero) = rounds_at 1
  row_rounds (suc (suc zero)) = rounds_at 2
  row_rounds (suc (suc (suc j))) = record { bottom = refl; top = refl }

  -- where what is given is at most one, and there is a heeling moment
  module _ (one : (i : ℕ) → (get_or rs.findings i nothing).given ≤ 10 ^ 4) (some : (i : ℕ) → 1 ≤ (get_or rs.floodings i still).moment) where
    sensible_at : (j : ℕ) → Sensible (factor_at kind rs j)
    unfolding factor_at
    sensible_at j =
        picked Sensible (eqb kind 7) _ _ (λ e. passenger_sensible (get_or rs.findings j nothing) (get_or rs.floodings j still) (some j))
        (λ e. found_sensible kind _ (counts_either (λ f. f.given ≤ 10 ^ 4) kind rs.findings j (one j) (one (3 + j))))

    pub row_sensible : (j : ℕ) → Sensible (get_or (factors_of kind rs) j (given 0))
    unfolding factors_of
    row_sensible zero = sensible_at 0
    row_sensible (suc zero) = sensible_at 1
    row_sensible (suc (suc zero)) = sensible_at 2
    row_sensible (suc (suc (suc j))) = omega arith
