-- What a row adds and what the partial indices are, draught by draught: bounds, sums. Assumes nothing.
use Prim.Native.Nat.{ℕ, zero, suc, ◌≤◌}
use mathlib.Core.List.{List}
use mathlib.Core.Path.{◌≡◌, refl}
use native.Mathlib.Nat.{le_trans}
use native.Mathlib.Omega.{arith}
use lib.ListN.{get_or}
use Rattle.records.specs.declared.Ends.{Ends}
use Rattle.records.specs.Results.{Results}
use Rattle.solas.proofs.Height.{row_at_most}
use Rattle.heights.specs.Height.{row_vs}
use Rattle.survival.specs.Survival.{given, factors_of, survivals_of, no_survival}
use Rattle.indices.specs.Index.{Weights, RowWeights, Given, trio}
use Rattle.survival.proofs.Bounds.{ends_ordered, ends_at_most}
use Rattle.survival.proofs.Rows.{row_rounds, row_sensible}

-- ---- the same ends at each draught are the same
pub three : {a b c a' b' c' : Ends} → a ≡ a' → b ≡ b' → c ≡ c' → trio a b c ≡ trio a' b' c'
three p q r = rw (p, q, r) refl

-- ---- v and survival are at most one
pub height_at_most : (H' H : ℕ) (ds : List ℕ) (i : ℕ) → get_or (row_vs H' H ds) i 0 ≤ 916500
unfolding row_vs
height_at_most H' H ds zero = row_at_most H' H (get_or ds 0 0)
height_at_most H' H ds (suc zero) = row_at_most H' H (get_or ds 1 0)
height_at_most H' H ds (suc (suc zero)) = row_at_most H' H (get_or ds 2 0)
height_at_most H' H ds (suc (suc (suc i))) = omega arith

pub row_weights : (H' H : ℕ) (ds : List ℕ) (kind : ℕ) {rs : Results} → Given rs → RowWeights (row_vs H' H ds) (survivals_of kind rs)
row_weights H' H ds kind {rs} h = record { each = each }
  where
    each : (i : ℕ) → Weights (get_or (row_vs H' H ds) i 0) (get_or (survivals_of kind rs) i no_survival)
    each i =
        let s = get_or (factors_of kind rs) i (given 0) in
        let p = row_sensible kind rs h.each (λ j. (h.loads j).some) i in
        let r = row_rounds kind rs i in
        record { height = height_at_most H' H ds i; bottom = rw r.bottom (le_trans (ends_ordered s p) (ends_at_most s p)); top = rw r.top (ends_at_most s p) }
