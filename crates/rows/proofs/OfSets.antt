-- The survivals of a kept row from its results, as the code takes them: one set, two, or what a passenger ship's row tells. Assumes nothing.
use Prim.Native.Nat.{ℕ, ◌<◌}
use mathlib.Core.Path.{◌≡◌, refl, ◌∙◌}
use mathlib.Core.List.{List, ◌++◌}
use lib.ListN.{get_or, take, drop, take-append-drop}
use borrow.Author.Tests.{ne_eqb}
use Rattle.records.specs.declared.Finding.{Finding}
use Rattle.records.specs.declared.Flooding.{Flooding}
use Rattle.records.specs.declared.Survival.{Survival}
use Rattle.records.specs.Results.{found}
use Rattle.survival.specs.Survival.{nothing, still, Loaded, counts_at, survival_at, survivals_of}
use Rattle.indices.specs.Index.{Given}
use Rattle.casefile.specs.Layout.{head_of, set_of, results_of, row_of}

module _ (place : List ℕ) (kind : ℕ) (k : kind ≡ (row_of place).head.kind) {first : List Finding} (e : first ≡ take 3 (row_of place).results.findings) where
  pub of_one_set : {ss : List Survival} → (kind ≡ 5 → ⊥) → (kind ≡ 7 → ⊥) → ss ≡ survivals_of kind (found first) →
      ss ≡ survivals_of (row_of place).head.kind (row_of place).results
  unfolding survivals_of survival_at counts_at results_of set_of
  of_one_set single cargo f = f ∙ rw (e, ← k, ne_eqb kind 5 single, ne_eqb kind 7 cargo) refl

  pub of_two_sets : {second : List Finding} {ss : List Survival} → kind ≡ 5 → second ≡ drop 3 (row_of place).results.findings → ss ≡ survivals_of 5 (found (first ++ second)) →
      ss ≡ survivals_of (row_of place).head.kind (row_of place).results
  unfolding survivals_of survival_at
  of_two_sets five g f = f ∙ rw (e, g, ← k, five, take-append-drop 3 (row_of place).results.findings) refl

  -- a passenger ship's has three results and no more
  alone : kind ≡ 7 → take 3 (row_of place).results.findings ≡ (row_of place).results.findings
  unfolding head_of results_of set_of
  alone seven = rw (← k, seven) refl

  pub of_passengers : {floodings : List Flooding} {ss : List Survival} → kind ≡ 7 → floodings ≡ (row_of place).results.floodings →
      ss ≡ survivals_of 7 (record { findings = first; floodings = floodings }) → ss ≡ survivals_of (row_of place).head.kind (row_of place).results
  of_passengers seven g f = f ∙ rw (e ∙ alone seven, g, ← k, seven) refl

  pub loaded : {floodings : List Flooding} → kind ≡ 7 → floodings ≡ (row_of place).results.floodings → Given (row_of place).results → (j : ℕ) → Loaded (get_or first j nothing) (get_or floodings j still)
  loaded seven g h j = rw (e ∙ alone seven, g) (h.loads j)
