-- `results::worse_survivals` meets its contract, draught by draught. Assumes nothing.
use borrow.Author.Rules.{rules}
use Prim.Native.Nat.{ℕ, ◌<◌}
use native.Mathlib.Omega.{arith}
use mathlib.Core.Path.{◌≡◌, refl, ap, sym, ◌∙◌}
use mathlib.Core.List.{List, ◌++◌}
use lib.Dec.{lit<}
use lib.ListN.{length, get_or}
use Rattle.laws.proofs.Arrays.{three_made}
use Rattle.laws.proofs.Lists.{three_same}
use Rattle.records.specs.declared.Finding.{Finding}
use Rattle.records.specs.declared.Survival.{Survival}
use Rattle.records.specs.Results.{found}
use Rattle.survival.specs.Survival.{nothing, survival_of, worse_of, survival_at, survivals_of}
use Rattle.survival.proofs.Worse.{cargo_survival, counts_of_two}
use Rattle.results.proofs.worse_survivals.Goals as goal

-- at draught j
abbrev worse_at : List Finding → List Finding → ℕ → Survival
worse_at first second j = survival_of 5 (worse_of (get_or first j nothing) (get_or second j nothing))

there : (first second : List Finding) → length first ≡ 3 → (j : ℕ) → j < 3 → worse_at first second j ≡ survival_at 5 (found (first ++ second)) j
there first second n j l = sym (cargo_survival 5 (found (first ++ second)) j (λ e. omega arith) ∙ ap (survival_of 5) (counts_of_two first second j n l))

pub returns : goal.returns
unfolding survivals_of
returns c =
    let first = c.args.first in
    let second = c.args.second in
    let at = there first second c.well_formed.0.1.0.1 in
    three_made (λ p. (p.0.now ≡ first) × (p.1.now ≡ second)) (worse_at first second) (λ p j y q l k e. search rules) c.from_fn.result (refl, refl) c.from_fn.ensures.items
    ∙ three_same (at 0 (lit< tt)) (at 1 (lit< tt)) (at 2 (lit< tt))
