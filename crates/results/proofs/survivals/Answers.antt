-- `results::survivals` meets its contract, draught by draught. Assumes nothing.
use borrow.Author.Rules.{rules}
use Prim.Native.Nat.{ℕ}
use mathlib.Core.Path.{◌≡◌, refl, ap, sym, ◌∙◌}
use mathlib.Core.List.{List}
use lib.ListN.{get_or}
use Rattle.laws.proofs.Arrays.{three_mapped}
use Rattle.laws.proofs.Lists.{three_same}
use Rattle.records.specs.declared.Finding.{Finding}
use Rattle.records.specs.Results.{found}
use Rattle.survival.specs.Survival.{nothing, survival_of, survival_at, survivals_of}
use Rattle.survival.proofs.Worse.{cargo_survival, counts_alone}
use Rattle.results.proofs.survivals.Goals as goal

module _ (kind : ℕ) (fs : List Finding) (n : (kind ≡ 5 → ⊥) × (kind ≡ 7 → ⊥)) where
  -- at draught j
  alone : (j : ℕ) → survival_of kind (get_or fs j nothing) ≡ survival_at kind (found fs) j
  alone j = sym (cargo_survival kind (found fs) j n.1 ∙ ap (survival_of kind) (counts_alone kind fs j n.0))

pub returns : goal.returns
unfolding survivals_of
returns c =
    let kind = c.args.kind in
    let at = alone kind c.args.fs c.requires in
    three_mapped (λ p. p.0.now ≡ kind) (survival_of kind) (λ p x y q k e. search rules) c.args.fs c.map.result nothing refl c.map.ensures.items
    ∙ three_same (at 0) (at 1) (at 2)
