-- `passengers::passenger_survivals` meets its contract, draught by draught. Assumes nothing.
use borrow.Author.Rules.{rules}
use Prim.Native.Nat.{ℕ, ◌<◌}
use mathlib.Core.Path.{◌≡◌, refl, ap, ◌∙◌}
use mathlib.Core.List.{List}
use native.Mathlib.Omega.{arith}
use lib.Dec.{lit<}
use lib.ListN.{length, get_or}
use Rattle.std.proofs.lemmas.Fn.{serves_by}
use Rattle.std.proofs.lemmas.List.{get_or_default}
use Rattle.laws.proofs.Arrays.{three_made}
use Rattle.laws.proofs.Lists.{three_same}
use Rattle.records.specs.declared.Finding.{Finding}
use Rattle.records.specs.declared.Flooding.{Flooding}
use Rattle.records.specs.declared.Survival.{Survival}
use Rattle.survival.specs.Survival.{nothing, still, passenger_survival, survival_at, survivals_of, Loaded}
use Rattle.passengers.specs.Numbers.{Loads}
use Rattle.passengers.proofs.passenger_survivals.Goals as goal

-- what a row tells at draught j, as an array is read, and its survival there
abbrev flooding : List Flooding → ℕ → Flooding
flooding ws j = get_or ws j (record { displacement = 0; moment = 0; lever = 0; range = 0; heel = 0; roro = 0 })

abbrev survival : List Finding → List Flooding → ℕ → Survival
survival fs ws j = passenger_survival (get_or fs j nothing) (flooding ws j)

module _ (fs : List Finding) (ws : List Flooding) (n : length ws ≡ 3) where
  there : (j : ℕ) → j < 3 → flooding ws j ≡ get_or ws j still
  there j l = get_or_default ws j _ still (omega (arith, n))

  loaded : Loads fs ws → (j : ℕ) → j < 3 → Loaded (get_or fs j nothing) (flooding ws j)
  loaded h j l = rw (there j l) (h j)

  at : (j : ℕ) → j < 3 → survival fs ws j ≡ survival_at 7 (record { findings = fs; floodings = ws }) j
  unfolding survival_at
  at j l = ap (passenger_survival (get_or fs j nothing)) (there j l)

pub from_fn-requires : goal.from_fn-requires
from_fn-requires c =
    let fs = c.args.finals in
    let ws = c.args.floodings in (
      lit< tt,
      serves_by _ (λ xs p. (p.0.now ≡ fs) × (p.1.now ≡ ws)) (λ xs p j q k e. search rules) _ _ _ _ (refl, refl)
          (λ xs t p j u y s k.
          let l : j < 3 = omega (arith, s.0, s.1) in
          let r = loaded fs ws c.well_formed.1.0.1.0.1 c.requires j l in
          (λ a b d e f. omega (arith, l), λ a b d e f. l, λ a b d e f g. omega (arith, l), λ a b d e f g. l, λ a b d e f g h i. rw (k.0, k.1) r)),
    )

pub returns : goal.returns
unfolding survivals_of
returns c =
    let fs = c.args.finals in
    let ws = c.args.floodings in
    let same = at fs ws c.well_formed.1.0.1.0.1 in
    three_made (λ p. (p.0.now ≡ fs) × (p.1.now ≡ ws)) (survival fs ws) (λ p j y q l k e. search rules) c.from_fn.result (refl, refl) c.from_fn.ensures.items
    ∙ three_same (same 0 (lit< tt)) (same 1 (lit< tt)) (same 2 (lit< tt))
