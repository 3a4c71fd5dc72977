-- Each row's survival at each draught is, exactly, the regulation's s of its own result with its own opening, the least of two, a passenger ship's, or what was
-- given. Assumes nothing.
use Prim.Native.Nat.{ℕ, ◌+◌, ◌<◌}
use mathlib.Core.Path.{◌≡◌, refl}
use mathlib.Core.List.{List, [], ◌∷◌}
use mathlib.Core.Logic.{inl, inr}
use native.Mathlib.Omega.{arith}
use lib.ListN.{get_or}
use Rattle.laws.specs.Fraction.{lesser}
use Rattle.laws.specs.Lists.{Every}
use Rattle.records.specs.declared.Finding.{Finding}
use Rattle.records.specs.declared.Hull.{Hull}
use Rattle.records.specs.Results.{Results}
use Rattle.regulation.specs.RegulationIndex.{Numbers, Order}
use Rattle.regulation.proofs.RegulationSurvival.{survival_is_01's}
use Rattle.regulation.proofs.RegulationLeast.{least_is_01's}
use Rattle.regulation.proofs.RegulationPassengers.{passenger_survival_is_02's}
use Rattle.indices.specs.Exact.{Each}
use Rattle.survival.specs.Survival.{given, fourth_of, worse_of, counts_at, factor_of, factor_at, factors_of, nothing, still, passenger_fourth}
use Rattle.survival.proofs.Worse.{lower_survival_counts, factors_at, cargo_factor}
use Rattle.survival.proofs.Passengers.{passenger_rows}
use Rattle.casefile.specs.Record.{Row}
use Rattle.casefile.specs.Valid.{ValidRow}
use Rattle.laws.proofs.Tests.{holds}
use Rattle.indices.specs.Index.{Given}
use Rattle.casefile.specs.Layout.{takes}
use Rattle.casefile.proofs.RowKinds.{RowKind, one_set, survivals, two_sets_lem, passenger, of_taken}
use Rattle.answers.proofs.ValidCase.{results_given}
use Rattle.casefile.proofs.Soundness.{sound}
use Rattle.rows.specs.declared.Standing.{Standing}
use Rattle.rows.specs.Standing.{nowhere, stands}
use Rattle.rows.proofs.Stands.{head_is}
use Rattle.promises.specs.Rows.{exact_rows}
use Rattle.promises.specs.OfSolas.{FourthPowerOf, SurvivalOfSolas, RowOfSolas, SurvivalsOfSolas, LeastOfSolas, LeastSurvivalsOfSolas, PassengerRowOfSolas, PassengerSurvivalsOfSolas}

-- a valid row has one of the kinds
kind_of_lem : (h : Hull) (r : Row) → ValidRow h r → RowKind r.head.kind
kind_of_lem h r v = of_taken h.kind r.head.kind (holds (takes h.kind r.head.kind) v.taken)

module _ (N : Numbers) where
  power : (f : Finding) → FourthPowerOf N f (fourth_of f)
  power f s p = survival_is_01's N f.lever f.range f.heel f.opening p.openings s p.critical p.taken

  -- what counts of two results, in a row of any kind of a cargo ship
  one : (kind : ℕ) (fs : List Finding) (j : ℕ) → RowKind kind → (kind ≡ 7 → ⊥) → SurvivalOfSolas N kind (get_or fs j nothing) (get_or fs (3 + j) nothing) (factor_of kind (counts_at kind fs j))
  unfolding factor_of counts_at
  one kind fs j (one_set e) n = rw e (inl (refl, power (get_or fs j nothing)))
  one kind fs j (survivals e) n = rw e (refl, refl)
  one kind fs j (passenger e) n = absurd (n e)
  one kind fs j (two_sets_lem e) n =
      let f = get_or fs j nothing in
      let g = get_or fs (3 + j) nothing in
      rw e (inr (refl, fourth_of f, fourth_of g, (lower_survival_counts.results f g).exact, power f, power g))

  three : (kind : ℕ) (rs : Results) → RowKind kind → (kind ≡ 7 → ⊥) → (j : ℕ) → j < 3 →
      SurvivalOfSolas N kind (get_or rs.findings j nothing) (get_or rs.findings (3 + j) nothing) (get_or (factors_of kind rs) j (given 0))
  three kind rs k n j l = rw (factors_at kind rs j l, cargo_factor kind rs j n) (one kind rs.findings j k n)

  rows : (h : Hull) (y : Standing) (rs : List Row) → Every (ValidRow h) rs → Each (RowOfSolas N) rs (exact_rows h y rs)
  unfolding exact_rows
  rows h y [] v = tt
  rows h y (r ∷ rs) v = (λ n j l. rw (head_is y r.head) (three r.head.kind r.results (kind_of_lem h r v.0) n j l), rows h (stands y r.head) rs v.1)

pub survivals_of_solas : SurvivalsOfSolas
survivals_of_solas N f c e = rows N c.hull nowhere c.rows (sound f c e).1.rows

-- ---- s-min

module _ (N : Numbers) (O : Order N) where
  least : (h : Hull) (y : Standing) (rs : List Row) → Each (LeastOfSolas N O) rs (exact_rows h y rs)
  unfolding exact_rows
  least h y [] = tt
  least h y (r ∷ rs) = (
    λ k j l.
        let f = get_or r.results.findings j nothing in
        let g = get_or r.results.findings (3 + j) nothing in (
          lesser (fourth_of f) (fourth_of g),
          rw (head_is y r.head, k) (lower_survival_counts.rows r.results j l).exact,
          λ s₁ s₂ s p q m. least_is_01's N O f.lever f.range f.heel f.opening g.lever g.range g.heel g.opening s₁ s₂ s p q m,
        ),
    least h (stands y r.head) rs,
  )

pub least_survivals_of_solas : LeastSurvivalsOfSolas
least_survivals_of_solas N O f c e = least N O c.hull nowhere c.rows

-- ---- passenger ships

module _ (N : Numbers) (O : Order N) where
  aboard : (h : Hull) (y : Standing) (rs : List Row) → Every (ValidRow h) rs → Each (PassengerRowOfSolas N O) rs (exact_rows h y rs)
  unfolding exact_rows
  aboard h y [] v = tt
  aboard h y (r ∷ rs) v = (
    λ k j l.
        let f = get_or r.results.findings j nothing in
        let w = get_or r.results.floodings j still in (
          passenger_fourth f w,
          rw (head_is y r.head, k) (passenger_rows r.results j l).exact,
          λ s p.
              passenger_survival_is_02's N O f.lever f.range f.heel f.opening w.lever w.range w.heel w.roro w.displacement w.moment s
              ((results_given h r v.0).loads j).some p,
        ),
    aboard h (stands y r.head) rs v.1,
  )

pub passenger_survivals_of_solas : PassengerSurvivalsOfSolas
passenger_survivals_of_solas N O f c e = aboard N O c.hull nowhere c.rows (sound f c e).1.rows
