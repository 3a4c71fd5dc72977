-- The survival of two results is one exactly when neither of them has a mark. Assumes nothing.
use Prim.Native.Nat.{◌^◌, ◌≤◌}
use mathlib.Core.Path.{◌≡◌, ap, sym}
use native.Mathlib.Omega.{arith}
use Rattle.records.specs.declared.Finding.{Finding}
use Rattle.survival.specs.Survival.{root, fourth_of, survival_of}
use Rattle.survival.specs.Telling.{Found}
use Rattle.survival.specs.Worse.{OneOfTwo}
use Rattle.survival.proofs.Factors.{as_found, fourth_sensible}
use Rattle.survival.proofs.Bounds.{ends_ordered, ends_at_most}
use Rattle.survival.proofs.Telling.{one_exactly_when_unmarked}
use Rattle.survival.proofs.Worse.{lower_survival_counts}

five_found : Found 5
five_found = (λ e. omega arith, λ e. omega arith)

at_most_one : (f : Finding) → ((survival_of 5 f).bottom ≤ 10 ^ 4) × ((survival_of 5 f).top ≤ 10 ^ 4)
at_most_one f =
    let p = fourth_sensible f in
    let s = root (fourth_of f) in
    rw (as_found 5 f five_found.0) (omega (arith, ends_ordered s p, ends_at_most s p), ends_at_most s p)

pub one_of_two : OneOfTwo
one_of_two f g =
    let two = lower_survival_counts.results f g in
    let said = one_exactly_when_unmarked in (
      λ one. (
        (said.bottom 5 f five_found).0 (omega (arith, one.0, two.bottom, (at_most_one f).0, (at_most_one g).0)),
        (said.bottom 5 g five_found).0 (omega (arith, one.0, two.bottom, (at_most_one f).0, (at_most_one g).0)),
      ),
      λ none. (
        omega (arith, two.bottom, (said.bottom 5 f five_found).1 none.0, (said.bottom 5 g five_found).1 none.1),
        omega (arith, two.top, (said.top 5 f five_found).1 none.0, (said.top 5 g five_found).1 none.1),
      ),
    )
