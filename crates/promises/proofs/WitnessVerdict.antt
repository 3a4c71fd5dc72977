-- What the fourth promise says of three ships of one zone and one row, one for each verdict, worked out as numbers. Assumes nothing.
use mathlib.Core.Path.{◌≡◌, refl}
use mathlib.Core.List.{List, [], ◌∷◌}
use mathlib.Core.Logic.{inr}
use native.Mathlib.Omega.{arith}
use Rattle.laws.specs.Fraction.{Fraction, den, whole, Is, ◌≼◌, ◌≺◌, ◌less◌over◌, ◌⊹◌, ◌⊝◌, ◌⊛◌}
use Rattle.laws.proofs.Fraction.{positive, is_nothing, is_self, is_written, is_⊹, is_⊛, below, ≼_trans}
use Rattle.laws.proofs.FractionCompare.{below_then_strictly}
use Rattle.solas.specs.Span.{touch, p, P}
use Rattle.solas.specs.Penetration.{C, G1, G3, G, Q}
use Rattle.solas.specs.Share.{within, share, row_share}
use Rattle.solas.specs.Height.{v, v_at, row_v}
use Rattle.solas.specs.Index.{dp, R, partial_mark}
use Rattle.heights.specs.Height.{row_vs}
use Rattle.survival.specs.Survival.{counts_at, ten_thousandths, factor_of, factor_at, factors_of}
use Rattle.indices.specs.Exact.{RowAt, NoneAbove, weight, weighted_sum, Thrice, row_at}
use Rattle.verdicts.specs.Required.{required_of, mark_of}
use Rattle.verdicts.specs.Promises.{at_light}
use Rattle.casefile.specs.Order.{same_group, same_layer}
use Rattle.rows.specs.Standing.{nowhere, stands}
use Rattle.promises.specs.Rows.{exact_row, exact_rows, rows_of}
use Rattle.promises.specs.Promises.{Kept}
use Rattle.promises.proofs.WitnessNumbers.{Said, Compared, less_than, not_so}
use Rattle.promises.proofs.WitnessCases.{meeting, meeting_answer, failing_row, failing, failing_answer, unsettled, unsettled_answer}

-- one row; "meets" is no word on lists that are below, and holds each partial index to R/2
module _ (said : Kept meeting meeting_answer) where
  pub rows_counted : Said said.rows
  rows_counted = refl

  abbrev none : Thrice (List Fraction)
  none = record { deepest = whole 0 ∷ []; partial = whole 0 ∷ []; light = whole 0 ∷ [] }

  pub meets : Said (said.verdict.meets refl none)
  unfolding rows_of exact_rows stands same_group same_layer counts_at factors_of factor_at factor_of ◌less◌over◌
  meets h = absurd (not_so h.0.0.1 refl)

  pub one : Compared (λ (e : 1 ≡ 1). (said.verdict.by_ends_lem.one.0 e).attained) × Compared (λ (e : 1 ≡ 1). (said.verdict.by_ends_lem.one.0 e).at_deepest) ×
      Compared (λ (e : 1 ≡ 1). (said.verdict.by_ends_lem.one.0 e).at_partial) × Compared (λ (e : 1 ≡ 1). (said.verdict.by_ends_lem.one.0 e).at_light)
  unfolding required_of mark_of R partial_mark ◌⊛◌ ◌less◌over◌
  one = (λ e. refl, λ e. refl, λ e. refl, λ e. refl)

-- "fails" where Al alone is short: each list with nothing above gives it 1/5 at most, and R/2 is 31/126
module _ (said : Kept failing failing_answer) where
  abbrev light : RowAt
  light = row_at 2 (exact_row failing.hull (stands nowhere failing_row.head) failing_row.results)

  weighs_one : Is (weight light) 1 0 1
  unfolding stands same_group same_layer row_share share within Q G P p C G1 G3 touch row_vs row_v v_at v dp ◌⊹◌ ◌⊝◌ ◌⊛◌ ◌less◌over◌
  weighs_one = record { cross = refl }

  as_it_is : (x : Fraction) → weighted_sum (rows_of failing).light (x ∷ []) ≼ x
  unfolding rows_of exact_rows
  as_it_is x =
      let once : Is (weight light ⊛ x) x.up x.down (den x) = is_written (is_⊛ weighs_one (is_self x)) (omega arith) (omega arith) (omega arith) in
      below (positive x) (is_⊹ once (is_nothing (positive x))) (is_self x) (omega arith)

  short : (mark : Fraction) → ten_thousandths 2000 ≺ mark → (xs : List Fraction) → NoneAbove (rows_of failing).light xs → weighted_sum (rows_of failing).light xs ≺ mark
  unfolding rows_of exact_rows stands same_group same_layer counts_at factors_of factor_at factor_of
  short mark l [] h = absurd h
  short mark l (x ∷ []) h = below_then_strictly (≼_trans (as_it_is x) h.0.1) l
  short mark l (x ∷ y ∷ xs) h = absurd h.1

  pub fails : Said said.verdict.fails
  unfolding required_of mark_of R partial_mark ◌⊛◌ ◌less◌over◌
  fails e = at_light (short _ (less_than refl))

-- a third verdict
module _ (said : Kept unsettled unsettled_answer) where
  pub third : Said said.verdict.no_other
  third = inr (inr refl)
