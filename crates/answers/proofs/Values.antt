-- A and the verdict of a ship of 100 m, whose R is 31/63, one ship for each verdict; and what is left on a sheet of two or three numbers. Assumes nothing.
use Prim.Native.Nat.{ℕ}
use mathlib.Core.Path.{◌≡◌, refl}
use mathlib.Core.List.{List, [], ◌∷◌}
use Rattle.laws.specs.Fraction.{◌less◌over◌, ◌⊛◌}
use Rattle.laws.specs.Rounding.{ceil}
use Rattle.records.specs.declared.Ends.{Ends}
use Rattle.records.specs.declared.Hull.{Hull}
use Rattle.records.specs.Results.{found}
use Rattle.solas.specs.Count.{added, taken}
use Rattle.solas.specs.Index.{R, partial_mark}
use Rattle.chances.specs.Share.{sums_of, lowest, highest, row_of, row_ends}
use Rattle.numbers.specs.Ratio.{ratio_of}
use Rattle.indices.specs.Index.{trio, attained_of}
use Rattle.verdicts.specs.Required.{required_of, mark_of}
use Rattle.verdicts.specs.Verdict.{reaches, all_reach, verdict_of}
use Rattle.casefile.specs.Record.{Row, Case}
use Rattle.casefile.specs.Reading.{refused, accepted}
use Rattle.casefile.specs.Answer.{no_hull}
use Rattle.casefile.specs.Order.{same_group, same_layer}
use Rattle.rows.specs.Standing.{stands}
use Rattle.rows.specs.Work.{share_at, shares_from}
use Rattle.answers.specs.Answer.{figures, shares, refusal, answered, sheet_after}

abbrev ends : ℕ → ℕ → Ends
ends lower upper = record { lower = lower; upper = upper }

abbrev metres100 : Hull
metres100 = record { kind = 1; length = 10000; breadth = 0; deepest = 0; light = 0; lifeboats = 0; excess = 0; rule = 0; zones = 0; places = [] }

-- with one row, and As, Ap, Al
abbrev Figured : Ends → Ends → Ends → Ends → ℕ → Type 0
Figured s p l a verdict = figures metres100 1 (trio s p l) ≡ record { number = 0; line = 0; verdict = verdict; rows = 1; attained = a; partials = trio s p l }

pub record Values : Type 0 where
  pub meets : Figured (ends 1000000000 1000000000) (ends 1000000000 1000000000) (ends 300000000 300000001) (ends 860000000 860000001) 1
  pub fails : Figured (ends 1000000000 1000000000) (ends 1000000000 1000000000) (ends 200000000 200000001) (ends 840000000 840000001) 2
  pub unsettled : Figured (ends 492000000 492100000) (ends 492000000 492100000) (ends 492000000 492100000) (ends 492000000 492100000) 3

pub figures_are : Values
unfolding figures required_of mark_of attained_of verdict_of all_reach reaches ratio_of R partial_mark ceil ◌⊛◌ ◌less◌over◌
figures_are = record { meets = refl; fails = refl; unsettled = refl }

-- ---- a sheet that holds 7 and 8, after a refusal, after a case with no row, and after one with a row of no zone, whose share is 0

abbrev case : List Row → Case
case rows = record { hull = no_hull; rows = rows }

abbrev zoneless : Row
zoneless = record { head = record { kind = 3; first = 1; count = 0; depth = 1; height = 1 }; results = found [] }

pub record Sheets : Type 0 where
  pub number_first : answered (refused 3 1) 0 ≡ refusal 3 1
  pub refusal_leaves : sheet_after (refused 3 1) (7 ∷ 8 ∷ []) ≡ 7 ∷ 8 ∷ []
  pub rest_stays : sheet_after (accepted (case [])) (7 ∷ 8 ∷ []) ≡ 7 ∷ 8 ∷ []
  pub shares_written : sheet_after (accepted (case (zoneless ∷ []))) (7 ∷ 8 ∷ []) ≡ 0 ∷ 0 ∷ []
  -- and of three numbers the third stays
  pub shares_then_rest : sheet_after (accepted (case (zoneless ∷ []))) (7 ∷ 8 ∷ 9 ∷ []) ≡ 0 ∷ 0 ∷ 9 ∷ []

pub sheets_are : Sheets
unfolding answered sheet_after shares shares_from share_at stands same_group same_layer row_ends row_of lowest highest sums_of added taken
sheets_are = record { number_first = refl; refusal_leaves = refl; rest_stays = refl; shares_written = refl; shares_then_rest = refl }
