-- `check_end` meets its contract. Assumes nothing.
use mathlib.Core.Path.{sym, ◌∙◌}
use Rattle.judging.proofs.CodeJudging.{end_by_closure}
use native.Mathlib.Omega.{arith}
use Rattle.judging.proofs.ends.check_end.Goals as goal

pub returns-then-ends_open : goal.returns-then-ends_open
returns-then-ends_open c = end_by_closure _ _ _ (omega arith) _ (sym c.ends_open.ensures ∙ c.if-ends_open.true)

pub returns : goal.returns
returns c = end_by_closure _ _ _ (omega arith) _ (sym c.ends_open.ensures ∙ c.if-ends_open.false)
