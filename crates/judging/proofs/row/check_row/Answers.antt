-- `check_row` meets its contract. Assumes nothing.
use mathlib.Core.Path.{sym, ◌∙◌}
use Rattle.judging.proofs.CodeJudging.{both_fit, row_by_closure}
use Rattle.judging.proofs.row.check_row.Goals as goal

pub returns-then-leaves_open : goal.returns-then-leaves_open
returns-then-leaves_open c =
    row_by_closure _ _ _ _ c.if-p-ge500.false (both_fit _ _ _ _ _ c.head_fits.ensures (c.if-not-head_fits-fit.false)) (sym c.out_of_order.ensures ∙ c.if-out_of_order.false) _ (sym c.leaves_open.ensures ∙ c.if-leaves_open.true)

pub returns : goal.returns
returns c =
    row_by_closure _ _ _ _ c.if-p-ge500.false (both_fit _ _ _ _ _ c.head_fits.ensures (c.if-not-head_fits-fit.false)) (sym c.out_of_order.ensures ∙ c.if-out_of_order.false) _ (sym c.leaves_open.ensures ∙ c.if-leaves_open.false)
