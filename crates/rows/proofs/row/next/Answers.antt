-- `rows::next` meets its contract: one of the three ways to stand. Assumes nothing.
use mathlib.Core.Path.{sym, ◌∙◌}
use Rattle.rows.proofs.Stands.{in_layer_lem, in_next_layer, in_new_group}
use Rattle.rows.proofs.row.next.Goals as goal

pub returns-then-r-last : goal.returns-then-r-last
returns-then-r-last c = let a = c.args in in_layer_lem a.y a.r (sym c.eq.ensures ∙ c.if-eq.true) c.if-r-last.true

pub returns-then-eq : goal.returns-then-eq
returns-then-eq c = let a = c.args in in_next_layer a.y a.r (sym c.eq.ensures ∙ c.if-eq.true) c.if-r-last.false

pub returns : goal.returns
returns c = let a = c.args in in_new_group a.y a.r (sym c.eq.ensures ∙ c.if-eq.false)
