-- `penetration::g_ends` meets its contract, by the ends that the span touches. Assumes nothing.
use mathlib.Core.Path.{sym, ◌∙◌}
use Rattle.spans.proofs.Span.{neither_touched, one_touched}
use Rattle.penetration.proofs.Reached.{g_of_one_end, g_of_inner}
use Rattle.penetration.proofs.g_ends.Goals as goal

pub returns-in-0-true : goal.returns-in-0-true
returns-in-0-true c =
    g_of_inner c.requires (neither_touched _ (sym c.ends_touched-touched.ensures ∙ c.in-0-true.is-0)) c.in-0-true.ensures c.portion-part.ensures

pub returns-in-0-false : goal.returns-in-0-false
returns-in-0-false c =
    rw c.less.ensures
    (g_of_inner c.requires (neither_touched _ (sym c.ends_touched-touched.ensures ∙ c.in-0-false.is-0)) c.in-0-false.ensures c.portion-part.ensures)

pub returns-in_default-true : goal.returns-in_default-true
returns-in_default-true c =
    let e = c.ends_touched-touched.ensures in
    rw (c.halves.ensures, c.with.ensures)
    (g_of_one_end c.requires (one_touched _ (λ z. c.in_default-true.is-0.1 (e ∙ z)) (λ z. c.if-touched-eq2.false (e ∙ z))) c.in_default-true.ensures c.portion-part.ensures)

pub returns-in_default-false : goal.returns-in_default-false
returns-in_default-false c =
    let e = c.ends_touched-touched.ensures in
    rw c.less-in_default-false.ensures
    (g_of_one_end c.requires (one_touched _ (λ z. c.in_default-false.is-0.1 (e ∙ z)) (λ z. c.if-touched-eq2.false (e ∙ z))) c.in_default-false.ensures c.portion-part.ensures)
