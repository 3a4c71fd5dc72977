-- `spans::span_ends` meets its contract, by the ends that the span touches. Assumes nothing.
use mathlib.Core.Path.{◌≡◌, sym, ◌∙◌}
use Prim.Native.Nat.{◌-◌}
use native.Mathlib.Omega.{arith}
use Rattle.solas.specs.Span.{neither, one, both}
use Rattle.spans.specs.Span.{p_ends}
use Rattle.spans.proofs.Span.{inner_ends, neither_touched, both_touched, one_touched, whole_ends, span_of}
use Rattle.spans.proofs.span_ends.Goals.{After-billionths-p}
use Rattle.spans.proofs.span_ends.Goals as goal

inner_is : (c : After-billionths-p) → c.billionths-p.result ≡ p_ends c.args.l (c.args.fwd - c.args.aft)
inner_is c =
    c.billionths-p.ensures ∙ sym (inner_ends c.args.l (c.args.fwd - c.args.aft) c.requires.0 c.inner-r.ensures)

pub returns-in-0 : goal.returns-in-0
unfolding p_ends
returns-in-0 c =
    let i = inner_is (goal.at.returns-in-0 c).After-billionths-p in
    let t = neither_touched _ (sym c.ends_touched.ensures ∙ c.in-0.is) in
    span_of c.args.l c.args.aft c.args.fwd neither t i i

pub returns-in-2 : goal.returns-in-2
returns-in-2 c =
    let t = both_touched _ (sym c.ends_touched.ensures ∙ c.in-2.is) in
    span_of c.args.l c.args.aft c.args.fwd both t (inner_is (goal.at.returns-in-2 c).After-billionths-p) (sym (whole_ends c.args.l (c.args.fwd - c.args.aft)))

pub returns-in_default : goal.returns-in_default
returns-in_default c =
    let e = c.ends_touched.ensures in
    let none = λ (z : c.ends_touched.result ≡ 0). let w : ⊥ = omega arith in w in
    let two = λ (z : c.ends_touched.result ≡ 2). let w : ⊥ = omega arith in w in
    let t = one_touched _ (λ z. none (e ∙ z)) (λ z. two (e ∙ z)) in
    span_of _ _ _ one t (inner_is (goal.at.returns-in_default c).After-billionths-p) c.at_one_end-chance.ensures
