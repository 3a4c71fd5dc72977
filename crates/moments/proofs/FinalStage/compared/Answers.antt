-- `moments::FinalStage::compared` meets its contract: below the number between, at it, or above. Assumes nothing.
use borrow.Author.Tests.{leb-true, leb-false}
use mathlib.Core.Path.{sym, ◌∙◌}
use Rattle.wide.specs.Limbs.{value}
use Rattle.moments.proofs.Held.{below_middle, at_middle, above_middle}
use Rattle.moments.proofs.FinalStage.compared.Goals as goal

pub returns-then-not-at_most : goal.returns-then-not-at_most
returns-then-not-at_most c =
    let k = leb-false (value c.times_denominator-at_middle.result) (value c.numerator-survival.result) (sym c.at_most.ensures ∙ c.if-not-at_most.true) in
    below_middle c.requires (rw (c.times_denominator-at_middle.ensures.number, c.numerator-survival.ensures.number) at k)

pub returns-then-at_most : goal.returns-then-at_most
returns-then-at_most c =
    let a = value c.numerator-survival.result in
    let b = value c.times_denominator-at_middle.result in
    let k = leb-true b a (sym c.at_most.ensures ∙ c.if-not-at_most.false) in
    let l = leb-true a b (sym c.at_most-2.ensures ∙ c.if-at_most.true) in
    let e = c.times_denominator-at_middle.ensures.number in
    let f = c.numerator-survival.ensures.number in
    at_middle c.requires (rw (e, f) at k) (rw (e, f) at l)

pub returns : goal.returns
returns c =
    let l = leb-false (value c.numerator-survival.result) (value c.times_denominator-at_middle.result) (sym c.at_most-2.ensures ∙ c.if-at_most.false) in
    above_middle c.requires (rw (c.times_denominator-at_middle.ensures.number, c.numerator-survival.ensures.number) at l)
