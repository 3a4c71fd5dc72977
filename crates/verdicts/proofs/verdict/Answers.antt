-- `verdicts::verdict` meets its contract, test by test. Assumes nothing.
use mathlib.Core.Path.{refl}
use borrow.Author.Rules.{rules}
use Rattle.records.specs.declared.Ends.{Ends}
use Rattle.records.specs.Ends.{no_ends}
use Rattle.indices.proofs.Draughts.{three_mapped}
use Rattle.verdicts.specs.Verdict.{verdict_of}
use Rattle.verdicts.proofs.Marks.{all_reached}
use Rattle.verdicts.proofs.verdict.Goals as goal

pub returns-then-all_reach : goal.returns-then-all_reach
unfolding verdict_of
returns-then-all_reach c =
    let low = all_reached (λ e. e.lower) c.args.index c.args.partials c.args.standard.required c.args.standard.mark
    (three_mapped _ (λ (e : Ends). e.lower) (λ x y q k. search rules) no_ends c.args.partials c.map-lower.result c.map-lower.ensures.items) c.all_reach.ensures in
    rw (← low, c.if-all_reach.true) refl

pub returns-then-not-all_reach : goal.returns-then-not-all_reach
unfolding verdict_of
returns-then-not-all_reach c =
    let low = all_reached (λ e. e.lower) c.args.index c.args.partials c.args.standard.required c.args.standard.mark
    (three_mapped _ (λ (e : Ends). e.lower) (λ x y q k. search rules) no_ends c.args.partials c.map-lower.result c.map-lower.ensures.items) c.all_reach.ensures in
    let high = all_reached (λ e. e.upper) c.args.index c.args.partials c.args.standard.required c.args.standard.mark
    (three_mapped _ (λ (e : Ends). e.upper) (λ x y q k. search rules) no_ends c.args.partials c.map-upper.result c.map-upper.ensures.items) c.all_reach-2.ensures in
    rw (← low, c.if-all_reach.false, ← high, c.if-not-all_reach.true) refl

pub returns : goal.returns
unfolding verdict_of
returns c =
    let low = all_reached (λ e. e.lower) c.args.index c.args.partials c.args.standard.required c.args.standard.mark
    (three_mapped _ (λ (e : Ends). e.lower) (λ x y q k. search rules) no_ends c.args.partials c.map-lower.result c.map-lower.ensures.items) c.all_reach.ensures in
    let high = all_reached (λ e. e.upper) c.args.index c.args.partials c.args.standard.required c.args.standard.mark
    (three_mapped _ (λ (e : Ends). e.upper) (λ x y q k. search rules) no_ends c.args.partials c.map-upper.result c.map-upper.ensures.items) c.all_reach-2.ensures in
    rw (← low, c.if-all_reach.false, ← high, c.if-not-all_reach.false) refl
