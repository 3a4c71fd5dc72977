-- `verdicts::required_of` meets its contract: R of a cargo ship, or of a passenger ship by its rule. Assumes nothing.
use mathlib.Core.Path.{ap, sym, ◌∙◌}
use native.Mathlib.Omega.{arith}
use Rattle.numbers.specs.Ratio.{ratio_of}
use Rattle.verdicts.proofs.ByHull.{required_of_2020, earlier_required_of, cargo_required_of}
use Rattle.verdicts.proofs.required_of.Goals as goal

pub returns-then-h-ne6 : goal.returns-then-h-ne6
returns-then-h-ne6 c = c.required.ensures ∙ sym (ap ratio_of (cargo_required_of c.args.h c.if-h-ne6.true))

pub required_of_2020-requires : goal.required_of_2020-requires
required_of_2020-requires c = (omega (arith, c.requires.lifeboats, c.requires.excess), c.requires.persons c.if-h-eq1.true)

pub returns-then-h-eq1 : goal.returns-then-h-eq1
returns-then-h-eq1 c =
    c.required_of_2020.ensures ∙ sym (ap ratio_of (required_of_2020 c.args.h c.if-h-ne6.false c.if-h-eq1.true))

pub returns : goal.returns
returns c =
    c.passenger_required.ensures ∙ sym (ap ratio_of (earlier_required_of c.args.h c.if-h-ne6.false c.if-h-eq1.false))
