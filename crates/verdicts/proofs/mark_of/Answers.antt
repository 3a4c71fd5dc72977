-- `verdicts::mark_of` meets its contract: half of R, or nine tenths of it. Assumes nothing.
use mathlib.Core.Path.{ap, sym}
use native.Mathlib.Omega.{arith}
use Rattle.verdicts.proofs.ByHull.{required_of_few, passenger_mark_of, cargo_mark_of}
use Rattle.verdicts.proofs.mark_of.Goals as goal

pub overflow_mul-result : goal.overflow_mul-result
overflow_mul-result c = let b = required_of_few c.requires in omega (arith, b.2, ap (λ r. r.den) c.required_of-whole.ensures)

pub returns-then-h-ne6 : goal.returns-then-h-ne6
returns-then-h-ne6 c = rw c.required_of-whole.ensures (sym (cargo_mark_of c.args.h c.if-h-ne6.true))

pub overflow_mul-result-2 : goal.overflow_mul-result-2
overflow_mul-result-2 c = let b = required_of_few c.requires in omega (arith, b.1, b.2, ap (λ r. r.num) c.required_of-whole.ensures)

pub overflow_mul-result-3 : goal.overflow_mul-result-3
overflow_mul-result-3 c = let b = required_of_few c.requires in omega (arith, b.2, ap (λ r. r.den) c.required_of-whole.ensures)

pub returns : goal.returns
returns c = rw c.required_of-whole.ensures (sym (passenger_mark_of c.args.h c.if-h-ne6.false))
