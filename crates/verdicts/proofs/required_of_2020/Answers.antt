-- `verdicts::required_of_2020` meets its contract: R by the persons, band by band. Assumes nothing.
use mathlib.Core.Path.{sym}
use native.Mathlib.Omega.{arith}
use Rattle.verdicts.proofs.Marks.{few_aboard, more_aboard, most_aboard}
use Rattle.verdicts.proofs.required_of_2020.Goals as goal

pub returns-then-persons-lt400 : goal.returns-then-persons-lt400
returns-then-persons-lt400 c = sym (few_aboard _ c.if-persons-lt400.true)

pub returns-then-persons-le1350 : goal.returns-then-persons-le1350
returns-then-persons-le1350 c = sym (more_aboard _ (omega arith) (omega arith))

pub returns : goal.returns
returns c = sym (most_aboard _ (omega arith))
