-- `wide::at_most` meets its contract: nothing is carried out exactly where a is not above b. Assumes nothing.
use Rattle.wide.specs.Limbs.{value}
use Rattle.wide.proofs.Sums.{compared}
use Rattle.wide.proofs.at_most.Goals as goal

pub returns : goal.returns
returns c =
    let a = c.args in
    compared (value a.a) (value a.b) (value c.complement.result) c.carried.ensures c.complement.ensures.1
