-- `verdicts::standard_of` meets its contract: R and the mark of a hull are small enough. Assumes nothing.
use Rattle.verdicts.proofs.ByHull.{required_of_proper, mark_of_proper}
use Rattle.verdicts.proofs.standard_of.Goals as goal

pub invariant_of-result : goal.invariant_of-result
invariant_of-result c = record { proper = (rw c.required_of.ensures (required_of_proper c.requires), rw c.mark_of.ensures (mark_of_proper c.requires)) }
