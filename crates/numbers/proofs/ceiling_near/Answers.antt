-- `numbers::ceiling_near` meets its contract: by division, or by the multiples of d that the rest lies beyond. Assumes nothing.
use Rattle.std.proofs.Common.{arith}
use Rattle.numbers.proofs.Quotients.{up_near}
use Rattle.numbers.proofs.ceiling_near.Goals as goal

pub returns : goal.returns
returns c = let a = c.args in rw c.multiples_below.ensures (up_near a.low a.n a.d (omega arith) (omega arith) (omega arith))
