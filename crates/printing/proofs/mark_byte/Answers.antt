-- `printing::mark_byte` meets its contract: the four weights add up. Assumes nothing.
use Rattle.printing.proofs.Marks.{added_up}
use Rattle.printing.proofs.mark_byte.Goals as goal

pub returns : goal.returns
returns c = added_up c.args.m c.from.ensures c.from-2.ensures c.from-3.ensures c.from-4.ensures
