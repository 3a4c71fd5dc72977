-- `KeptRow::second` meets its contract. Assumes nothing.
use Rattle.rowlines.proofs.CodeKept.{second_is}
use Rattle.rowlines.proofs.kept.KeptRow.second.Goals as goal

pub returns : goal.returns
returns c = second_is c.args.self.now.place.now _ c.requires c.set.ensures
