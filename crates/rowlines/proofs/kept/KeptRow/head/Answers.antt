-- `KeptRow::head` meets its contract. Assumes nothing.
use Rattle.rowlines.proofs.CodeKept.{head_is}
use Rattle.rowlines.proofs.kept.KeptRow.head.Goals as goal

pub returns : goal.returns
returns c = head_is c.args.self.now.place.now c.kind.result c.kind.ensures c.head.ensures
