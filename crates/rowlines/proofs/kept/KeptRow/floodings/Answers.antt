-- `KeptRow::floodings` meets its contract. Assumes nothing.
use Rattle.rowlines.proofs.CodeKept.{floodings_is}
use Rattle.rowlines.proofs.kept.KeptRow.floodings.Goals as goal

pub returns : goal.returns
returns c = floodings_is c.args.self.now.place.now _ c.requires c.floodings.ensures
