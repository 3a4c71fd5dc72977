-- `KeptRow::kind` meets its contract. Assumes nothing.
use Rattle.casefile.specs.Layout.{head_of}
use Rattle.rowlines.proofs.kept.KeptRow.kind.Goals as goal

pub returns : goal.returns
unfolding head_of
returns c = c.from.ensures
