-- `KeptRow::first` meets its contract. Assumes nothing.
use native.Mathlib.Omega.{arith}
use Rattle.rowlines.proofs.CodeKept.{longest_set, first_is}
use Rattle.rowlines.proofs.kept.KeptRow.first.Goals as goal

pub set-requires : goal.set-requires
set-requires c = omega (arith, longest_set c.kind.result)

pub returns : goal.returns
returns c = first_is c.args.self.now.place.now c.kind.result _ c.kind.ensures c.set.ensures
