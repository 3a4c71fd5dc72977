-- `bands::value` meets its contract, term by term. Assumes nothing.
use native.Mathlib.Omega.{arith}
use Rattle.bands.proofs.Coefficient.{one_counted}
use Rattle.bands.proofs.value.Goals as goal

pub loop-i-preserved : goal.loop-i-preserved
loop-i-preserved c =
    let l = c.loop-i in
    one_counted c.args.row c.args.w l.i c.requires.0 c.requires.1 (omega arith) l.invariant c.count-s.ensures
