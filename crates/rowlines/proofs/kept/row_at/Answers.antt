-- `row_at` meets its contract. Assumes nothing.
use native.Mathlib.Omega.{arith}
use Prim.Native.Nat.{◌+◌, ◌-◌, ◌*◌}
use mathlib.Core.Path.{◌≡◌}
use Rattle.rowlines.proofs.CodeKept.{place_kept, row_kept}
use Rattle.rowlines.proofs.kept.row_at.Goals as goal

pub returns : goal.returns
returns c =
    let a = c.args in
    record { bytes = place_kept a.kept.now a.i (omega arith); row = row_kept a.kept.now a.i (omega arith) }
