-- `shares::put_shares` meets its contract: the rows told, with those left, come to what all come to. Assumes nothing.
use Rattle.std.proofs.Common.{refl}
use Rattle.probes.proofs.Told.{one_told}
use Rattle.probes.proofs.shares.put_shares.Goals as goal

pub loop-i-preserved : goal.loop-i-preserved
loop-i-preserved c =
    let a = c.args in
    let l = c.loop-i in
    one_told a.ship.now.hull a.rows.now a.count a.out.now l.out l.i l.invariant c.loop-i-test.true c.share_at-e.ensures refl
