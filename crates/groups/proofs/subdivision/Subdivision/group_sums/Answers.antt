-- `Subdivision::group_sums` meets its contract, by the number of zones. Assumes nothing.
use native.Mathlib.Omega.{arith}
use Rattle.spans.specs.Hull.{ship_of}
use Rattle.groups.proofs.Group.{one_zone, two_zones, more_zones}
use Rattle.groups.proofs.subdivision.Subdivision.group_sums.Goals as goal

pub returns-then-n-eq1 : goal.returns-then-n-eq1
returns-then-n-eq1 c =
    rw c.if-n-eq1.true (one_zone (ship_of c.args.self.now.hull) c.args.y.depth c.args.a (rw c.if-n-eq1.true at c.zones_within-all.ensures))

pub returns-then-n-eq2 : goal.returns-then-n-eq2
returns-then-n-eq2 c =
    two_zones (ship_of c.args.self.now.hull) c.args.y.depth c.args.a c.zones_within-all.ensures c.zones_within-without_last.ensures c.zones_within-without_first.ensures
    c.with-taken.ensures c.if-n-eq2.true

pub returns : goal.returns
returns c =
    more_zones (ship_of c.args.self.now.hull) c.args.y.depth c.args.a c.zones_within-all.ensures c.zones_within-without_last.ensures c.zones_within-without_first.ensures
    c.with-taken.ensures c.zones_within-middle.ensures c.with-added.ensures (omega (arith, c.requires.0.some, c.if-n-eq1.false, c.if-n-eq2.false))
