-- `listing::hull::put_groups` meets its contract: the groups done, with those left, are all. Assumes nothing.
use native.Mathlib.Omega.{arith}
use Rattle.listing.proofs.InGroups.{no_group, room, next_group, next_zone, all_groups}
use Rattle.listing.proofs.hull.put_groups.Goals as goal

pub loop-a-init : goal.loop-a-init
loop-a-init c = no_group c.args.ship.now.hull c.args.out.now

pub put_ends-requires : goal.put_ends-requires
put_ends-requires c =
    let some = room c.args.ship.now.hull c.args.out.now c.loop-n.invariant (omega (arith, c.loop-a-test.true, c.loop-n-test.true)) in
    omega (arith, some, c.requires, c.loop-n.invariant.put.long)

pub loop-n-preserved : goal.loop-n-preserved
loop-n-preserved c =
    next_group c.args.ship.now.hull c.args.out.now c.loop-n.invariant (omega (arith, c.loop-a-test.true, c.loop-n-test.true)) c.share_ends-share.ensures c.put_ends.ensures

pub loop-a-preserved : goal.loop-a-preserved
loop-a-preserved c =
    next_zone c.args.ship.now.hull c.args.out.now c.loop-n.invariant (omega (arith, c.loop-a-test.true)) (omega (arith, c.loop-a-test.true, c.loop-n-test.false))

pub returns : goal.returns
returns c = all_groups c.args.ship.now.hull c.args.out.now c.loop-a.invariant (omega (arith, c.loop-a-test.false)) c.requires
