-- `listing::list` meets its contract: the numbers of the rows done, with those of the rows left, are those of all. Assumes nothing.
use Rattle.std.proofs.Common.{ap}
use native.Mathlib.Omega.{arith}
use Rattle.rows.specs.declared.Running.{Running}
use Rattle.rows.specs.Running.{begun}
use Rattle.rows.proofs.InTurn.{starts, may_enter, stands_there, goes_on}
use Rattle.listing.proofs.InNumbers.{may_put, numbers_there, no_number, twenty_more, all_numbers}
use Rattle.listing.proofs.list.Goals as goal

pub loop-i-init : goal.loop-i-init
loop-i-init c =
    let r = c.args.rows.now in (
      starts r.kept.ship.hull r.kept.bytes.now r.count r.follow c.begin-s.ensures,
      no_number r.kept.ship.hull r.kept.bytes.now r.count c.args.out.now (unfold begun in ap (λ (s : Running). s.standing) c.begin-s.ensures),
    )

pub enter-s-requires : goal.enter-s-requires
enter-s-requires c =
    let r = c.args.rows.now in
    may_enter r.kept.ship.hull r.kept.bytes.now r.count c.loop-i.s c.loop-i.i c.loop-i.invariant.0 c.loop-i-test.true (omega (arith, c.loop-i-test.true, r.room)) r.few

pub put_entered-requires : goal.put_entered-requires
put_entered-requires c =
    let r = c.args.rows.now in
    let more = c.loop-i-test.true in
    let step = c.enter-s.ensures in
    let asked = may_put r.kept.ship.hull r.kept.bytes.now r.count c.loop-i.s c.loop-i.i c.loop-i.invariant.0 more r.kept.shares step.0 step.1 r.kept.draughts in
    (asked.0, asked.1, omega (arith, more, c.requires, c.loop-i.invariant.1.long))

pub loop-i-preserved : goal.loop-i-preserved
loop-i-preserved c =
    let r = c.args.rows.now in
    let more = c.loop-i-test.true in
    let step = c.enter-s.ensures in (
      goes_on r.kept.ship.hull r.kept.bytes.now r.count c.loop-i.s c.loop-i.i c.loop-i.invariant.0 more r.kept.shares step.0 step.1,
      twenty_more r.kept.ship.hull r.kept.bytes.now r.count c.args.out.now c.loop-i.s.standing c.loop-i.i c.loop-i.invariant.1 more
          (stands_there r.kept.ship.hull r.kept.bytes.now r.count c.loop-i.s c.loop-i.i c.loop-i.invariant.0 more r.kept.shares step.0 step.1)
          c.put_entered.ensures
          (numbers_there r.kept.ship.hull r.kept.bytes.now r.count c.loop-i.s c.loop-i.i c.loop-i.invariant.0 more r.kept.shares step.0 step.1 r.kept.drawn),
    )

pub shape_of-out : goal.shape_of-out
shape_of-out c = c.loop-i.invariant.1.long

pub returns : goal.returns
returns c =
    let r = c.args.rows.now in
    all_numbers r.kept.ship.hull r.kept.bytes.now r.count c.args.out.now c.loop-i.s.standing c.loop-i.i c.loop-i.invariant.1 c.loop-i-test.false c.requires
