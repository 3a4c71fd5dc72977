-- `report_lines::print` meets its contract: what is known of the rows done, with those left, comes to what all rows come to. Assumes nothing.
use Rattle.std.proofs.Common.{◌*◌, ◌^◌, ap}
use native.Mathlib.Omega.{arith}
use Rattle.indices.proofs.Sums.{within_wider}
use Rattle.rows.specs.declared.Running.{Running}
use Rattle.rows.specs.Running.{begun}
use Rattle.rows.proofs.InTurn.{starts, may_enter, stands_there, part_there, survivals_there, goes_on, sums_are}
use Rattle.rows.proofs.InLines.{no_line, one_line_more, all_lines}
use Rattle.rows.proofs.report_lines.print.Goals as goal

pub loop-i-init : goal.loop-i-init
loop-i-init c =
    let r = c.args.rows.now in (
      starts r.kept.ship.hull r.kept.bytes.now r.count r.follow c.begin-s.ensures,
      no_line r.kept.ship.hull r.kept.bytes.now r.count c.args.from c.args.out.now (unfold begun in ap (λ (s : Running). s.standing) c.begin-s.ensures),
    )

pub enter-s-requires : goal.enter-s-requires
enter-s-requires c =
    let r = c.args.rows.now in
    may_enter r.kept.ship.hull r.kept.bytes.now r.count c.loop-i.s c.loop-i.i c.loop-i.invariant.0 c.loop-i-test.true (omega (arith, c.loop-i-test.true, r.room)) r.few

pub loop-i-preserved : goal.loop-i-preserved
loop-i-preserved c =
    let r = c.args.rows.now in
    let more = c.loop-i-test.true in
    let step = c.enter-s.ensures in
    let g = c.loop-i.invariant.0 in (
      goes_on r.kept.ship.hull r.kept.bytes.now r.count c.loop-i.s c.loop-i.i g more r.kept.shares step.0 step.1,
      one_line_more r.kept.ship.hull r.kept.bytes.now r.count c.args.from c.args.out.now c.loop-i.s.standing c.loop-i.i c.loop-i.invariant.1 more
          (stands_there r.kept.ship.hull r.kept.bytes.now r.count c.loop-i.s c.loop-i.i g more r.kept.shares step.0 step.1)
          (part_there r.kept.ship.hull r.kept.bytes.now r.count c.loop-i.s c.loop-i.i g more r.kept.shares step.0 step.1)
          (survivals_there r.kept.ship.hull r.kept.bytes.now r.count c.loop-i.s c.loop-i.i g more r.kept.shares step.0 step.1)
          c.put_row.ensures,
    )

pub shape_of-out : goal.shape_of-out
shape_of-out c = c.loop-i.invariant.1.long

pub returns : goal.returns
returns c =
    let r = c.args.rows.now in
    let last = c.loop-i-test.false in
    let g = c.loop-i.invariant.0 in
    let few = within_wider {k = 500 * 10 ^ 9} (omega (arith, g.within, r.few)) g.small in (
      sums_are r.kept.ship.hull r.kept.bytes.now r.count c.loop-i.s c.loop-i.i g last,
      few,
      all_lines r.kept.ship.hull r.kept.bytes.now r.count c.args.from c.args.out.now c.loop-i.s.standing c.loop-i.i c.loop-i.invariant.1 last,
    )
