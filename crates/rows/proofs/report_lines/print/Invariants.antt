-- What `print` keeps from turn to turn. Assumes nothing.
use Rattle.rows.proofs.InTurn.{Reached}
use Rattle.rows.proofs.InLines.{InLines}
use Rattle.rows.proofs.report_lines.print.Given as goal

abbrev pub invariant-loop-i : goal.invariant-loop-i
invariant-loop-i l =
    let r = l.rows in
    Reached r.kept.ship.hull r.kept.bytes.now r.count l.s l.i × InLines r.kept.ship.hull r.kept.bytes.now r.count l.from l.initial.out l.out l.s.standing l.i
