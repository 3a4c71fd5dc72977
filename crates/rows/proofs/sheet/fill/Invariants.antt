-- What `fill` keeps from turn to turn. Assumes nothing.
use Rattle.rows.proofs.InTurn.{Reached}
use Rattle.rows.proofs.OnSheet.{OnSheet}
use Rattle.rows.proofs.sheet.fill.Given as goal

abbrev pub invariant-loop-i : goal.invariant-loop-i
invariant-loop-i l =
    let r = l.rows in
    Reached r.kept.ship.hull r.kept.bytes.now r.count l.s l.i × OnSheet r.kept.ship.hull r.kept.bytes.now r.count l.initial.sheet l.sheet l.s.standing l.i
