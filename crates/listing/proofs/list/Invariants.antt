-- What `list` keeps from turn to turn. Assumes nothing.
use Rattle.rows.proofs.InTurn.{Reached}
use Rattle.listing.proofs.InNumbers.{InNumbers}
use Rattle.listing.proofs.list.Given as goal

abbrev pub invariant-loop-i : goal.invariant-loop-i
invariant-loop-i l =
    let r = l.rows in
    Reached r.kept.ship.hull r.kept.bytes.now r.count l.s l.i × InNumbers r.kept.ship.hull r.kept.bytes.now r.count l.initial.out l.out l.s.standing l.i
