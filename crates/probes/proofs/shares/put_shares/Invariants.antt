-- What `put_shares` keeps from turn to turn. Assumes nothing.
use Rattle.probes.proofs.Told.{Told}
use Rattle.probes.proofs.shares.put_shares.Given as goal

abbrev pub invariant-loop-i : goal.invariant-loop-i
invariant-loop-i l = Told l.ship.hull l.rows l.count l.initial.out l.out l.i
