-- What `put_groups` keeps from turn to turn, of the zones and of a zone's groups. Assumes nothing.
use Rattle.listing.proofs.InGroups.{InGroups}
use Rattle.listing.proofs.hull.put_groups.Given as goal

abbrev pub invariant-loop-a : goal.invariant-loop-a
invariant-loop-a l = InGroups l.ship.hull l.initial.out l.out l.a 1 l.i

abbrev pub invariant-loop-n : goal.invariant-loop-n
invariant-loop-n l = InGroups l.ship.hull l.fn.out l.out l.a l.n l.i
