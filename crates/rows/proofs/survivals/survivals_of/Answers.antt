-- `rows::survivals::survivals_of` meets its contract. Assumes nothing.
use native.Mathlib.Omega.{arith}
use Rattle.rows.proofs.OfSets.{of_one_set, of_two_sets, of_passengers, loaded}
use Rattle.rows.proofs.survivals.survivals_of.Goals as goal

pub returns-in-5 : goal.returns-in-5
returns-in-5 c =
    of_two_sets c.args.row.now.place.now c.kind-kind.result c.kind-kind.ensures c.first-first.ensures c.in-5.is c.second.ensures c.worse_survivals.ensures

pub passenger_survivals-requires : goal.passenger_survivals-requires
passenger_survivals-requires c =
    loaded c.args.row.now.place.now c.kind-kind.result c.kind-kind.ensures c.first-first.ensures c.in-7.is c.floodings.ensures c.requires

pub returns-in-7 : goal.returns-in-7
returns-in-7 c =
    of_passengers c.args.row.now.place.now c.kind-kind.result c.kind-kind.ensures c.first-first.ensures c.in-7.is c.floodings.ensures c.passenger_survivals.ensures

pub returns-in_default : goal.returns-in_default
returns-in_default c =
    of_one_set c.args.row.now.place.now c.kind-kind.result c.kind-kind.ensures c.first-first.ensures (λ e. omega arith) (λ e. omega arith) c.survivals.ensures
