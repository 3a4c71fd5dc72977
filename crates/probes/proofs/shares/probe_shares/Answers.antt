-- `shares::probe_shares` meets its contract: a hull that does not fit has no rows told, and any other its rows. Assumes nothing.
use Rattle.std.proofs.Common.{refl, sym, ◌∙◌}
use Rattle.probes.proofs.Told.{hull_is, none_asked}
use Rattle.probes.proofs.shares.probe_shares.Goals as goal

pub returns-then-not-hull_fits-clause-shares : goal.returns-then-not-hull_fits-clause-shares
returns-then-not-hull_fits-clause-shares c =
    let a = c.args in
    (none_asked a.hull.now a.rows.now a.out.now c.hull_in-h.ensures (sym c.hull_fits.ensures ∙ c.if-not-hull_fits.true)).1

pub fill_table-requires : goal.fill_table-requires
fill_table-requires c = (hull_is c.hull_in-h.result (sym c.hull_fits.ensures ∙ c.if-not-hull_fits.false), refl)

pub invariant_of-ship : goal.invariant_of-ship
invariant_of-ship c = record { hulled = hull_is c.hull_in-h.result (sym c.hull_fits.ensures ∙ c.if-not-hull_fits.false); filled = c.fill_table.ensures }
