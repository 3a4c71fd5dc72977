-- `put_rows` meets its contract: a valid case has what its rows are worked through by. Assumes nothing.
use Rattle.std.proofs.Common.{refl}
use Rattle.index.proofs.Accepted.{hull_is, rows_few, drawn, shares_fit, follow}
use Rattle.workings.proofs.put_rows.Goals as goal

pub fill_table-requires : goal.fill_table-requires
fill_table-requires c = (hull_is c.args.kept.now c.args.file.hull c.args.file.rows c.requires.0, refl)

pub invariant_of-ship : goal.invariant_of-ship
invariant_of-ship c = record { hulled = hull_is c.args.kept.now c.args.file.hull c.args.file.rows c.requires.0; filled = c.fill_table.ensures }

pub of-requires : goal.of-requires
of-requires c =
    let valid = c.requires.0 in
    let deep = drawn c.args.kept.now c.args.file.hull c.args.file.rows valid in
    record {
      sizes = (deep.0, deep.1, rows_few c.args.kept.now c.args.file.hull c.args.file.rows valid, c.requires.1);
      shares = shares_fit c.args.kept.now c.args.file.hull c.args.file.rows valid;
      follow = follow c.args.kept.now c.args.file.hull c.args.file.rows valid;
    }

pub returns : goal.returns
returns c = let r = c.of.ensures in rw (r.0, r.1, r.2) at c.list.ensures
