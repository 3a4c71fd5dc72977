-- `complete` meets its contract: a valid case can be worked out. Assumes nothing.
use Rattle.std.proofs.Common.{◌^◌, refl}
use native.Mathlib.Omega.{arith}
use Rattle.indices.proofs.Sums.{within_wider}
use Rattle.index.proofs.Accepted.{sized, answer_is, shares_are}
use Rattle.index.proofs.complete.Goals as goal

pub conclude-requires : goal.conclude-requires
conclude-requires c =
    (sized c.args.kept.now c.args.file.hull c.args.file.rows c.requires.0, within_wider {k = 2 ^ 60} (omega arith) c.fill-partials.ensures.1)

pub returns : goal.returns
returns c =
    let r = c.rows_of.ensures in
    let filled = rw (r.0, r.1, r.2) at c.fill-partials.ensures in (
      answer_is c.args.kept.now c.args.file.hull c.args.file.rows c.requires.0 filled.0 c.conclude.ensures,
      shares_are c.args.kept.now c.args.file.hull c.args.file.rows c.requires.0 c.args.sheet.now filled.2,
    )
