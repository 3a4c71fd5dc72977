-- `index::printed::put_case` meets its contract: a valid case can be worked out, and its lines join. Assumes nothing.
use Rattle.std.proofs.Common.{◌^◌, refl}
use native.Mathlib.Omega.{arith}
use Rattle.indices.proofs.Sums.{within_wider}
use Rattle.index.proofs.Accepted.{sized, answer_is}
use Rattle.index.proofs.Reported.{lines_then_figures}
use Rattle.index.proofs.printed.put_case.Goals as goal

pub conclude-figures-requires : goal.conclude-figures-requires
conclude-figures-requires c =
    (sized c.args.kept.now c.args.file.hull c.args.file.rows c.requires.0, within_wider {k = 2 ^ 60} (omega arith) c.print-partials.ensures.1)

pub returns : goal.returns
returns c =
    let r = c.rows_of.ensures in
    let printed = rw (r.0, r.1, r.2) at c.print-partials.ensures in
    lines_then_figures c.args.kept.now c.args.file.hull c.args.file.rows c.args.out.now
    (answer_is c.args.kept.now c.args.file.hull c.args.file.rows c.requires.0 printed.0 c.conclude-figures.ensures) printed.2 (rw c.laid_out.ensures at c.put_figures.ensures)
