-- `has_feed` meets its contract: a byte more at each turn. Assumes nothing.
use mathlib.Core.Path.{◌∙◌, ap}
use mathlib.Core.Bool.{◌||◌}
use native.Mathlib.Numerals.{add-one}
use native.Mathlib.Omega.{arith}
use lib.Dec.{eqb}
use lib.ListN.{get_or}
use Rattle.lines.proofs.Lines.{feed_taken}
use Rattle.lines.proofs.has_feed.Goals as goal

pub loop-b-preserved : goal.loop-b-preserved
loop-b-preserved c =
    let run = c.args.run.now in
    let i = c.loop-b.b-index in
    rw (add-one i) (ap (◌|| eqb (get_or run i 0) 10) c.loop-b.invariant ∙ feed_taken run i (omega arith))
