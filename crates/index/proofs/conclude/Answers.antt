-- `conclude` meets its contract. Assumes nothing.
use Rattle.index.proofs.Accepted.{concluded}
use Rattle.index.proofs.conclude.Goals as goal

pub returns : goal.returns
returns c =
    let held = c.standard_of.ensures in
    concluded c.args.h c.args.rows c.args.partials c.attained-attained.ensures held.0 held.1 c.verdict-verdict.ensures
