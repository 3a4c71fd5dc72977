-- `rows::begin` meets its contract. Assumes nothing.
use Rattle.survival.proofs.Factors.{default_survival}
use Rattle.rows.proofs.Defaults.{three_default, default_ends, default_sums, default_standing, at_first}
use Rattle.rows.proofs.row.begin.Goals as goal

pub returns : goal.returns
returns c =
    let s = c.default.result in
    let d = c.default.ensures in
    at_first s (default_standing s.standing d.0) (default_sums s.part.group d.1.0.0) (default_ends s.part.share d.1.0.1)
    (three_default s.survivals default_survival d.1.1.0) (three_default s.sums default_ends d.1.1.1)
