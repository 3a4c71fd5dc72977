-- `verdicts::passenger_required` meets its contract: R by the length and the persons. Assumes nothing.
use mathlib.Core.Path.{sym}
use Rattle.verdicts.proofs.Marks.{passenger_required_lem}
use Rattle.verdicts.proofs.passenger_required.Goals as goal

pub returns : goal.returns
returns c = sym (passenger_required_lem c.args.length c.args.persons)
