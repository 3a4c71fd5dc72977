-- `bands::inner` meets its contract, by the rule of the table. Assumes nothing.
use Rattle.solas.specs.Span.{p}
use Rattle.bands.proofs.Bands.{Chosen, in_band}
use Rattle.bands.proofs.inner.Goals.{After-band-k}
use Rattle.bands.proofs.inner.Goals as goal

chosen : (c : After-band-k) → Chosen c.args.l c.args.x c.band-k.result (p c.args.l c.args.x)
chosen c =
    in_band c.args.l c.args.x c.requires.0 c.requires.1 c.requires.2 c.band-k.result c.band-k.ensures

pub quotient-requires : goal.quotient-requires
quotient-requires c = ((chosen (goal.at.quotient-requires c).After-band-k).0 c.if-k-eq2.true).ready

pub returns-then-k-eq2 : goal.returns-then-k-eq2
returns-then-k-eq2 c = rw c.quotient.ensures ((chosen (goal.at.returns-then-k-eq2 c).After-band-k).0 c.if-k-eq2.true).chance

pub quotient-requires-2 : goal.quotient-requires-2
quotient-requires-2 c = ((chosen (goal.at.quotient-requires-2 c).After-band-k).1 c.if-k-eq2.false).ready

pub returns : goal.returns
returns c = rw c.quotient-2.ensures ((chosen (goal.at.returns c).After-band-k).1 c.if-k-eq2.false).chance
