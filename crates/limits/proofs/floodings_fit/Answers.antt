-- `floodings_fit` meets its contract: each of three is tested. Assumes nothing.
use Rattle.std.proofs.Common.{rules}
use Rattle.laws.proofs.Arrays.{three_mapped}
use Rattle.casefile.specs.Limits.{flooding_fits}
use Rattle.limits.proofs.CodeLimits.{some_flooding, floodings_told}
use Rattle.limits.proofs.floodings_fit.Goals as goal

pub returns : goal.returns
returns c =
    floodings_told c.args.floodings c.well_formed.0.1.0.1
    (three_mapped (λ p. Unit {0}) flooding_fits (λ p x y q k e. search rules) c.args.floodings c.map.result some_flooding tt c.map.ensures.items)
