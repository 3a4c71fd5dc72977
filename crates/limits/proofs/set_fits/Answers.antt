-- `set_fits` meets its contract: each of three is tested. Assumes nothing.
use Rattle.std.proofs.Common.{rules}
use Rattle.laws.proofs.Arrays.{three_mapped}
use Rattle.casefile.specs.Limits.{finding_fits}
use Rattle.limits.proofs.CodeLimits.{some_finding, findings_told}
use Rattle.limits.proofs.set_fits.Goals as goal

pub returns : goal.returns
returns c =
    findings_told c.args.results c.well_formed.0.1.0.1
    (three_mapped (λ p. Unit {0}) finding_fits (λ p x y q k e. search rules) c.args.results c.map.result some_finding tt c.map.ensures.items)
