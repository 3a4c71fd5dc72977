-- `laid_out` meets its contract: of a refusal number and line, zeros otherwise. Assumes nothing.
use mathlib.Core.Path.{refl}
use Rattle.rows.proofs.Defaults.{three_default, default_ends}
use Rattle.index.proofs.laid_out.Goals as goal

pub returns-in-Err : goal.returns-in-Err
returns-in-Err c =
    let a = c.default.result in
    let d = c.default.ensures in
    rw (c.in-Err.is, c.from-in-Err.ensures, d.1.1.0, d.1.1.1.0, default_ends a.attained d.1.1.1.1.0, three_default a.partials default_ends d.1.1.1.1.1) refl
