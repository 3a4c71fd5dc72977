-- `results::heel_factor` meets its contract, heel by heel. Assumes nothing.
use Prim.Native.Nat.{◌-◌}
use native.Mathlib.Omega.{arith}
use Rattle.results.proofs.Parts.{heel_parts}
use Rattle.results.proofs.heel_factor.Goals as goal

pub returns-in-0-to-2500 : goal.returns-in-0-to-2500
returns-in-0-to-2500 c = heel_parts c.args.heel 500 (omega arith)

pub returns-in-3000-to-18446744073709551615 : goal.returns-in-3000-to-18446744073709551615
returns-in-3000-to-18446744073709551615 c = heel_parts c.args.heel 0 (omega arith)

pub returns-in_default : goal.returns-in_default
returns-in_default c = let e = c.args.heel in heel_parts e (3000 - e) (omega arith)
