-- `verdicts::required` meets its contract, length by length. Assumes nothing.
use mathlib.Core.Path.{sym}
use native.Mathlib.Omega.{arith}
use Rattle.verdicts.proofs.Marks.{required_long, required_short, short_square}
use Rattle.verdicts.proofs.required.Goals as goal

pub returns-then-length-gt10000 : goal.returns-then-length-gt10000
returns-then-length-gt10000 c = sym (required_long c.args.length (omega arith))

pub overflow_mul-num : goal.overflow_mul-num
overflow_mul-num c = omega (arith, short_square c.args.length (omega arith))

pub overflow_add-den : goal.overflow_add-den
overflow_add-den c = omega (arith, short_square c.args.length (omega arith))

pub returns : goal.returns
returns c = sym (required_short c.args.length (omega arith))
