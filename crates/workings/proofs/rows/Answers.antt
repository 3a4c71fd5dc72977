-- `rows` meets its contract: a refusal, too little room, or all numbers. Assumes nothing.
use mathlib.Core.Path.{refl}
use native.Mathlib.Omega.{arith}
use Rattle.casefile.specs.Reading.{reading}
use Rattle.casefile.proofs.Told.{some_number}
use Rattle.index.proofs.Accepted.{few_rows, valid_case}
use Rattle.workings.proofs.Told.{refusal_tells_none, rows_too_long, rows_written}
use Rattle.workings.proofs.rows.Goals as goal

pub returns-in_default : goal.returns-in_default
returns-in_default c =
    (refusal_tells_none (reading c.args.input.now) c.args.out.now c.in_default.ensures.judgement (some_number _)).0

pub overflow_mul-n : goal.overflow_mul-n
overflow_mul-n c =
    omega (arith, few_rows c.args.input.now c.in-Ok.ensures.judgement refl _ c.judge.ensures.rows)

pub returns-then-out-n : goal.returns-then-out-n
returns-then-out-n c =
    rows_too_long c.args.input.now c.in-Ok.ensures.judgement refl _ c.judge.ensures.rows c.args.out.now (omega (arith, c.if-out-n.true))

pub put_rows-requires : goal.put_rows-requires
put_rows-requires c = (
  valid_case c.args.input.now c.in-Ok.ensures.judgement refl _ c.judge.ensures.rows,
  omega (arith, few_rows c.args.input.now c.in-Ok.ensures.judgement refl _ c.judge.ensures.rows),
  omega (arith, c.if-out-n.false),
)

pub returns : goal.returns
returns c =
    rows_written c.args.input.now c.in-Ok.ensures.judgement refl _ c.judge.ensures.rows c.args.out.now (omega (arith, c.if-out-n.false)) c.put_rows.ensures
