-- `index::printed::report` meets its contract: a refusal, too little room, or the whole report. Assumes nothing.
use mathlib.Core.Path.{refl}
use native.Mathlib.Omega.{arith}
use Rattle.casefile.specs.Reading.{reading}
use Rattle.casefile.proofs.Told.{some_number}
use Rattle.index.proofs.Accepted.{valid_case, few_rows}
use Rattle.index.proofs.Reported.{refusal_printed, report_too_long, report_written}
use Rattle.index.proofs.printed.report.Goals as goal

pub returns-in-Err : goal.returns-in-Err
returns-in-Err c =
    refusal_printed (reading c.args.input.now) c.args.out.now c.in-Err.ensures.judgement (some_number _) (rw c.from.ensures at c.write_refusal.ensures)

pub overflow_mul-n : goal.overflow_mul-n
overflow_mul-n c =
    omega (arith, few_rows c.args.input.now c.in-Ok.ensures.judgement refl _ c.judge.ensures.rows)

pub overflow_add-n : goal.overflow_add-n
overflow_add-n c =
    omega (arith, few_rows c.args.input.now c.in-Ok.ensures.judgement refl _ c.judge.ensures.rows)

pub returns-then-out-n : goal.returns-then-out-n
returns-then-out-n c =
    report_too_long c.args.input.now c.in-Ok.ensures.judgement refl _ c.judge.ensures.rows c.args.out.now (omega (arith, c.if-out-n.true))

pub put_case-requires : goal.put_case-requires
put_case-requires c = (
  valid_case c.args.input.now c.in-Ok.ensures.judgement refl _ c.judge.ensures.rows,
  omega (arith, few_rows c.args.input.now c.in-Ok.ensures.judgement refl _ c.judge.ensures.rows),
  omega (arith, c.if-out-n.false),
)

pub returns-else-out-n : goal.returns-else-out-n
returns-else-out-n c =
    report_written c.args.input.now c.in-Ok.ensures.judgement refl _ c.judge.ensures.rows c.args.out.now (omega (arith, c.if-out-n.false)) c.put_case.ensures
