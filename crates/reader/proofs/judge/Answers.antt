-- `judge` meets its contract. Assumes nothing.
use mathlib.Core.Path.{refl, sym}
use lib.Seq.{length-take-le}
use native.Mathlib.Omega.{arith}
use Rattle.lines.proofs.Lines.{end_within}
use Rattle.casefile.proofs.Steps.{too_long}
use Rattle.reader.proofs.CodeRunning.{told_refused, no_line_at_all, input_stops, input_goes_on}
use Rattle.reader.proofs.judge.Goals as goal

pub returns-then-n-gt-LONGEST_INPUT : goal.returns-then-n-gt-LONGEST_INPUT
returns-then-n-gt-LONGEST_INPUT c = let all = (told_refused _ (too_long _ c.if-n-gt-LONGEST_INPUT.true) refl) in record { judgement = all.0; rows = all.1 }

pub returns-then-n-eq0 : goal.returns-then-n-eq0
returns-then-n-eq0 c = let all = (told_refused _ (no_line_at_all _ c.if-n-eq0.true) refl) in record { judgement = all.0; rows = all.1 }

pub slice_bounds-judge_first-end : goal.slice_bounds-judge_first-end
slice_bounds-judge_first-end c = sym (length-take-le _ _ (omega (arith, end_within c.args.input.now 0 (omega arith))))

pub overflow_add-end : goal.overflow_add-end
overflow_add-end c = omega (arith, end_within c.args.input.now 0 (omega arith))

pub returns-in-Ok : goal.returns-in-Ok
returns-in-Ok c =
    let all = (input_goes_on c.args.input.now (omega arith) (omega arith) _ c.line_end-end.ensures _ c.judge_first.ensures _ _ c.in-Ok.is _ (c.judge_rows.ensures.judgement, c.judge_rows.ensures.rows)) in
    record { judgement = all.0; rows = all.1 }

pub returns-in-Err : goal.returns-in-Err
returns-in-Err c =
    let all = (input_stops c.args.input.now (omega arith) (omega arith) _ c.line_end-end.ensures _ c.judge_first.ensures _ _ c.in-Err.is) in
    record { judgement = all.0; rows = all.1 }
