-- `run` meets its contract: the reading of the whole is the reading of the rest in the present state, after the rows that are kept. Assumes nothing.
use Rattle.std.proofs.Common.{rules, ap, drop, length, ◌<◌, ◌^◌}
use native.Mathlib.Omega.{arith}
use lib.ListN.{length-drop}
use Rattle.lines.specs.Lines.{lines}
use Rattle.lines.proofs.Lines.{lines_few}
use Rattle.casefile.specs.Told.{step_told}
use Rattle.reader.proofs.CodeRunning.{none_run, line_fits, one_run, place_written, run_stops, run_ends, run_has_no_end}
use Rattle.reader.proofs.run.Goals as goal

pub loop-line-init : goal.loop-line-init
loop-line-init c = none_run _ _ _ _ _ _ c.requires.1 c.at_start-p.ensures (search rules)

pub returns-in_default : goal.returns-in_default
returns-in_default c =
    let written = place_written _ _ _ _ _ _ _ _ c.loop-line.invariant _ _ c.judge_line-frame.ensures.kept in
    let all = run_stops _ _ _ _ _ _ _ _ c.loop-line.invariant _ _ c.in-Some.ensures.steps _ _ c.judge_line-frame.ensures.frame c.step-stepped.ensures _ written _ _ (ap step_told c.in_default.is) in
    record { step = all.0; rows = all.1 }

pub overflow_add-number : goal.overflow_add-number
overflow_add-number c =
    let few : length (lines (drop c.args.from c.args.input.now)) < 2 ^ 63 = omega (arith, lines_few (drop c.args.from c.args.input.now), length-drop c.args.from c.args.input.now, c.well_formed.0.1) in
    omega (arith, line_fits _ _ _ _ _ _ _ _ c.loop-line.invariant _ _ c.in-Some.ensures.steps few c.requires.0)

pub loop-line-preserved : goal.loop-line-preserved
loop-line-preserved c =
    let written = place_written _ _ _ _ _ _ _ _ c.loop-line.invariant _ _ c.judge_line-frame.ensures.kept in
    one_run _ _ _ _ _ _ _ _ c.loop-line.invariant _ _ c.in-Some.ensures.steps _ _ c.judge_line-frame.ensures.frame c.step-stepped.ensures _ written _ (ap step_told c.in-Ok.is)

pub returns-then-p : goal.returns-then-p
returns-then-p c =
    let all = run_ends _ _ _ _ _ _ _ _ c.loop-line.invariant c.in-None.ensures.steps.0 c.if-p.true in
    record { step = all.0; rows = all.1 }

pub returns : goal.returns
returns c =
    let all = run_has_no_end _ _ _ _ _ _ _ _ c.loop-line.invariant c.in-None.ensures.steps.0 c.if-p.false in
    record { step = all.0; rows = all.1 }
