-- `past_runs` meets its contract: past a run of bytes that hold no line feed the line ends where it did. Assumes nothing.
use mathlib.Core.Path.{sym, ◌∙◌}
use Rattle.lines.proofs.Lines.{run_leaves, run_within, run_feedless}
use Rattle.lines.proofs.past_runs.Goals as goal

pub loop-run-preserved : goal.loop-run-preserved
loop-run-preserved g c =
    let (size, run, _) = c.in-Some.ensures.steps in
    let (same, left, inside, feedless) = c.loop-run.invariant in
    let e = sym left ∙ run.0 in
    let l = run.1 ∙ same in
    let f = c.loop-run.past in (
      size ∙ same,
      run_leaves c.args.text.now f g.row.N _ _ e l inside,
      run_within c.args.text.now f g.row.N _ _ e l inside,
      run_feedless c.args.text.now f g.row.N _ _ e l inside (sym c.has_feed.ensures ∙ c.if-has_feed.false) ∙ feedless,
    )
