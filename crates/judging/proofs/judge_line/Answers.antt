-- `judge_line` refuses a line that is longer than its place. Assumes nothing.
use mathlib.Core.Path.{sym, ◌∙◌}
use Rattle.judging.proofs.CodeJudging.{line_too_long}
use Rattle.judging.proofs.judge_line.Goals as goal

pub returns-then-n-gt-PLACE_WIDTH-clause-frame : goal.returns-then-n-gt-PLACE_WIDTH-clause-frame
returns-then-n-gt-PLACE_WIDTH-clause-frame c =
    rw c.if-not-closed.false
    (line_too_long _ _ _ c.if-p.false _ (sym c.decode_text-written.ensures.result ∙ c.in-Some.is) c.if-n-gt-PLACE_WIDTH.true)
