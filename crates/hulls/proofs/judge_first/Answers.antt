-- `judge_first` meets its contract: what a hull record has goes into the buffer. Assumes nothing.
use mathlib.Core.Path.{sym, ◌∙◌}
use Rattle.hexadecimal.specs.Hex.{pairs}
use Rattle.frames.proofs.CodeDecoding.{stored}
use Rattle.hulls.proofs.CodeOpening.{first_hull_lem, kind_stored, hull_stored}
use Rattle.hulls.proofs.judge_first.Goals as goal

pub returns-in-1 : goal.returns-in-1
returns-in-1 c =
    let text = c.args.text.now in
    let w = sym c.decode_text.ensures.result ∙ c.in-Some.is in
    let there = stored text _ _ w c.decode_text.ensures.buffer in
    let kind = c.byte_at-kind.ensures.value ∙ kind_stored (pairs text) _ there in
    rw c.if-not-closed.false
    (first_hull_lem _ _ w _ kind _ _ (rw c.hull_length.ensures at c.if-n-hull_length.false) c.in-1.is (hull_stored (pairs text) _ there _) c.judge_hull.ensures)
