-- `line_end` meets its contract: from each place before the line's end the line ends at the same place. Assumes nothing.
use Prim.Native.Nat.{◌+◌, ◌-◌}
use mathlib.Core.Path.{◌∙◌, ap}
use mathlib.Core.Logic.{inl, inr}
use lib.ListN.{length, take, drop}
use lib.Seq.{drop-drop}
use Rattle.std.proofs.Common.{rules}
use Rattle.lines.specs.Lines.{line_length}
use Rattle.lines.proofs.Lines.{length_ends, length_found, all_left}
use native.Mathlib.Omega.{arith}
use Rattle.lines.proofs.line_end.Goals as goal

pub returns-in_default : goal.returns-in_default
returns-in_default c =
    omega (arith, length_ends c.args.input.now c.args.at (elim c.in_default.ensures.lookup.0 [ inl h ↦ omega (arith, h) | inr h ↦ omega (arith, h) ]))

pub returns : goal.returns
returns c =
    let text = c.in-Some.text.now in
    let s = c.past_runs-sixteens.result in
    let e = c.past_runs.result in
    let rest = take (length text - (s + e)) (drop (s + e) text) in
    let found = length_found rest c.position.result (search rules) in
    let after = rw (all_left s text, drop-drop e s text) at c.past_runs.ensures.feedless in
    let (_, _, taken, _) = c.in-Some.ensures.lookup.0 in
    omega (arith, found, after, c.past_runs-sixteens.ensures.feedless, c.unwrap_or.ensures, ap line_length (all_left (s + e) text), ap line_length (taken ∙ all_left c.args.at c.args.input.now))
