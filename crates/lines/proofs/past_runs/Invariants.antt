-- What `past_runs` keeps from turn to turn: what is left begins where no line feed has come. Assumes nothing.
use mathlib.Core.Path.{◌≡◌}
use Prim.Native.Nat.{◌+◌, ◌≤◌}
use lib.ListN.{length, drop}
use Rattle.lines.specs.Lines.{line_length}
use Rattle.lines.proofs.past_runs.Given as goal

abbrev pub invariant-loop-run : goal.invariant-loop-run
invariant-loop-run g l =
    (l.run-iterator.size ≡ g.row.N) × (l.run-iterator.rest.now ≡ drop l.past l.text) × (l.past ≤ length l.text) × (l.past + line_length (drop l.past l.text) ≡ line_length l.text)
