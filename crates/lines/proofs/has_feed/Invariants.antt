-- What `has_feed` keeps from turn to turn. Assumes nothing.
use mathlib.Core.Path.{◌≡◌}
use lib.ListN.{take}
use Rattle.lines.specs.Lines.{has_feed}
use Rattle.lines.proofs.has_feed.Given as goal

abbrev pub invariant-loop-b : goal.invariant-loop-b
invariant-loop-b l = l.found ≡ has_feed (take l.b-index l.run)
