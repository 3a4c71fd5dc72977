-- `spans::fill_table` meets its contract: each turn puts one span behind those that stand, and zeros follow the last. Assumes nothing.
use mathlib.Core.Path.{◌≡◌}
use native.Mathlib.Omega.{arith}
use Rattle.spans.proofs.Filling.{span_within, next_begun, zone_begun, all_begun}
use Rattle.spans.proofs.fill_table.Goals.{else-loop-i-test, then-loop-i-test+else-i-j}
use Rattle.spans.proofs.fill_table.Goals as goal

pub span_ends-s-requires : goal.span_ends-s-requires
span_ends-s-requires c = span_within c.requires.0 c.loop-i.invariant (omega arith) c.loop-j-test.true

pub loop-j-preserved : goal.loop-j-preserved
loop-j-preserved c =
    elim c.loop-i-test.branch [
      | else-loop-i-test w ↦ rw (w.t-is, w.k-is) (zone_begun (omega arith) c.loop-i.invariant)
      | then-loop-i-test+else-i-j w ↦
          rw (w.t-is, w.k-is)
          (zone_begun (omega arith) (next_begun c.requires.0 c.loop-i.invariant (omega arith) c.loop-j-test.true w.span_ends-s.ensures w.put_span.ensures))
    ]

pub returns : goal.returns
returns c =
    let e : c.loop-j.j ≡ c.args.h.zones = omega arith in
    all_begun c.requires.0 (rw e at c.loop-j.invariant) c.clear.ensures
