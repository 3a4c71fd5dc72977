-- `printing::put_marks` meets its contract: each turn writes one draught behind those that stand. Assumes nothing.
use mathlib.Core.Path.{refl}
use native.Mathlib.Omega.{arith}
use Rattle.laws.proofs.Pieces.{pieces_below}
use Rattle.digits.specs.Splice.{splice}
use Rattle.printing.specs.Marks.{marks_at}
use Rattle.printing.proofs.Marks.{one_mark_more, all_marks}
use Rattle.printing.proofs.put_marks.Goals as goal

pub loop-j-init : goal.loop-j-init
unfolding splice pieces_below
loop-j-init c = refl

pub loop-j-preserved : goal.loop-j-preserved
unfolding marks_at
loop-j-preserved c = one_mark_more c.args.ss c.args.at c.args.out.now c.loop-j.j c.mark_byte.ensures c.loop-j.invariant c.put_bytes.ensures

pub returns : goal.returns
returns c = all_marks c.args.ss c.args.at c.args.out.now (omega (arith, c.loop-j-test.false, c.loop-j.auto.j-end)) c.loop-j.invariant
