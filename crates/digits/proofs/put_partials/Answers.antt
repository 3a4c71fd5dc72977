-- `digits::put_partials` meets its contract: each turn writes one draught behind those that stand. Assumes nothing.
use mathlib.Core.Path.{refl}
use native.Mathlib.Omega.{arith}
use Rattle.laws.proofs.Pieces.{pieces_below}
use Rattle.digits.specs.Splice.{splice}
use Rattle.digits.proofs.Fields.{one_more_written, all_written}
use Rattle.digits.proofs.put_partials.Goals as goal

pub loop-j-init : goal.loop-j-init
unfolding splice pieces_below
loop-j-init c = refl

pub loop-j-preserved : goal.loop-j-preserved
loop-j-preserved c = one_more_written c.args.at c.args.t c.args.out.now c.loop-j.j refl c.loop-j.invariant c.put_ends.ensures

pub returns : goal.returns
returns c = all_written c.args.at c.args.t c.args.out.now (omega (arith, c.loop-j-test.false, c.loop-j.auto.j-end)) c.loop-j.invariant
