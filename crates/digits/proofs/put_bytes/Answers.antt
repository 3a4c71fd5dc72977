-- `digits::put_bytes` meets its contract: a byte more at each turn. Assumes nothing.
use Prim.Native.Nat.{◌<◌}
use mathlib.Core.Path.{refl, ap}
use lib.ListN.{length, get_or}
use lib.Seq.{take_all}
use Rattle.laws.specs.Bytes.{bytes}
use Rattle.hexadecimal.specs.Hex.{hex}
use Rattle.digits.specs.Splice.{splice}
use Rattle.digits.proofs.Fields.{low_bytes, byte_more}
use Rattle.digits.proofs.put_bytes.Goals as goal

pub loop-i-init : goal.loop-i-init
unfolding splice hex
loop-i-init g c = refl

pub loop-i-preserved : goal.loop-i-preserved
loop-i-preserved g c =
    let a = c.args in
    let low = low_bytes g.row.N a.n c.requires.0 c.to_be_bytes.ensures in
    let here : c.loop-i.i < length (bytes g.row.N a.n) = rw low at c.loop-i-test.true in
    byte_more a.at c.loop-i.i _ (bytes g.row.N a.n) a.out.now here (ap (λ l. get_or l c.loop-i.i 0) low) c.loop-i.invariant c.digit_of.ensures c.digit_of-in-loop-i.ensures

pub returns : goal.returns
returns g c =
    let low = low_bytes g.row.N c.args.n c.requires.0 c.to_be_bytes.ensures in
    rw (take_all c.loop-i.i (bytes g.row.N c.args.n) (rw low at c.loop-i-test.false)) at c.loop-i.invariant
