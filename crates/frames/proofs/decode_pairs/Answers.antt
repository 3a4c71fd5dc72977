-- `decode_pairs` meets its contract: sixteen pairs more at each turn, the last of which may have been read before in part. Assumes nothing.
use mathlib.Core.Path.{◌≡◌}
use native.Mathlib.Omega.{arith}
use Rattle.frames.proofs.CodeDecoding.{none_read, as_long, pairs_read}
use Rattle.frames.proofs.decode_pairs.Goals as goal

pub returns-then-m-lt16 : goal.returns-then-m-lt16
returns-then-m-lt16 c = c.decode_few.ensures

pub loop-i-init : goal.loop-i-init
loop-i-init c = (omega arith, none_read _ _)

pub decode_sixteen-bad-requires : goal.decode_sixteen-bad-requires
decode_sixteen-bad-requires c = (omega arith, omega (arith, as_long _ _ _ _ _ c.loop-i.invariant.1))

pub loop-i-preserved : goal.loop-i-preserved
loop-i-preserved c =
    let e = c.decode_sixteen-bad.ensures in
    (omega arith, pairs_read _ _ _ _ _ c.loop-i.invariant.1 c.min-at.result 16 (omega arith) (omega arith) (omega arith) (omega arith) e.result e.buffer)

pub shape_of-out : goal.shape_of-out
shape_of-out c = as_long _ _ _ _ _ c.loop-i.invariant.1

pub returns : goal.returns
returns c =
    let all : c.loop-i.i ≡ c.args.m = omega arith in
    let p = c.loop-i.invariant.1 in
    record { result = rw all at p.other; buffer = rw all at p.front }
