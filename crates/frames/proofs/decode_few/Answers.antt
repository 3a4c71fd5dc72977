-- `decode_few` meets its contract: a pair more at each turn. Assumes nothing.
use mathlib.Core.Path.{◌≡◌}
use native.Mathlib.Omega.{arith}
use Rattle.frames.proofs.CodeDecoding.{none_read, as_long, pair_read}
use Rattle.frames.proofs.decode_few.Goals as goal

pub loop-i-init : goal.loop-i-init
loop-i-init c = none_read _ _

pub bounds-out-i : goal.bounds-out-i
bounds-out-i c = omega (arith, as_long _ _ _ _ _ c.loop-i.invariant)

pub loop-i-preserved : goal.loop-i-preserved
loop-i-preserved c =
    pair_read _ _ _ _ _ c.loop-i.invariant _ _ (omega arith) c.value_of-h.ensures c.value_of-l.ensures

pub shape_of-out : goal.shape_of-out
shape_of-out c = as_long _ _ _ _ _ c.loop-i.invariant

pub returns : goal.returns
returns c =
    let all : c.loop-i.i ≡ c.args.m = omega arith in
    let p = c.loop-i.invariant in
    record { result = rw all at p.other; buffer = rw all at p.front }
