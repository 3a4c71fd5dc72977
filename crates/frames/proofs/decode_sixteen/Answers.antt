-- `decode_sixteen` meets its contract: a byte more is stored at each turn. Assumes nothing.
use mathlib.Core.Path.{◌≡◌, refl}
use Prim.Native.Nat.{◌*◌}
use native.Mathlib.Omega.{arith}
use lib.ListN.{take, drop}
use Rattle.hexadecimal.specs.Hex.{bytes_of}
use Rattle.frames.proofs.CodeDecoding.{run_long}
use Rattle.frames.proofs.CodeTurns.{other_told, byte_more}
use Rattle.frames.proofs.decode_sixteen.Goals as goal

pub loop-k-init : goal.loop-k-init
loop-k-init c = refl

pub bounds-out-i : goal.bounds-out-i
bounds-out-i c =
    let a = c.args in
    omega (arith, run_long a.out.now a.i (take c.loop-k.k (drop a.i (bytes_of a.text.now))) c.loop-k.invariant)

pub loop-k-preserved : goal.loop-k-preserved
loop-k-preserved c = byte_more c.args.text.now _ _ 32 (omega arith) c.values-v.ensures c.loop-k.k (omega arith) c.loop-k.invariant

pub shape_of-out : goal.shape_of-out
shape_of-out c =
    let a = c.args in
    run_long a.out.now a.i (take c.loop-k.k (drop a.i (bytes_of a.text.now))) c.loop-k.invariant

pub returns : goal.returns
returns c =
    let a = c.args in
    let all : c.loop-k.k ≡ 16 = omega arith in
    record { result = other_told a.text.now (a.i * 2) 32 (omega arith) c.values-v.ensures c.some_other.ensures; buffer = rw all at c.loop-k.invariant }
