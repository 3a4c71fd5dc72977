-- `required` meets its contract: a refusal, too little room, or the four numbers. Assumes nothing.
use mathlib.Core.Path.{refl}
use native.Mathlib.Omega.{arith}
use Rattle.casefile.specs.Reading.{reading}
use Rattle.casefile.proofs.Told.{some_number}
use Rattle.workings.proofs.Told.{refusal_tells_none, its_sizes, required_too_long, required_written}
use Rattle.workings.proofs.required.Goals as goal

pub returns-in_default : goal.returns-in_default
returns-in_default c =
    (refusal_tells_none (reading c.args.input.now) c.args.out.now c.in_default.ensures.judgement (some_number _)).1

pub returns-then-out-lt4 : goal.returns-then-out-lt4
returns-then-out-lt4 c =
    required_too_long c.args.input.now c.in-Ok.ensures.judgement refl _ c.judge.ensures.rows c.args.out.now c.if-out-lt4.true

pub put_required-requires : goal.put_required-requires
put_required-requires c =
    (its_sizes c.args.input.now c.in-Ok.ensures.judgement refl _ c.judge.ensures.rows, omega (arith, c.if-out-lt4.false))

pub returns : goal.returns
returns c =
    required_written c.args.input.now c.in-Ok.ensures.judgement refl _ c.judge.ensures.rows c.args.out.now (omega (arith, c.if-out-lt4.false)) c.put_required.ensures
