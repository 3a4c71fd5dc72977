-- `groups` meets its contract: a refusal, too little room, or two numbers for each group. Assumes nothing.
use mathlib.Core.Path.{refl}
use native.Mathlib.Omega.{arith}
use Rattle.casefile.specs.Reading.{reading}
use Rattle.casefile.proofs.Told.{some_number}
use Rattle.workings.proofs.Told.{refusal_tells_none, its_hull, few_zones, groups_too_long, groups_written}
use Rattle.workings.proofs.groups.Goals as goal

pub returns-in_default : goal.returns-in_default
returns-in_default c =
    (refusal_tells_none (reading c.args.input.now) c.args.out.now c.in_default.ensures.judgement (some_number _)).2

pub overflow_add-n : goal.overflow_add-n
overflow_add-n c =
    omega (arith, (its_hull c.args.input.now c.in-Ok.ensures.judgement refl _ c.judge.ensures.rows).few)

pub overflow_mul-n : goal.overflow_mul-n
overflow_mul-n c =
    omega (arith, few_zones c.args.input.now c.in-Ok.ensures.judgement refl _ c.judge.ensures.rows)

pub returns-then-out-n : goal.returns-then-out-n
returns-then-out-n c =
    groups_too_long c.args.input.now c.in-Ok.ensures.judgement refl _ c.judge.ensures.rows c.args.out.now (omega (arith, c.if-out-n.true))

pub put_groups-requires : goal.put_groups-requires
put_groups-requires c =
    (its_hull c.args.input.now c.in-Ok.ensures.judgement refl _ c.judge.ensures.rows, omega (arith, c.if-out-n.false))

pub returns : goal.returns
returns c =
    groups_written c.args.input.now c.in-Ok.ensures.judgement refl _ c.judge.ensures.rows c.args.out.now (omega (arith, c.if-out-n.false)) c.put_groups.ensures
