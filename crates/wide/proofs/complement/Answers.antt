-- `wide::complement` meets its contract, limb by limb. Assumes nothing.
use Rattle.std.proofs.Common.{arith, ◌≡◌, ◌-◌, ◌^◌, get_or}
use Rattle.std.proofs.lemmas.Grind.{common_steps}
use Rattle.wide.proofs.Limbs.{six, complement_limbs}
use Rattle.wide.proofs.complement.Goals as goal

pub returns : goal.returns
returns c =
    let w = c.args.w in
    let e : c.from_fn.result ≡ six (2 ^ 32 - 1 - get_or w 0 0) (2 ^ 32 - 1 - get_or w 1 0) (2 ^ 32 - 1 - get_or w 2 0) (2 ^ 32 - 1 - get_or w 3 0) (2 ^ 32 - 1 - get_or w 4 0) (2 ^ 32 - 1 - get_or w 5 0) = grind (arith, common_steps) in
    rw e (complement_limbs c.requires)
