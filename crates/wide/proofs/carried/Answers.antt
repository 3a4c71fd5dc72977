-- `wide::carried` meets its contract, place by place. Assumes nothing.
use mathlib.Core.Path.{◌≡◌, refl}
use native.Mathlib.Omega.{arith}
use Rattle.wide.proofs.Sums.{no_limb, limb_more, all_limbs}
use Rattle.wide.proofs.carried.Goals as goal

pub loop-i-init : goal.loop-i-init
loop-i-init c = no_limb refl c.requires.3

pub loop-i-preserved : goal.loop-i-preserved
loop-i-preserved c = limb_more c.requires.0 c.requires.2 (omega arith) c.loop-i.invariant c.placed-p.ensures

pub returns : goal.returns
returns c = let all : c.loop-i.i ≡ 6 = omega arith in all_limbs c.requires.0 c.requires.2 all c.loop-i.invariant
