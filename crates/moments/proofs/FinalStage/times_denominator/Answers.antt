-- `moments::FinalStage::times_denominator` meets its contract: 64 bits hold each factor of three. Assumes nothing.
use mathlib.Core.List.{[]}
use mathlib.Core.Path.{◌∙◌}
use native.Mathlib.Nat.{pow-le-pow_left}
use native.Mathlib.Omega.{arith}
use Rattle.laws.proofs.Polynomial.{◌:*◌, ◌:^◌, ◌:=◌, ◌⊢◌, poly3}
use Rattle.moments.proofs.FinalStage.times_denominator.Goals as goal

pub pow-requires : goal.pow-requires
pow-requires c = omega (arith, pow-le-pow_left c.requires.2 3)

pub pow-requires-2 : goal.pow-requires-2
pow-requires-2 c = omega (arith, pow-le-pow_left c.requires.0 3)

pub returns : goal.returns
returns c =
    let f = c.args.self in
    record {
      limbs = c.product.ensures.limbs;
      number = c.product.ensures.number ∙ rw (c.pow.ensures, c.pow-2.ensures) (poly3 (λ s c m. [] ⊢ c :* s :* m :* m :^ 3 :* s :^ 3 := s :^ 4 :* (c :* m :^ 4)) tt c.args.s f.caps f.heeling);
    }
