-- `moments::FinalStage::numerator` meets its contract: 64 bits hold the square. Assumes nothing.
use mathlib.Core.List.{[]}
use mathlib.Core.Path.{◌∙◌}
use Rattle.laws.proofs.Polynomial.{◌:*◌, ◌:^◌, ◌:=◌, ◌⊢◌, poly2}
use Rattle.moments.proofs.FinalStage.numerator.Goals as goal

pub returns : goal.returns
returns c =
    let a = c.args.self in
    record {
      limbs = c.product.ensures.limbs;
      number = c.product.ensures.number ∙ poly2 (λ e n. [] ⊢ e :* (n :* n) :* (n :* n) := e :* n :^ 4) tt a.fourth a.righting;
    }
