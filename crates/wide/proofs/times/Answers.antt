-- `wide::times` meets its contract: the product by the lower limb, and by the higher one place on. Assumes nothing.
use Rattle.wide.specs.Limbs.{value}
use Rattle.wide.proofs.Products.{product_limbs}
use Rattle.wide.proofs.times.Goals as goal

pub returns : goal.returns
returns c =
    let zero = c.of_number in
    product_limbs (value c.args.w) c.args.factor (value zero.result) c.carried-lower.result c.carried-higher.result zero.ensures.number c.requires.1
    c.carried-lower.ensures c.carried-higher.ensures
