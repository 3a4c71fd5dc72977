-- `wide::product` meets its contract: six limbs hold any three numbers of 64 bits, multiplied. Assumes nothing.
use borrow.Author.Rules.{rules}
use Rattle.wide.proofs.Products.{three_fit}
use Rattle.wide.proofs.product.Goals as goal

pub times-requires : goal.times-requires
times-requires c =
    let a = c.args in
    let n = c.of_number.ensures in
    (n.limbs, rw n.number (three_fit {a = a.a} {b = a.b} {c = a.c} (search rules) (search rules) (search rules)).0)

pub times-requires-2 : goal.times-requires-2
times-requires-2 c =
    let a = c.args in
    let n = c.times.ensures in
    (n.limbs, rw (n.number, c.of_number.ensures.number) (three_fit {a = a.a} {b = a.b} {c = a.c} (search rules) (search rules) (search rules)).1)
