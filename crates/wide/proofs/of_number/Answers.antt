-- `wide::of_number` meets its contract: two limbs hold 64 bits. Assumes nothing.
use borrow.Author.Rules.{rules}
use Rattle.wide.proofs.Limbs.{number_limbs}
use Rattle.wide.proofs.of_number.Goals as goal

pub returns : goal.returns
returns c = number_limbs _ (search rules)
