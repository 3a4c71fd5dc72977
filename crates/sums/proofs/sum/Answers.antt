-- `sums::sum` meets its contract, draught by draught. Assumes nothing.
use borrow.Author.Rules.{rules}
use Rattle.records.specs.Ends.{at}
use Rattle.indices.specs.Index.{ends_plus, plus}
use Rattle.indices.proofs.Draughts.{three_made}
use Rattle.sums.proofs.sum.Goals as goal

pub returns : goal.returns
unfolding plus
returns c = three_made _ (λ j. ends_plus (at c.args.a j) (at c.args.b j)) (λ j e g k. search rules) c.from_fn.result c.from_fn.ensures.items
