-- `sums::row_adds` meets its contract, draught by draught. Assumes nothing.
use borrow.Author.Rules.{rules}
use Rattle.indices.specs.Index.{adds_at, row_adds}
use Rattle.indices.proofs.Draughts.{three_made}
use Rattle.sums.proofs.row_adds.Goals as goal

pub returns : goal.returns
unfolding row_adds
returns c = three_made _ (adds_at c.args.share c.args.vs c.args.ss) (λ j e g k. search rules) c.from_fn.result c.from_fn.ensures.items
