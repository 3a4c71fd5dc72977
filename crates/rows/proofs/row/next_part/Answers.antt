-- `rows::next_part` meets its contract: the first layer of a group, or a later one. Assumes nothing.
use borrow.Author.Rules.{rules}
use Rattle.rows.proofs.Defaults.{default_sums}
use Rattle.rows.proofs.Parts.{first_part, later_part}
use Rattle.rows.proofs.row.next_part.Goals as goal

pub returns-then-z-eq0 : goal.returns-then-z-eq0
returns-then-z-eq0 c =
    let now = c.sums_at-now.ensures in
    (first_part c.args.ship.now.hull c.args.z (search rules) now.0 (rw (default_sums c.default.result c.default.ensures) at c.row_ends.ensures), now.1)

pub returns : goal.returns
returns c =
    let now = c.sums_at-now.ensures in
    (later_part c.args.ship.now.hull c.args.z c.args.y c.requires.3 c.requires.1 c.requires.4 (search rules) now.0 c.row_ends-2.ensures, now.1)
