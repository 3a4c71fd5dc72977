-- `Kept::enter` meets its contract. Assumes nothing.
use mathlib.Core.Path.{sym, ◌∙◌, ap, subst}
use native.Mathlib.Omega.{arith}
use Rattle.survival.specs.Survival.{survivals_of}
use Rattle.indices.specs.Index.{Given}
use Rattle.indices.proofs.Sums.{within_wider}
use Rattle.casefile.specs.Record.{Row}
use Rattle.casefile.specs.Kept.{kept_row}
use Rattle.rows.proofs.Entering.{part_asked, share_small, adds_small, weights, row_entered}
use Rattle.rows.proofs.kept_rows.Kept.enter.Goals as goal

pub row_at-row-requires : goal.row_at-row-requires
row_at-row-requires c = c.requires.0

pub part_after-part-requires : goal.part_after-part-requires
part_after-part-requires c =
    let r = c.args.self.now in
    let head = c.head-head.ensures ∙ ap (λ (r : Row). r.head) c.row_at-row.ensures.row in
    part_asked c.args.s.standing (kept_row r.bytes.now c.args.i).head r.shares c.requires.1 head c.next-standing.ensures c.requires.3 c.requires.4

pub survivals_of-survivals-requires : goal.survivals_of-survivals-requires
survivals_of-survivals-requires c = subst (λ (r : Row). Given r.results) (sym c.row_at-row.ensures.row) c.requires.2

pub row-adds-requires : goal.row-adds-requires
row-adds-requires c =
    let r = c.args.self.now in
    let row = kept_row r.bytes.now c.args.i in
    let head = c.head-head.ensures ∙ ap (λ (r : Row). r.head) c.row_at-row.ensures.row in
    let survivals = c.survivals_of-survivals.ensures ∙ ap (λ (r : Row). survivals_of r.head.kind r.results) c.row_at-row.ensures.row in (
      share_small c.args.s.standing row.head r.shares c.requires.1 head c.next-standing.ensures c.part_after-part.ensures.0,
      weights c.next-standing.result.below c.head-head.result.height row.head.kind r.draughts c.requires.2 survivals,
    )

pub sum-sums-requires : goal.sum-sums-requires
sum-sums-requires c =
    let r = c.args.self.now in
    let row = kept_row r.bytes.now c.args.i in
    let head = c.head-head.ensures ∙ ap (λ (r : Row). r.head) c.row_at-row.ensures.row in
    let survivals = c.survivals_of-survivals.ensures ∙ ap (λ (r : Row). survivals_of r.head.kind r.results) c.row_at-row.ensures.row in
    let share = share_small c.args.s.standing row.head r.shares c.requires.1 head c.next-standing.ensures c.part_after-part.ensures.0 in
    let asked = weights c.next-standing.result.below c.head-head.result.height row.head.kind r.draughts c.requires.2 survivals in
    (within_wider (omega arith) c.requires.5, within_wider (omega arith) (adds_small share asked c.row-adds.ensures))

pub returns : goal.returns
returns c =
    let r = c.args.self.now in
    let head = c.head-head.ensures ∙ ap (λ (r : Row). r.head) c.row_at-row.ensures.row in
    let survivals = c.survivals_of-survivals.ensures ∙ ap (λ (r : Row). survivals_of r.head.kind r.results) c.row_at-row.ensures.row in
    let part = c.part_after-part.ensures in
    (row_entered r.ship.hull c.args.s (kept_row r.bytes.now c.args.i) head c.next-standing.ensures part.0 r.drawn survivals c.row-adds.ensures c.sum-sums.ensures, part.1)
