-- `listing::put_row` meets its contract, draught by draught. Assumes nothing.
use mathlib.Core.Path.{refl}
use borrow.Author.Rules.{rules}
use native.Mathlib.Omega.{arith}
use Rattle.laws.proofs.Pieces.{pieces_below}
use Rattle.listing.proofs.InNumbers.{draught_more, row_put}
use Rattle.listing.proofs.put_row.Goals as goal

pub loop-j-init : goal.loop-j-init
unfolding pieces_below
loop-j-init c = refl

pub put_draught-requires : goal.put_draught-requires
put_draught-requires c = (c.requires.0, c.requires.1.each c.loop-j.j, search rules)

pub loop-j-preserved : goal.loop-j-preserved
loop-j-preserved c = draught_more c.args.share c.args.vs c.args.ss c.args.at c.put_ends.new.out c.loop-j.j c.loop-j.invariant c.put_draught.ensures

pub returns : goal.returns
returns c =
    row_put c.args.share c.args.vs c.args.ss c.args.at c.args.out.now c.put_ends.ensures (omega (arith, c.loop-j-test.false, c.loop-j.auto.j-end)) c.loop-j.invariant
