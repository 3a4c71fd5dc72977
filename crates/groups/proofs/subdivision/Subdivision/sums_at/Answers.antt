-- `Subdivision::sums_at` meets its contract: nothing at no penetration, and else the sums at the layer. Assumes nothing.
use Rattle.spans.specs.Hull.{ship_of}
use Rattle.groups.proofs.Group.{none_at, layered, at_layer}
use Rattle.groups.proofs.subdivision.Subdivision.sums_at.Goals as goal

pub returns-then-b-eq0 : goal.returns-then-b-eq0
returns-then-b-eq0 c = none_at (ship_of c.args.self.now.hull) c.args.b c.args.a c.args.n c.if-b-eq0.true

pub group_sums-requires : goal.group_sums-requires
group_sums-requires c = (c.requires.0, layered c.args.self.now.hull.breadth c.args.b c.requires.1 c.at_depth.ensures)

pub returns : goal.returns
returns c =
    let h = c.args.self.now.hull in
    (at_layer (ship_of h) h.breadth c.args.b c.args.a c.args.n c.at_depth.ensures c.group_sums.ensures.0, c.group_sums.ensures.1)
