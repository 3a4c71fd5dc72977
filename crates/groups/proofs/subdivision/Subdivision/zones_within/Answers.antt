-- `Subdivision::zones_within` meets its contract. Assumes nothing.
use Rattle.spans.specs.Hull.{ship_of}
use Rattle.groups.proofs.Spans.{in_table, span_lent}
use Rattle.groups.proofs.Within.{at_none, mixes, at_some}
use Rattle.groups.proofs.subdivision.Subdivision.zones_within.Goals as goal

pub returns-then-y-eq0 : goal.returns-then-y-eq0
returns-then-y-eq0 c = at_none (ship_of c.args.self.now.hull) c.args.y.depth c.args.a c.args.e c.if-y-eq0.true

pub span_of-s-requires : goal.span_of-s-requires
span_of-s-requires c =
    let d = c.args.self.now in
    let r = c.requires in
    in_table d.hull d.hulled d.filled c.args.a c.args.e r.0 r.1 r.2

pub g_ends-g-requires : goal.g_ends-g-requires
g_ends-g-requires c =
    let d = c.args.self.now in
    let r = c.requires in
    (span_lent d.hull d.hulled d.filled c.args.a c.args.e r.0 r.1 r.2 r.3 c.span_of-s.ensures).0

pub q_ends-requires : goal.q_ends-requires
q_ends-requires c =
    let d = c.args.self.now in
    let r = c.requires in
    let s = span_lent d.hull d.hulled d.filled c.args.a c.args.e r.0 r.1 r.2 r.3 c.span_of-s.ensures in
    mixes (ship_of d.hull) s.0 s.1 c.g_ends-g.ensures

pub returns : goal.returns
returns c =
    let d = c.args.self.now in
    let r = c.requires in
    let s = span_lent d.hull d.hulled d.filled c.args.a c.args.e r.0 r.1 r.2 r.3 c.span_of-s.ensures in
    at_some (ship_of d.hull) s.0 s.1 c.g_ends-g.ensures c.if-y-eq0.false c.q_ends.ensures
