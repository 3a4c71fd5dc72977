-- `moments::held_down` meets its contract: the ends of s-final settle it, or one comparison does. Assumes nothing.
use native.Mathlib.Omega.{arith}
use Rattle.moments.proofs.Held.{held_exactly, held_between, held_beside}
use Rattle.moments.proofs.held_down.Goals as goal

pub returns-then-more-eq0 : goal.returns-then-more-eq0
returns-then-more-eq0 c = held_exactly c.requires (omega (arith, c.if-more-eq0.true))

pub returns-then-more-whole : goal.returns-then-more-whole
returns-then-more-whole c = held_between c.requires (omega (arith, c.if-more-eq0.false)) (omega (arith, c.if-more-whole.true))

pub compared-requires : goal.compared-requires
compared-requires c = held_beside c.requires (omega (arith, c.if-more-whole.false))
