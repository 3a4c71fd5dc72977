-- `verdicts::end_reaches` meets its contract: an end of a whole or more reaches every mark, and the products of others fit. Assumes nothing.
use mathlib.Core.Path.{refl, sym}
use native.Mathlib.Omega.{arith}
use Rattle.verdicts.specs.Verdict.{reaches}
use Rattle.verdicts.proofs.Marks.{whole_reaches, below_whole_fits}
use Rattle.verdicts.proofs.end_reaches.Goals as goal

pub returns-then-end-ge-WHOLE : goal.returns-then-end-ge-WHOLE
returns-then-end-ge-WHOLE c = sym (whole_reaches c.requires c.if-end-ge-WHOLE.true)

pub overflow_mul-result-2 : goal.overflow_mul-result-2
overflow_mul-result-2 c = omega (arith, below_whole_fits c.requires c.if-end-ge-WHOLE.false)

pub returns : goal.returns
unfolding reaches
returns c = refl
