-- `digits::put_feed` meets its contract. Assumes nothing.
use Rattle.digits.specs.Splice.{splice}
use mathlib.Core.Path.{refl}
use Rattle.digits.proofs.put_feed.Goals as goal

pub returns : goal.returns
unfolding splice
returns c = refl
