-- `head` meets its contract. Assumes nothing.
use mathlib.Core.Path.{refl}
use Rattle.casefile.specs.Layout.{head_of}
use Rattle.rowlines.proofs.readers.head.Goals as goal

pub returns : goal.returns
unfolding head_of
returns c = rw (c.word_in-2.ensures.value, c.word_in.ensures.value, c.byte_in-2.ensures.value, c.byte_in.ensures.value) refl
