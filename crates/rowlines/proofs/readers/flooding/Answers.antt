-- `flooding` meets its contract. Assumes nothing.
use mathlib.Core.Path.{refl}
use Rattle.casefile.specs.Layout.{flooding_of}
use Rattle.rowlines.proofs.readers.flooding.Goals as goal

pub returns : goal.returns
unfolding flooding_of
returns c =
    rw (
      c.byte_in.ensures.value,
      c.word_in-3.ensures.value,
      c.word_in-2.ensures.value,
      c.word_in.ensures.value,
      c.long_in-2.ensures.value,
      c.long_in.ensures.value,
    )
    refl
