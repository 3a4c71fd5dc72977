-- The program's `main`: what it writes lies in its buffer. Assumes nothing.
use Rattle.std.proofs.Common.{sym}
use Rattle.std.proofs.lemmas.List.{length-take-le}
use Rattle.answers.proofs.Prints.{written_fits}
use Rattle.damindex.proofs.main.Goals as goal

pub slice_bounds-out-end : goal.slice_bounds-out-end
slice_bounds-out-end c = let written = c.report.ensures in written_fits _ _ written.0 c.unwrap_or-k.ensures written.1

pub slice_bounds-write_all-end : goal.slice_bounds-write_all-end
slice_bounds-write_all-end c = let written = c.report.ensures in sym (length-take-le _ _ (written_fits _ _ written.0 c.unwrap_or-k.ensures written.1))
