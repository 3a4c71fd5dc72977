-- What `run` keeps from turn to turn. Assumes nothing.
use Rattle.std.proofs.Common.{length, drop}
use Rattle.lines.specs.Lines.{lines}
use Rattle.reader.proofs.CodeRunning.{Running}
use Rattle.reader.proofs.run.Given as goal

abbrev pub invariant-loop-line : goal.invariant-loop-line
invariant-loop-line l = Running l.h (lines (drop l.from l.input)) l.first (length l.initial.kept) l.kept l.p (lines l.line-iterator.rest.now) l.number
