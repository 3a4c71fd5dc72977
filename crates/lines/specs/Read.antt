-- A line as the code hands it on, and the line that it is. Assumes nothing.
use Rattle.lines.specs.Lines as spec
use Rattle.lines.specs.declared.iter.Line.{Line}

abbrev pub line_of : Line → spec.Line
line_of l = record { text = l.text.now; closed = l.closed }
