-- `printing::write_refusal` meets its contract, whether there is room for the line or not. Assumes nothing.
use mathlib.Core.Path.{sym}
use native.Mathlib.Omega.{arith}
use Rattle.hexadecimal.specs.Hex.{line_of}
use Rattle.printing.specs.Printed.{refusal_frame}
use Rattle.printing.proofs.Frames.{length_refusal_line}
use Rattle.printing.proofs.Written.{written_in_lem, not_written}
use Rattle.printing.proofs.write_refusal.Goals as goal

pub returns-then-out-lt9 : goal.returns-then-out-lt9
returns-then-out-lt9 c =
    let args = c.args in
    not_written (line_of (refusal_frame args.number args.line)) args.out.now (omega (arith, length_refusal_line args.number args.line))

pub returns : goal.returns
returns c =
    let args = c.args in
    let long = length_refusal_line args.number args.line in
    written_in_lem (line_of (refusal_frame args.number args.line)) args.out.now (omega arith) (sym long) c.put_refusal.ensures
