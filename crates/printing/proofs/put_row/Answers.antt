-- `printing::put_row` meets its contract: its parts join to the line. Assumes nothing.
use Rattle.printing.proofs.Frames.{row_written}
use Rattle.printing.proofs.put_row.Goals as goal

pub returns : goal.returns
returns c =
    let args = c.args in
    row_written (record { share = args.share; survivals = args.ss }) args.at args.out.now c.put_bytes.ensures c.put_ends.ensures c.put_marks.ensures c.put_feed.ensures
