-- `printing::put_refusal` meets its contract: its parts join to the line. Assumes nothing.
use Rattle.printing.proofs.Frames.{refusal_written}
use Rattle.printing.proofs.put_refusal.Goals as goal

pub returns : goal.returns
returns c =
    let args = c.args in
    refusal_written args.number args.line args.out.now c.put_bytes.ensures c.put_bytes-2.ensures c.put_bytes-3.ensures c.put_feed.ensures
