-- `printing::put_figures` meets its contract: its parts join to the line. Assumes nothing.
use Rattle.printing.proofs.Frames.{figures_written}
use Rattle.printing.proofs.put_figures.Goals as goal

pub returns : goal.returns
returns c =
    let args = c.args in
    figures_written args.a args.out.now c.put_bytes.ensures c.put_bytes-2.ensures c.put_ends.ensures c.put_partials.ensures c.put_feed.ensures
