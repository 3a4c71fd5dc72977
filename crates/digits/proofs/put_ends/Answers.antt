-- `digits::put_ends` meets its contract: its two halves join. Assumes nothing.
use Rattle.digits.proofs.Fields.{ends_written}
use Rattle.digits.proofs.put_ends.Goals as goal

pub returns : goal.returns
returns c = let args = c.args in ends_written args.at args.out.now args.lower args.upper c.put_bytes.ensures c.put_bytes-2.ensures
