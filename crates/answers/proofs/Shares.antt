-- A hull's rows have shares of at most one. Assumes nothing.
use Prim.Native.Nat.{◌^◌}
use native.Mathlib.Nat.{min-le_left}
use Rattle.records.specs.declared.Hull.{Hull}
use Rattle.spans.specs.Hull.{ship_of, Hulled}
use Rattle.spans.proofs.Places.{ship_sound}
use Rattle.chances.specs.Share.{row_of, row_ends}
use Rattle.chances.proofs.Row.{lower_at_most_one}
use Rattle.indices.specs.Index.{Share}
use Rattle.rows.specs.declared.Standing.{Standing}
use Rattle.rows.specs.Work.{share_at}
use Rattle.rows.specs.Running.{Stood}

pub share_small : {h : Hull} → Hulled h → (y : Standing) → Stood h y → Share (share_at h y)
unfolding share_at row_ends row_of
share_small {h} k y s =
    let r = y.head in
    record {
      low = lower_at_most_one (ship_of h) r.first r.count y.before r.depth
          (record { sound = ship_sound k; narrow = k.narrow; group = s.group; some = s.some; rising = s.deeper; deep = s.within });
      high = min-le_left (10 ^ 9) _;
    }
