-- Document 01, "The case file", "Order": a row against the row before it (kind 0: there is none), refusals 8 and 9. Assumes nothing.
use Rattle.std.specs.Prelude.{ℕ, ◌+◌, ◌/◌, Bool, not, ◌&&◌, ◌||◌, leb, ltb, eqb}
use Rattle.records.specs.declared.Hull.{Hull}
use Rattle.records.specs.declared.RowHead.{RowHead}

-- a layer ends with the first row at or above ds + 12,500 (the top)
abbrev pub top : Hull → ℕ
top h = h.deepest + 12500

unfoldable pub at_top : Hull → RowHead → Bool
at_top h r = leb (top h) r.height

-- the last layer is at B/2
unfoldable pub closes_group : Hull → RowHead → Bool
closes_group h r = eqb r.depth (h.breadth / 2) && at_top h r

abbrev pub is_some : RowHead → Bool
is_some before = not (eqb before.kind 0)

unfoldable pub same_group : RowHead → RowHead → Bool
same_group before r = eqb r.first before.first && eqb r.count before.count

unfoldable pub same_layer : RowHead → RowHead → Bool
same_layer before r = same_group before r && eqb r.depth before.depth

-- groups by a, then n
unfoldable pub earlier_group : RowHead → RowHead → Bool
earlier_group before r = ltb r.first before.first || (eqb r.first before.first && ltb r.count before.count)

-- refusal 8: group earlier than the row before; same group and smaller b; same layer and H not higher, or the row before at the top
unfoldable pub out_of_order : Hull → RowHead → RowHead → Bool
out_of_order h before r =
    is_some before
    && (earlier_group before r
    || (same_group before r && ltb r.depth before.depth)
    || (same_layer before r && (leb r.height before.height || at_top h before)))

-- refusal 9 at a row: new group with the group not closed, new layer with the last not closed
unfoldable pub leaves_open : Hull → RowHead → RowHead → Bool
leaves_open h before r =
    is_some before
    && ((not (same_group before r) && not (closes_group h before))
    || (same_group before r && not (same_layer before r) && not (at_top h before)))

-- refusal 9 at the end: the group not closed
unfoldable pub ends_open : Hull → RowHead → Bool
ends_open h before = is_some before && not (closes_group h before)
