-- Where a row stands in its group: document 01, "Shares" and "Height and survival", the layer before it and the row below it. Assumes nothing.
use Rattle.std.specs.Prelude.{cond, List, [], ◌∷◌}
use Rattle.records.specs.declared.RowHead.{RowHead}
use Rattle.casefile.specs.Record.{Row}
use Rattle.casefile.specs.Order.{same_group, same_layer}
use Rattle.rows.specs.declared.Standing.{Standing}

-- before the first row: kind 0
abbrev pub nowhere : Standing
nowhere = record { head = record { kind = 0; first = 0; count = 0; depth = 0; height = 0 }; before = 0; below = 0 }

-- a row after one that stood at y: in its layer, in the next layer of its group, or in a new group
unfoldable pub stands : Standing → RowHead → Standing
stands y r =
    cond (same_layer y.head r) (record { head = r; before = y.before; below = y.head.height })
    (cond (same_group y.head r) (record { head = r; before = y.head.depth; below = 0 })
    (record { head = r; before = 0; below = 0 }))

unfoldable pub standings : Standing → List Row → List Standing
standings y [] = []
standings y (r ∷ rs) = stands y r.head ∷ standings (stands y r.head) rs
