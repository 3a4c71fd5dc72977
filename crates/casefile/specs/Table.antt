-- Document 01, "The case file", the table of refusals as data: for each kind of line its checks in the table's order. Assumes nothing.
use Rattle.std.specs.Prelude.{ℕ, Bool, cond, not, ◌||◌, List, [], ◌∷◌, length, leb, ltb, eqb}
use Rattle.records.specs.declared.Hull.{Hull}
use Rattle.records.specs.declared.RowHead.{RowHead}
use Rattle.lines.specs.Lines.{Line}
use Rattle.hexadecimal.specs.Hex.{pairs, badly_written}
use Rattle.casefile.specs.declared.Progress.{Progress}
use Rattle.casefile.specs.Record.{Row}
use Rattle.casefile.specs.Layout.{kind_of, fields_of, is_hull, is_row, is_end, takes, frame_length, hull_length, shortest_hull, hull_of, row_of, count_of}
use Rattle.casefile.specs.Limits.{most_rows, sizes_fit, persons_fit, zones_fit, row_fits}
use Rattle.casefile.specs.Order.{out_of_order, leaves_open, ends_open}

-- a refusal's number, and whether it is to be given
pub record Check : Type 0 where
  pub number : ℕ
  pub holds : Bool

infix 5 ◌when◌
abbrev pub ◌when◌ : ℕ → Bool → Check
k when b = record { number = k; holds = b }

-- the number of the first check that holds, 0 where none does
unfoldable pub first_holds : List Check → ℕ
first_holds [] = 0
first_holds (c ∷ cs) = cond c.holds c.number (first_holds cs)

-- line 1, by its bytes: not kind 01 or 06, or under 10 bytes, of kind 06 under 15: "a hull frame too short for one zone"
unfoldable pub wrong_hull_frame : List ℕ → Bool
wrong_hull_frame bs = not (is_hull (kind_of bs)) || ltb (length bs) (shortest_hull (kind_of bs))

-- a later line, by its bytes, after a hull of a kind: no row that it takes and not 0f ("a row of the other ship type"), or wrong length
unfoldable pub wrong_frame : ℕ → List ℕ → Bool
wrong_frame hull bs = not (takes hull (kind_of bs) || is_end (kind_of bs)) || not (eqb (length bs) (frame_length (kind_of bs)))

-- zone count, hull length or bulkheads wrong
unfoldable pub wrong_zones : List ℕ → Hull → Bool
wrong_zones bs h = not (zones_fit h) || not (eqb (length bs) (hull_length h.kind h.zones))

-- line 1
unfoldable pub hull_checks : Line → List Check
hull_checks l =
    let bs = pairs l.text in
    let h = hull_of (kind_of bs) (fields_of bs) in
    (2 when badly_written l) ∷ (3 when wrong_hull_frame bs) ∷ (4 when not (sizes_fit h)) ∷ (13 when not (persons_fit h)) ∷ (5 when wrong_zones bs h) ∷ []

-- a row after the hull h and the rows before it, by its head and by whether it keeps its limits
abbrev pub checks_of_row : Hull → Progress → RowHead → Bool → List Check
checks_of_row h p head fits =
    (6 when leb most_rows p.rows)
    ∷ (7 when not fits)
    ∷ (8 when out_of_order h p.last head)
    ∷ (9 when leaves_open h p.last head)
    ∷ []

unfoldable pub row_checks : Hull → Progress → Row → List Check
row_checks h p r = checks_of_row h p r.head (row_fits h r)

-- the end frame, with the count that it gives
unfoldable pub end_checks : Hull → Progress → ℕ → List Check
end_checks h p count = (6 when not (eqb count p.rows)) ∷ (9 when ends_open h p.last) ∷ []

-- a later line
unfoldable pub line_checks : Hull → Progress → Line → List Check
line_checks h p l =
    let bs = pairs l.text in
    (10 when p.ended) ∷ (2 when badly_written l) ∷ (3 when wrong_frame h.kind bs) ∷ cond (is_row (kind_of bs)) (row_checks h p (row_of bs)) (end_checks h p (count_of bs))
