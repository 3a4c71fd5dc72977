-- Document 01, "The case file", "Limits", and document 02's of an opening and of passenger ships, each once: of the input, of a hull (refusals 4, 13 and 5) and of a row (refusal 7).
-- Assumes nothing.
use Rattle.std.specs.Prelude.{ℕ, zero, suc, ◌+◌, ◌-◌, ◌/◌, ◌%◌, Bool, true, cond, not, ◌&&◌, List, [], ◌∷◌, get_or, leb, ltb, eqb, ℤ, pos, neg_ℤ}
use Rattle.std.specs.Int.Signed.{le_z}
use Rattle.records.specs.declared.Hull.{Hull}
use Rattle.records.specs.declared.Finding.{Finding}
use Rattle.records.specs.declared.Flooding.{Flooding}
use Rattle.records.specs.declared.RowHead.{RowHead}
use Rattle.records.specs.Results.{Results}
use Rattle.casefile.specs.Record.{Row}

unfoldable pub between : ℕ → ℕ → ℕ → Bool
between low high x = leb low x && leb x high

-- input 65,536 bytes
abbrev pub longest_input : ℕ
longest_input = 65536

-- rows 0 to 500
abbrev pub most_rows : ℕ
most_rows = 500

-- Ls from 8,000 and B from 1,000; of a passenger ship "Length: 20 to 198 m, breadth from 400 cm"
abbrev pub shortest_ship : ℕ → ℕ
shortest_ship kind = cond (eqb kind 6) 2000 8000

abbrev pub narrowest_ship : ℕ → ℕ
narrowest_ship kind = cond (eqb kind 6) 400 1000

-- Ls to 19,800; B even, to 6,000; ds 1,000 to 30,000; dl 500 to ds with ds - dl a multiple of 5; persons "at most 10,000 each"; the rule "0 earlier, 1 2020"
unfoldable pub sizes_fit : Hull → Bool
sizes_fit h =
    between (shortest_ship h.kind) 19800 h.length
    && (eqb (h.breadth % 2) 0 && between (narrowest_ship h.kind) 6000 h.breadth)
    && between 1000 30000 h.deepest
    && (between 500 h.deepest h.light && eqb ((h.deepest - h.light) % 5) 0)
    && (leb h.lifeboats 10000 && leb h.excess 10000 && leb h.rule 1)

-- all persons, "the sum of both person counts"
abbrev pub aboard : Hull → ℕ
aboard h = h.lifeboats + h.excess

-- of the rule of 2020 not 1,351 to 6,000 persons: "The band between has a logarithm and is not taken yet"
unfoldable pub persons_fit : Hull → Bool
persons_fit h = not (eqb h.rule 1 && between 1351 6000 (aboard h))

-- each of the places up to place k is above the one before
unfoldable pub rising_to : List ℕ → ℕ → Bool
rising_to places zero = true
rising_to places (suc k) = rising_to places k && ltb (get_or places k 0) (get_or places (suc k) 0)

-- zones 1 to 20; bulkheads rising, between 0 and Ls
unfoldable pub zones_fit : Hull → Bool
zones_fit h =
    between 1 20 h.zones
    && (eqb (get_or h.places 0 0) 0 && eqb (get_or h.places h.zones 0) h.length && rising_to h.places h.zones)

-- a and n at least 1 with a + n - 1 within the zones; b 1 to B/2; H 1 to 60,000
unfoldable pub head_fits : Hull → RowHead → Bool
head_fits h r =
    leb 1 r.first && leb 1 r.count && leb (r.first + r.count - 1) h.zones
    && between 1 (h.breadth / 2) r.depth
    && between 1 60000 r.height

-- an opening -30,000 to 30,000
unfoldable pub opening_fits : ℤ → Bool
opening_fits o = le_z (neg_ℤ (pos 30000)) o && le_z o (pos 30000)

-- lever 0 to 5,000; range and heel 0 to 9,000; the opening; given survival 0 to 10,000
unfoldable pub finding_fits : Finding → Bool
finding_fits r = leb r.lever 5000 && leb r.range 9000 && leb r.heel 9000 && opening_fits r.opening && leb r.given 10000

unfoldable pub findings_fit : List Finding → Bool
findings_fit [] = true
findings_fit (r ∷ rs) = finding_fits r && findings_fit rs

-- "displacement (t, 1 to 300,000) and heeling moment (tm, 1 to 2,000,000) .. one intermediate stage's lever, range and heel .. with 01's limits, and a ro-ro
-- mark, 0 or 1"
unfoldable pub flooding_fits : Flooding → Bool
flooding_fits w =
    between 1 300000 w.displacement && between 1 2000000 w.moment
    && (leb w.lever 5000 && leb w.range 9000 && leb w.heel 9000)
    && leb w.roro 1

unfoldable pub floodings_fit : List Flooding → Bool
floodings_fit [] = true
floodings_fit (w ∷ ws) = flooding_fits w && floodings_fit ws

unfoldable pub results_fit : Results → Bool
results_fit rs = findings_fit rs.findings && floodings_fit rs.floodings

unfoldable pub row_fits : Hull → Row → Bool
row_fits h r = head_fits h r.head && results_fit r.results
