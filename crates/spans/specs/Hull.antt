-- The ship of a hull, and what a hull has when its case file is accepted: 01, "The case file", limits, and 02, ticket 6. Assumes nothing.
use Rattle.std.specs.Prelude.{ℕ, ◌+◌, ◌≤◌, ◌<◌, ◌≡◌, get_or}
use Rattle.records.specs.declared.Hull.{Hull}
use Rattle.solas.specs.Ship.{Ship, abutting}

abbrev pub ship_of : Hull → Ship
ship_of h = abutting h.length h.breadth h.zones h.places

-- a length from 20 to 198 m, a breadth from 4 to 60 m, 1 to 20 zones, and places that rise from 0 to the length
pub record Hulled (h : Hull) : Type 0 where
  pub long : 2000 ≤ h.length
  pub short : h.length ≤ 19800
  pub broad : 400 ≤ h.breadth
  pub narrow : h.breadth ≤ 6000
  pub some : 1 ≤ h.zones
  pub few : h.zones ≤ 20
  pub stern : get_or h.places 0 0 ≡ 0
  pub bow : get_or h.places h.zones 0 ≡ h.length
  pub rising : (k : ℕ) → k < h.zones → get_or h.places k 0 < get_or h.places (k + 1) 0
