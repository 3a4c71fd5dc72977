-- A ship as shares see it: its length and breadth, and where each of its zones begins and ends, in centimetres from its aft end. Assumes nothing.
use Rattle.std.specs.Prelude.{ℕ, ◌+◌, ◌-◌, ◌≤◌, ◌<◌, ◌≡◌, List, get_or}

-- zone 1 is the aftmost, zone m the foremost; aft and fwd are the places of a zone's two ends
pub record Ship : Type 0 where
  pub L : ℕ
  pub B : ℕ
  pub m : ℕ
  pub aft : ℕ → ℕ
  pub fwd : ℕ → ℕ

-- zones that abut, by the places of their ends: 0, the inner bulkheads in turn, the ship's length
abbrev pub abutting : ℕ → ℕ → ℕ → List ℕ → Ship
abutting length breadth zones places =
    record { L = length; B = breadth; m = zones; aft = λ a. get_or places (a - 1) 0; fwd = λ a. get_or places a 0 }

-- zones one behind the other from the ship's one end to its other, which may leave gaps between them
pub record Zoned (s : Ship) : Type 0 where
  pub some : 1 ≤ s.m
  pub stern : s.aft 1 ≡ 0
  pub bow : s.fwd s.m ≡ s.L
  pub zone : (a : ℕ) → 1 ≤ a → a ≤ s.m → s.aft a < s.fwd a
  pub next : (a : ℕ) → 1 ≤ a → a < s.m → s.fwd a ≤ s.aft (a + 1)

-- a ship in such zones that is 20 to 198 m long and has a breadth: what documents 01 and 02 take on, cargo ships from 80 m among them
pub record Sound (s : Ship) : Type 0 where
  pub long : 2000 ≤ s.L
  pub short : s.L ≤ 19800
  pub broad : 0 < s.B
  pub zones : Zoned s
