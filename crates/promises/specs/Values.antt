-- Document 01, "Proved values", as one table, each line as it stands there, and document 02's of an immersed opening. Assumes nothing.
use Rattle.std.specs.Prelude.{ℕ, ◌≡◌, ℤ, pos, negsuc}
use Rattle.laws.specs.Fraction.{◌over◌, whole, ◌≈◌}
use Rattle.solas.specs.Span.{p}
use Rattle.solas.specs.Penetration.{C, G1}
use Rattle.solas.specs.Ship.{Ship}
use Rattle.solas.specs.Share.{row_share}
use Rattle.solas.specs.Height.{v}
use Rattle.solas.specs.Index.{R}
use Rattle.spans.specs.Hull.{ship_of}
use Rattle.survival.specs.Survival.{survival_of}
use Rattle.promises.specs.OneFile.{printed_case}

-- the ship of "One file in full"
abbrev pub printed_ship : Ship
printed_ship = ship_of printed_case.hull

-- a lever, a range, a heel and an opening that were found give this bottom and top; the first three with the opening at the waterline
abbrev pub gives_over : ℤ → ℕ → ℕ → ℕ → ℕ → ℕ → Type 0
gives_over o g t e bottom top = let s = survival_of 2 (record { lever = g; range = t; heel = e; opening = o; given = 0 }) in (s.bottom ≡ bottom) × (s.top ≡ top)

abbrev pub gives : ℕ → ℕ → ℕ → ℕ → ℕ → Type 0
gives = gives_over (pos 0)

pub record ProvedValues : Type 0 where
  -- "At L = 9,900: x = 1,500 gives p 35/396; x = 3,000 gives 70/297"
  pub p_1500 : p 9900 1500 ≈ 35 over 396
  pub p_3000 : p 9900 3000 ≈ 70 over 297
  -- "The file's exact shares: 95/792, 155/2376, 22/27"
  pub first_share : row_share printed_ship 1 1 0 800 ≈ 95 over 792
  pub second_share : row_share printed_ship 1 2 0 800 ≈ 155 over 2376
  pub third_share : row_share printed_ship 2 1 0 800 ≈ 22 over 27
  -- "B = 1,600: b = 160 gives C 37/125 and G1 53911/750000; b = 800 gives C 1"
  pub C_160 : C 1600 160 ≈ 37 over 125
  pub G1_160 : G1 1600 160 ≈ 53911 over 750000
  pub C_800 : C 1600 800 ≈ whole 1
  -- "v: h = 7,800 gives 733,200, 7,801 gives 733,239"
  pub v_7800 : v 7800 ≡ 733200
  pub v_7801 : v 7801 ≡ 733239
  -- "R: L = 8,000 gives 13/33, 10,000 gives 31/63"
  pub R_8000 : R 8000 ≈ 13 over 33
  pub R_10000 : R 10000 ≈ 31 over 63
  -- "s: (30, 400, 0) gives 5000/5000; (60, 800, 0) gives 7071/7072; (120, 1600, 2995) gives 1000/1000; heel 3,000 gives 0"
  pub s_30_400_0 : gives 30 400 0 5000 5000
  pub s_60_800_0 : gives 60 800 0 7071 7072
  pub s_120_1600_2995 : gives 120 1600 2995 1000 1000
  pub s_at_3000 : (g t : ℕ) → gives g t 3000 0 0
  -- document 02, "Openings": "Below zero the survival is zero"
  pub s_immersed : (n g t e : ℕ) → gives_over (negsuc n) g t e 0 0
