-- Values that refuse a slip in the definitions of this crate at once; document 01's own table is crates/promises/specs/Values.antt. Assumes nothing.
use mathlib.Core.Path.{◌≡◌, refl}
use mathlib.Core.List.{[], ◌∷◌}
use lib.IntN.{pos, negsuc}
use Rattle.laws.specs.Fraction.{◌less◌over◌, ◌over◌, whole, ◌⊹◌, ◌⊝◌, ◌⊛◌, ◌≈◌}
use Rattle.solas.specs.Span.{touch, p, P}
use Rattle.solas.specs.Penetration.{C, G1, G3, G, Q}
use Rattle.solas.specs.Ship.{Ship, abutting}
use Rattle.solas.specs.Share.{within, share, row_share}
use Rattle.solas.specs.Height.{v, top}
use Rattle.solas.specs.Survival.{k, s⁴, unless_immersed}
use Rattle.solas.specs.Index.{dp, draughts, attained, R, persons, passenger_R, R2020, passenger_mark}

-- the hull of "One file in full": two zones that meet at 1,500
abbrev pub printed : Ship
printed = abutting 9900 1600 2 (0 ∷ 1500 ∷ 9900 ∷ [])

-- three zones, of which two are short
abbrev pub short : Ship
short = abutting 9900 1600 3 (0 ∷ 900 ∷ 1800 ∷ 9900 ∷ [])

pub p_1500 : p 9900 1500 ≈ 35 over 396
unfolding p ◌less◌over◌
p_1500 = record { cross = refl }

pub p_3000 : p 9900 3000 ≈ 70 over 297
unfolding p ◌less◌over◌
p_3000 = record { cross = refl }

pub share_1_1 : share printed 1 1 800 ≈ 95 over 792
unfolding share within Q P G touch C G1 G3 p ◌⊹◌ ◌⊝◌ ◌⊛◌ ◌less◌over◌
share_1_1 = record { cross = refl }

pub share_1_2 : share printed 1 2 800 ≈ 155 over 2376
unfolding share within Q P G touch C G1 G3 p ◌⊹◌ ◌⊝◌ ◌⊛◌ ◌less◌over◌
share_1_2 = record { cross = refl }

pub share_2_1 : share printed 2 1 800 ≈ 22 over 27
unfolding share within Q P G touch C G1 G3 p ◌⊹◌ ◌⊝◌ ◌⊛◌ ◌less◌over◌
share_2_1 = record { cross = refl }

-- three zones, down to 1.6 m
pub short_1_3 : share short 1 3 160 ≈ 37 over 9900
unfolding share within Q P G touch C G1 G3 p ◌⊹◌ ◌⊝◌ ◌⊛◌ ◌less◌over◌
short_1_3 = record { cross = refl }

-- a second layer, from 1.6 m to the half breadth
pub row_2_1 : row_share printed 2 1 160 800 ≈ 2799015571 over 5273437500
unfolding row_share share within Q P G touch C G1 G3 p ◌⊹◌ ◌⊝◌ ◌⊛◌ ◌less◌over◌
row_2_1 = record { cross = refl }

-- penetration at B = 1,600
pub C_160 : C 1600 160 ≈ 37 over 125
unfolding C ◌less◌over◌
C_160 = record { cross = refl }

pub C_800 : C 1600 800 ≈ whole 1
unfolding C ◌less◌over◌
C_800 = record { cross = refl }

pub G1_160 : G1 1600 160 ≈ 53911 over 750000
unfolding G1 ◌less◌over◌
G1_160 = record { cross = refl }

-- height
pub v_7800 : v 7800 ≡ 733200
unfolding v
v_7800 = refl

pub v_7801 : v 7801 ≡ 733239
unfolding v
v_7801 = refl

-- A of three partial indices
pub attained_23_60 : attained (1 over 2) (1 over 3) (1 over 4) ≈ 23 over 60
unfolding attained ◌⊹◌ ◌⊛◌ ◌less◌over◌
attained_23_60 = record { cross = refl }

-- the required index
pub R_8000 : R 8000 ≈ 13 over 33
unfolding R ◌less◌over◌
R_8000 = record { cross = refl }

pub R_10000 : R 10000 ≈ 31 over 63
unfolding R ◌less◌over◌
R_10000 = record { cross = refl }

-- of a passenger ship of 25 m with 1,500 persons in its lifeboats and 200 beyond them, and its partial mark
pub passengers_1500_200 : (passenger_R 2500 (persons 1500 200) ≈ 3 over 4) × (passenger_mark (passenger_R 2500 (persons 1500 200)) ≈ 27 over 40)
unfolding persons passenger_R passenger_mark ◌⊛◌ ◌less◌over◌
passengers_1500_200 = (record { cross = refl }, record { cross = refl })

-- by the rule of 2020, at the ends of its bands: 399 persons and 400, 1,350, and 6,001
pub bands_of_2020 : (R2020 399 ≈ 722 over 1000) × (R2020 400 ≈ 27363817 over 37900000) × (R2020 1350 ≈ 32113817 over 37900000) × (R2020 6001 ≈ 7932769 over 8800800)
unfolding R2020 ◌less◌over◌
bands_of_2020 = (record { cross = refl }, record { cross = refl }, record { cross = refl }, record { cross = refl })

-- and beside the earlier R, which it all but reaches at 8,113 persons in 400 m, none in a lifeboat, and just passes at 16,304 in 20 m, of whom 10,000 are
pub rules_nearest : (R2020 8113 ≈ 308287 over 338400) × (passenger_R 40000 (persons 0 8113) ≈ 5119 over 5619) × (R2020 16304 ≈ 495493 over 532600)
    × (passenger_R 2000 (persons 10000 6304) ≈ 13353 over 14353)
unfolding R2020 persons passenger_R ◌less◌over◌
rules_nearest = (record { cross = refl }, record { cross = refl }, record { cross = refl }, record { cross = refl })

-- survival, by its fourth power: of 5,000 ten-thousandths, of 7,071 to 7,072, of 1,000, and at the heel's limit
pub s⁴_half : s⁴ 30 400 0 ≈ 1 over 16
unfolding s⁴ k ◌⊛◌ ◌less◌over◌
s⁴_half = record { cross = refl }

pub s⁴_quarter : s⁴ 60 800 0 ≈ 1 over 4
unfolding s⁴ k ◌⊛◌ ◌less◌over◌
s⁴_quarter = record { cross = refl }

pub s⁴_tenth : s⁴ 120 1600 2995 ≈ 1 over 10000
unfolding s⁴ k ◌⊛◌ ◌less◌over◌
s⁴_tenth = record { cross = refl }

pub s⁴_lost : s⁴ 120 1600 3000 ≈ whole 0
unfolding s⁴ k ◌⊛◌ ◌less◌over◌
s⁴_lost = record { cross = refl }

-- beside the table: a lever and a range above their caps, and half way between the heel's limits
pub s⁴_capped : s⁴ 240 3200 2500 ≈ whole 1
unfolding s⁴ k ◌⊛◌ ◌less◌over◌
s⁴_capped = record { cross = refl }

pub s⁴_heeled : s⁴ 120 1600 2750 ≈ 1 over 4
unfolding s⁴ k ◌⊛◌ ◌less◌over◌
s⁴_heeled = record { cross = refl }

-- an opening at the final waterline, a millimetre above it and one below
pub openings : (unless_immersed (pos 0) (whole 1) ≡ whole 1) × (unless_immersed (pos 1) (whole 1) ≡ whole 1) × (unless_immersed (negsuc 0) (whole 1) ≡ whole 0)
unfolding unless_immersed
openings = (refl, refl, refl)

-- the three draughts, in the order deepest, partial, light
draughts_in_order : draughts 6000 4000 ≡ 6000 ∷ 5200 ∷ 4000 ∷ []
unfolding dp
draughts_in_order = refl

-- a layer's top
top_6000 : top 6000 ≡ 18500
top_6000 = refl
