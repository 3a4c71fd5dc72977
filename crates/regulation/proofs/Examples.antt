-- Figures worked out twice, by document 01's definitions and by the regulation's own, which must not differ; the regulation's letters for a ship
-- that document 01 leaves out, its survival, and its heights where nothing caps them. Assumes nothing.
use mathlib.Core.Path.{◌≡◌, refl}
use mathlib.Core.List.Memᴰ
use mathlib.Core.List.{[], ◌∷◌, Memᴰ}
use mathlib.Core.Logic.{⊎_elim}
use native.Mathlib.Omega.{arith}
use lib.Dec.{leb→le, lit<}
use Rattle.laws.specs.Fraction.{Fraction, ◌less◌over◌, ◌over◌, whole, ◌≈◌, ◌≼◌, ◌≺◌, ◌≼?◌, lesser, ◌⊹◌, ◌⊝◌, ◌⊛◌, ◌⊘◌}
use Rattle.laws.proofs.Fraction.{≈_refl, ≈_sym, ≈_trans, ⊛-≈}
use Rattle.laws.proofs.FractionRing.{⊛_comm, ⊛_assoc}
use Rattle.solas.specs.Span as span
use Rattle.solas.specs.Penetration as penetration
use Rattle.solas.specs.Share.{within, share, row_share}
use Rattle.solas.specs.Height.{v, v_at}
use Rattle.solas.specs.Index.{dp, attained, R}
use Rattle.solas.proofs.Values.{printed, short}
use Rattle.regulation.specs.Regulation.{IsRoot, Jmax, Jkn, pk, lmax, L*, b0, Jm, under√, Jk, b11, b12, b21, b22, J, Jn, p1, p2, p1or2, p, Jb, C, G1, J0, G2, G, r, pr, pi}
use Rattle.regulation.specs.RegulationIndex as regulation
use Rattle.regulation.specs.RegulationIndex.{millimetres, centimetres, hundredths, cargo, Opening, Numbers, Final, Taken, none, at, uppermost, v_of, held, vm}

-- a second layer, from 1.6 m to the half breadth; a first one of two zones; a second one of three zones, of which two are short
pub rows : (row_share printed 1 1 160 800 ≈ 45035669 over 585937500) × (pi printed (whole 1) 160 800 1 1 ≈ 45035669 over 585937500)
    × (row_share printed 1 2 0 160 ≈ 2259672299 over 116015625000) × (pi printed (whole 1) 0 160 1 2 ≈ 2259672299 over 116015625000)
    × (row_share short 1 3 160 800 ≈ 2 over 225) × (pi short (whole 1) 160 800 1 3 ≈ 2 over 225)
unfolding row_share share within penetration.Q span.P penetration.G span.touch penetration.C penetration.G1 penetration.G3 span.p
    pi pr r G G2 J0 G1 C Jb p p1or2 p2 p1 Jn J b22 b21 b12 b11 Jk Jm b0 lmax pk Jkn Jmax lesser ◌≼?◌ ◌⊹◌ ◌⊝◌ ◌⊛◌ ◌⊘◌ ◌less◌over◌
rows = (record { cross = refl }, record { cross = refl }, record { cross = refl }, record { cross = refl }, record { cross = refl }, record { cross = refl })

-- a ship of 222.75 m, whose root is a fraction: damage is at most 60 m long, 80/297 of it
pub longer : IsRoot (23 over 27) (under√ 22275) × (Jm 22275 ≈ 80 over 297) × (Jk 22275 (23 over 27) ≈ 4 over 27) × (b11 22275 (23 over 27) ≈ 0 less 2079 over 32)
    × (b12 22275 (23 over 27) ≈ whole 11) × (b21 22275 (23 over 27) ≈ 0 less 363 over 32) × (b22 22275 (23 over 27) ≈ 55 over 18)
unfolding under√ b22 b21 b12 b11 Jk Jm b0 lmax pk Jkn Jmax lesser ◌≼?◌ ◌⊹◌ ◌⊝◌ ◌⊛◌ ◌⊘◌ ◌less◌over◌
longer = (
  record { not_negative = record { cross = leb→le _ _ tt }; square = record { cross = refl } },
  record { cross = refl },
  record { cross = refl },
  record { cross = refl },
  record { cross = refl },
  record { cross = refl },
  record { cross = refl },
)

-- the letters are those of a ship of 260 m, and not of one that is a centimetre longer
pub reach : (whole 26000 ≼ L*) × (L* ≺ whole 26001)
unfolding L* ◌less◌over◌
reach = (record { cross = leb→le _ _ tt }, record { cross = lit< tt })

-- 7.801 m above a draught of 6 m
pub height : (v_at 13801 6000 ≡ 733239) × (regulation.v (millimetres 13801) (millimetres 6000) ≈ 733239 over 916500)
unfolding v_at v regulation.v ◌≼?◌ ◌⊹◌ ◌⊝◌ ◌⊛◌ ◌⊘◌ ◌less◌over◌
height = (refl, record { cross = refl })

pub middle_draught : (dp 6000 4000 ≡ 5200) × (regulation.dp (millimetres 6000) (millimetres 4000) ≈ millimetres 5200)
unfolding dp regulation.dp ◌⊹◌ ◌⊝◌ ◌⊛◌ ◌less◌over◌
middle_draught = (refl, record { cross = refl })

pub index : (attained (1 over 2) (1 over 4) (1 over 8) ≈ 13 over 40) × (regulation.A (1 over 2) (1 over 4) (1 over 8) ≈ 13 over 40)
unfolding attained regulation.A ◌⊹◌ ◌⊛◌ ◌less◌over◌
index = (record { cross = refl }, record { cross = refl })

pub required : (R 15000 ≈ 87 over 151) × (regulation.R (centimetres 15000) ≈ 87 over 151)
unfolding R regulation.R regulation.R₀ ◌≼?◌ ◌⊹◌ ◌⊝◌ ◌⊛◌ ◌⊘◌ ◌less◌over◌
required = (record { cross = refl }, record { cross = refl })

-- the fractions are numbers such as survival asks for
abbrev pub fractions : Numbers
fractions = record {
  Number = Fraction;
  ◌≐◌ = ◌≈◌;
  ◌·◌ = ◌⊛◌;
  fraction = λ f. f;
  same_refl = ≈_refl;
  same_sym = ≈_sym;
  same_trans = ≈_trans;
  same_product = ⊛-≈;
  commutes = ⊛_comm;
  associates = ⊛_assoc;
  same_fraction = λ p. p;
  fraction_product = λ f g. ≈_refl (f ⊛ g);
}

-- three of document 01's proved values, from the regulation's own formula, one for each case of K: 1/2 upright, 1/10 at a heel of 29.95 degrees, and
-- 0 at 30 degrees
pub half_survives : Final fractions cargo (millimetres 30) (hundredths 400) (hundredths 0) (1 over 2)
unfolding lesser ◌≼?◌ ◌⊝◌ ◌⊛◌ ◌⊘◌ ◌less◌over◌
half_survives = record {
  K = whole 1;
  root = 1 over 2;
  upright = λ p. record { cross = refl };
  lost = λ p. absurd (omega (arith, p.cross));
  heeled = λ p q. absurd (omega (arith, p.cross));
  fourth_root = record { cross = refl };
  product = record { cross = refl };
}

pub tenth_survives : Final fractions cargo (millimetres 120) (hundredths 1600) (hundredths 2995) (1 over 10)
unfolding lesser ◌≼?◌ ◌⊝◌ ◌⊛◌ ◌⊘◌ ◌less◌over◌
tenth_survives = record {
  K = 1 over 10;
  root = whole 1;
  upright = λ p. absurd (omega (arith, p.cross));
  lost = λ p. absurd (omega (arith, p.cross));
  heeled = λ p q. record { cross = refl };
  fourth_root = record { cross = refl };
  product = record { cross = refl };
}

pub none_survives : Final fractions cargo (millimetres 30) (hundredths 400) (hundredths 3000) (whole 0)
unfolding lesser ◌≼?◌ ◌⊝◌ ◌⊛◌ ◌⊘◌ ◌less◌over◌
none_survives = record {
  K = whole 0;
  root = 1 over 2;
  upright = λ p. absurd (omega (arith, p.cross));
  lost = λ p. record { cross = refl };
  heeled = λ p q. absurd (omega (arith, q.cross));
  fourth_root = record { cross = refl };
  product = record { cross = refl };
}

-- a hatch 1 m above the final waterline and an air pipe 0.1 m under it, be the rest what it may; and the air pipe just at it, which is not immersed yet
abbrev hatch : Opening
hatch = record { edge = whole 9; waterline = whole 8 }

abbrev air_pipe : Fraction → Opening
air_pipe edge = record { edge = edge; waterline = whole 8 }

pub immersed_survives_not : Taken fractions (millimetres 120) (hundredths 1600) (hundredths 0) (hatch ∷ air_pipe (79 over 10) ∷ []) (whole 0)
unfolding ◌less◌over◌
immersed_survives_not =
    record { immersed = λ x m l. record { cross = refl }; dry = λ d. absurd (omega (arith, (d (air_pipe (79 over 10)) (Memᴰ.tail (Memᴰ.head refl))).cross)) }

neither_under : (x : Opening) → Memᴰ x (hatch ∷ air_pipe (whole 8) ∷ []) → x.edge ≺ x.waterline → ⊥
unfolding ◌less◌over◌
neither_under x m l = ⊎_elim (λ e. let h = rw e at l in omega (arith, h.cross)) (λ k. ⊎_elim (λ e. let h = rw e at l in omega (arith, h.cross)) (λ n. Memᴰ.not-nil n) (Memᴰ.cases_cons k)) (Memᴰ.cases_cons m)

pub dry_survives : Taken fractions (millimetres 30) (hundredths 400) (hundredths 0) (hatch ∷ air_pipe (whole 8) ∷ []) (1 over 2)
dry_survives = record { immersed = λ x m l. absurd (neither_under x m l); dry = λ d. half_survives }

-- what the cap is for: without it boundaries 12 and 14 m above the waterline and the uppermost would share more than the whole
pub uncapped_shares_too_much : whole 1 ≺ vm none (at (whole 12)) (whole 0) ⊹ vm (at (whole 12)) (at (whole 14)) (whole 0) ⊹ vm (at (whole 14)) (uppermost (whole 15)) (whole 0)
unfolding vm held v_of regulation.v ◌≼?◌ ◌⊹◌ ◌⊝◌ ◌⊛◌ ◌⊘◌ ◌less◌over◌
uncapped_shares_too_much = record { cross = lit< tt }
