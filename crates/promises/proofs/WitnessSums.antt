-- What is said of the regulation's sums, of a ship of one zone with two layers, worked out as numbers: with a deck that is more than 12.5 m above the
-- light draught, and below the top. Assumes nothing.
use mathlib.Core.Path.{refl}
use mathlib.Core.List.{List, [], ◌∷◌}
use native.Mathlib.Omega.{arith}
use lib.Dec.{lit<}
use Rattle.laws.specs.Lists.{Every}
use Rattle.laws.specs.Fraction.{Fraction, ◌less◌over◌, ◌over◌, whole, ◌≺◌, ◌≼?◌, lesser, ◌⊹◌, ◌⊝◌, ◌⊛◌, ◌⊘◌, total}
use Rattle.solas.specs.Span as span
use Rattle.solas.specs.Penetration as penetration
use Rattle.solas.specs.Share.{within, share, row_share}
use Rattle.solas.specs.Height as height
use Rattle.solas.specs.Index.{dp}
use Rattle.regulation.specs.Regulation.{Jmax, Jkn, pk, lmax, b0, Jm, Jk, b11, b12, b21, b22, J, Jn, p1, p2, p1or2, p, Jb, C, G1, J0, G2, G, r, pr, pi}
use Rattle.regulation.specs.RegulationIndex as regulation
use Rattle.regulation.specs.RegulationIndex.{v, counted, v_of, held, vm}
use Rattle.regulation.specs.RegulationSums.{in_brackets, si, d_A, partial_A}
use Rattle.regulation.specs.OfSolasSums.{NoneNegative}
use Rattle.heights.specs.Height.{row_vs}
use Rattle.indices.specs.Exact.{weighted_sum}
use Rattle.casefile.specs.Order.{same_group, same_layer}
use Rattle.casefile.specs.Groups.{Group, GroupFits, Grouped}
use Rattle.rows.specs.Standing.{stands}
use Rattle.promises.specs.Rows.{exact_rows, rows_of}
use Rattle.promises.specs.Sums.{LowButTops, middle, metres, partial_at, SummedUp}
use Rattle.promises.proofs.WitnessNumbers.{Said, Compared, less_than}
use Rattle.promises.proofs.WitnessCases.{tall_row, tall}

abbrev groups : List Group
groups = record { outer = record { lowest = tall_row 400 13800; above = tall_row 400 17000 ∷ tall_row 400 18500 ∷ [] }; inner = record { lowest = tall_row 800 18500; above = [] } ∷ [] } ∷ []

-- in place of s
abbrev xs : List Fraction
xs = whole 1 ∷ (1 over 2) ∷ (1 over 4) ∷ (1 over 3) ∷ []

pub fit : Every (GroupFits tall.hull) groups
fit = (
  record {
    first = record {
      one = (((refl, refl), refl), (((refl, refl), refl), tt));
      rises = (lit< tt, (lit< tt, tt));
      below = (lit< tt, (lit< tt, tt));
      ends = omega arith;
    };
    others = (record { one = tt; rises = tt; below = tt; ends = omega arith }, tt);
    one = ((refl, refl), tt);
    rises = (lit< tt, tt);
    ends = refl;
  },
  tt,
)

abbrev q : Grouped tall.hull tall.rows
q = record { groups = groups; rows = refl; fit = fit; order = tt }

-- 17 m are not more than 12.5 m above a partial draught of 5.2 m
pub low : LowButTops tall (middle tall)
unfolding dp
low = (λ b. omega arith, (λ b. omega arith, (λ b. omega (arith, b), (λ b. omega (arith, b), tt))))

module _ (said : SummedUp vm tall (whole 1) q NoneNegative) where
  pub same : Said (said.same_at_deepest xs refl) × Said (said.partial.same low xs refl)
  unfolding partial_A d_A total si in_brackets vm held v_of counted v pi pr r G G2 J0 G1 C Jb p p1or2 p2 p1 Jn J b22 b21 b12 b11 Jk Jm b0 lmax pk Jkn Jmax lesser ◌≼?◌ ◌⊹◌ ◌⊝◌ ◌⊛◌ ◌⊘◌ ◌less◌over◌
      rows_of exact_rows stands same_group same_layer row_share share within penetration.Q penetration.G span.P span.p penetration.C penetration.G1 penetration.G3 span.touch row_vs height.row_v height.v_at height.v dp regulation.dp
  same = (record { cross = refl }, record { cross = refl })

  -- but they are above a light draught of 4 m
  pub parted_at_light : Said said.light.same × Compared (said.light.not_above xs refl)
  unfolding partial_A d_A total si in_brackets vm held v_of counted v pi pr r G G2 J0 G1 C Jb p p1or2 p2 p1 Jn J b22 b21 b12 b11 Jk Jm b0 lmax pk Jkn Jmax lesser ◌≼?◌ ◌⊹◌ ◌⊝◌ ◌⊛◌ ◌⊘◌ ◌less◌over◌
      rows_of exact_rows stands same_group same_layer row_share share within penetration.Q penetration.G span.P span.p penetration.C penetration.G1 penetration.G3 span.touch row_vs height.row_v height.v_at height.v dp
  parted_at_light = (λ low ys n. absurd (omega (arith, low.1.0 (lit< tt))), λ e. refl)

-- and there they do part
pub less_at_light : weighted_sum (rows_of tall).light xs ≺ partial_at vm tall (whole 1) q (metres tall).light xs
unfolding partial_A d_A total si in_brackets vm held v_of counted v pi pr r G G2 J0 G1 C Jb p p1or2 p2 p1 Jn J b22 b21 b12 b11 Jk Jm b0 lmax pk Jkn Jmax lesser ◌≼?◌ ◌⊹◌ ◌⊝◌ ◌⊛◌ ◌⊘◌ ◌less◌over◌
    rows_of exact_rows stands same_group same_layer row_share share within penetration.Q penetration.G span.P span.p penetration.C penetration.G1 penetration.G3 span.touch row_vs height.row_v height.v_at height.v dp
less_at_light = less_than refl
