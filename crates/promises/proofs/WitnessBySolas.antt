-- What the verdict is no word on by the regulation's sums, of a ship with a deck more than 12.5 m above its light draught, worked out as numbers:
-- plain differences with survivals that rise within a layer, and "fails". Assumes nothing.
use Prim.Native.Nat.{ℕ}
use mathlib.Core.Path.{refl}
use mathlib.Core.List.{List, [], ◌∷◌}
use native.Mathlib.Omega.{arith}
use lib.Dec.{lit<}
use Rattle.laws.specs.Lists.{Every}
use Rattle.laws.specs.Fraction.{Fraction, ◌less◌over◌, ◌over◌, whole, ◌≼◌, ◌≺◌, ◌≼?◌, lesser, ◌⊹◌, ◌⊝◌, ◌⊛◌, ◌⊘◌, total}
use Rattle.regulation.specs.Regulation.{Jmax, Jkn, pk, lmax, b0, Jm, Jk, b11, b12, b21, b22, J, Jn, p1, p2, p1or2, p, Jb, C, G1, J0, G2, G, r, pr, pi}
use Rattle.regulation.specs.RegulationIndex as regulation
use Rattle.regulation.specs.RegulationIndex.{v, counted, v_of, held, vm}
use Rattle.regulation.specs.RegulationSums.{plain, in_brackets, si, d_A, partial_A}
use Rattle.survival.specs.Survival.{counts_at, ten_thousandths, factor_of, factor_at, factors_of}
use Rattle.indices.specs.Exact.{Each, NoneBelow, Thrice, AtEach}
use Rattle.casefile.specs.Record.{Case}
use Rattle.casefile.specs.Order.{same_group, same_layer}
use Rattle.casefile.specs.Groups.{Group, GroupFits, Grouped}
use Rattle.rows.specs.Standing.{stands}
use Rattle.promises.specs.Rows.{exact_rows, rows_of}
use Rattle.promises.specs.Sums.{metres, partial_at}
use Rattle.promises.specs.VerdictBySolas.{mark_in, ReachBySolas, PlainMeetsIn, FailsIn}
use Rattle.promises.proofs.WitnessNumbers.{Said, not_more_than, less_than, not_so}
use Rattle.promises.proofs.WitnessCases.{high_row, high_deck, answers}

-- one group of one layer
module _ (x y z : ℕ) where
  abbrev groups : List Group
  groups = record { outer = record { lowest = high_row 9800 x; above = high_row 16850 y ∷ high_row 18500 z ∷ [] }; inner = [] } ∷ []

  pub fit : Every (GroupFits (high_deck x y z).hull) groups
  fit = (
    record {
      first = record {
        one = (((refl, refl), refl), (((refl, refl), refl), tt));
        rises = (lit< tt, (lit< tt, tt));
        below = (lit< tt, (lit< tt, tt));
        ends = omega arith;
      };
      others = tt;
      one = tt;
      rises = tt;
      ends = refl;
    },
    tt,
  )

  abbrev grouped : Grouped (high_deck x y z).hull (high_deck x y z).rows
  grouped = record { groups = groups; rows = refl; fit = fit; order = tt }

-- its survivals: 1, and these at the light draught
abbrev survivals : Fraction → Fraction → Fraction → Thrice (List Fraction)
survivals x y z = let ones : List Fraction = whole 1 ∷ whole 1 ∷ whole 1 ∷ [] in record { deepest = ones; partial = ones; light = x ∷ y ∷ z ∷ [] }

-- ---- 0.31 up to the first deck, 0 to the second, 1 above it: "meets" at 0.8·0.31, but they rise, and nothing is said of the plain sum
abbrev pub rising : Case
rising = high_deck 3100 0 10000

abbrev xs : Thrice (List Fraction)
xs = survivals (31 over 100) (whole 0) (whole 1)

pub none_below : AtEach NoneBelow (rows_of rising) xs
unfolding rows_of exact_rows stands same_group same_layer counts_at factors_of factor_at factor_of ◌less◌over◌
none_below =
    let ones : Each (λ n x. (whole 0 ≼ x) × (ten_thousandths n ≼ x)) (10000 ∷ 10000 ∷ 10000 ∷ []) xs.deepest =
    ((not_more_than tt, not_more_than tt), ((not_more_than tt, not_more_than tt), ((not_more_than tt, not_more_than tt), tt))) in
    (ones, ones, ((not_more_than tt, not_more_than tt), ((not_more_than tt, not_more_than tt), ((not_more_than tt, not_more_than tt), tt))))

module _ (said : PlainMeetsIn rising (whole 1) (grouped 3100 0 10000)) where
  pub not_where_it_rises : Said (said answers.rising_meets xs none_below)
  unfolding ◌less◌over◌
  not_where_it_rises falls = absurd (not_so falls.2.0.1.0 refl)

-- which falls short: 0.8·0.31 + (1.1 - 0.8)·0 + (1 - 1.1)·1 is 0.148, and R/2 is 31/126
pub plain_falls_short : partial_at plain rising (whole 1) (grouped 3100 0 10000) (metres rising).light xs.light ≺ mark_in rising
unfolding partial_A d_A total si in_brackets vm plain held v_of counted v pi pr r G G2 J0 G1 C Jb p p1or2 p2 p1 Jn J b22 b21 b12 b11 Jk Jm b0 lmax pk Jkn Jmax lesser ◌≼?◌ ◌⊹◌ ◌⊝◌ ◌⊛◌ ◌⊘◌ ◌less◌over◌
    regulation.R regulation.R₀ regulation.partial_mark
plain_falls_short = less_than refl

-- ---- 0.23 up to the second deck and 0 above it: "fails" at 0.23, and nothing is said of the regulation's sums
abbrev pub raised : Case
raised = high_deck 2300 2300 0

module _ (said : FailsIn vm raised (whole 1) (grouped 2300 2300 0)) (plain-said : FailsIn plain raised (whole 1) (grouped 2300 2300 0)) where
  pub not_where_it_is_high : Said (said answers.raised_fails) × Said (plain-said answers.raised_fails)
  not_where_it_is_high = (λ low. absurd (omega (arith, low.1.0 (lit< tt))), λ low. absurd (omega (arith, low.1.0 (lit< tt))))

-- by which it meets: 0.8·0.23 + (1.1 - 0.8)·0.23 is 0.253
pub meets_all_the_same : ReachBySolas vm raised (whole 1) (grouped 2300 2300 0) (survivals (23 over 100) (23 over 100) (whole 0)) ×
    ReachBySolas plain raised (whole 1) (grouped 2300 2300 0) (survivals (23 over 100) (23 over 100) (whole 0))
unfolding partial_A d_A total si in_brackets vm plain held v_of counted v pi pr r G G2 J0 G1 C Jb p p1or2 p2 p1 Jn J b22 b21 b12 b11 Jk Jm b0 lmax pk Jkn Jmax lesser ◌≼?◌ ◌⊹◌ ◌⊝◌ ◌⊛◌ ◌⊘◌ ◌less◌over◌
    regulation.A regulation.dp regulation.R regulation.R₀ regulation.partial_mark
meets_all_the_same = (
  record { attained = not_more_than tt; at_deepest = not_more_than tt; at_partial = not_more_than tt; at_light = not_more_than tt },
  record { attained = not_more_than tt; at_deepest = not_more_than tt; at_partial = not_more_than tt; at_light = not_more_than tt },
)
