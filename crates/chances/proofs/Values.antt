-- Rows worked out by the independent program, computed from the definitions. Assumes nothing.
use Prim.Native.Nat.{ℕ}
use mathlib.Core.Path.{◌≡◌, refl}
use mathlib.Core.Bool.{Bool, ◌&&◌}
use mathlib.Core.List.{[], ◌∷◌}
use lib.Dec.{T, eqb}
use Rattle.laws.specs.Fraction.{◌less◌over◌, ◌⊹◌, ◌⊛◌}
use Rattle.laws.specs.Rounding.{ceil}
use Rattle.laws.proofs.Table.{every}
use Rattle.records.specs.declared.Ends.{Ends}
use Rattle.numbers.specs.Figures.{billionths_of, portion_of, halves_of}
use Rattle.solas.specs.Span.{touch, p, P}
use Rattle.solas.specs.Penetration.{c, d, G1, G3}
use Rattle.solas.specs.Ship.{Ship, abutting}
use Rattle.solas.specs.Count.{added, taken}
use Rattle.solas.proofs.Values.{printed}
use Rattle.spans.specs.Rounded.{ends_of}
use Rattle.layers.specs.Layer.{G1Ends, G3Ends}
use Rattle.penetration.specs.Figures.{plus, minus}
use Rattle.spans.specs.Span.{p_ends, PEnds}
use Rattle.penetration.specs.Penetration.{part_ends, GEnds, mixed, QEnds}
use Rattle.chances.specs.declared.Sums.{Sums}
use Rattle.chances.specs.Share.{within_ends, sums_of, lowest, highest, row_of, row_ends}

-- the group (a, n), its layer from b' to b, and the ends of its share
data Row : Type 0 where
  row : ℕ → ℕ → ℕ → ℕ → ℕ → ℕ → Row

abbrev right : Ship → Row → Bool
right s (row a n b' b lower upper) = eqb (row_ends s a n b' b).lower lower && eqb (row_ends s a n b' b).upper upper

-- "One file in full"
abbrev ends : ℕ → ℕ → Ends
ends lower upper = record { lower = lower; upper = upper }

pub in_full : (row_ends printed 1 1 0 800 ≡ ends 0x072648b6 0x072648b7) × (row_ends printed 1 2 0 800 ≡ ends 0x03e36aea 0x03e36aec) × (row_ends printed 2 1 0 800 ≡ ends 0x3091165e 0x3091165f)
unfolding row_ends row_of lowest highest sums_of within_ends added taken QEnds mixed c d PEnds GEnds p_ends part_ends G1Ends G3Ends minus plus ends_of billionths_of portion_of halves_of ceil touch P p G1 G3 ◌⊹◌ ◌⊛◌ ◌less◌over◌
in_full = (refl, refl, refl)

-- held at 0 once: what the layer before lacks counts in this one
abbrev sums : ℕ → ℕ → Sums
sums a t = record { added = ends a a; taken = ends t t }

pub held_once : lowest (sums 0 5) (sums 10 10) ≡ 5
unfolding lowest
held_once = refl

-- five zones; the first row's ends lie as far apart as any
abbrev five : Ship
five = abutting 10621 3966 5 (0 ∷ 1371 ∷ 3256 ∷ 4258 ∷ 4766 ∷ 10621 ∷ [])

long_spans :
    T (every (right five)
    (row 2 3 48 122 446409 446441
    ∷ row 1 1 0 48 4883408 4883412
    ∷ row 1 2 48 122 3583191 3583213
    ∷ row 1 5 122 1983 0 10
    ∷ row 4 2 48 122 2123038 2123056
    ∷ []))
unfolding row_ends row_of lowest highest sums_of within_ends added taken QEnds mixed c d PEnds GEnds p_ends part_ends G1Ends G3Ends minus plus ends_of billionths_of portion_of halves_of ceil touch P p G1 G3 ◌⊹◌ ◌⊛◌ ◌less◌over◌
long_spans = tt

-- short zones at both ends and behind them, so that each form of G has its turn
abbrev four : Ship
four = abutting 9900 1600 4 (0 ∷ 200 ∷ 500 ∷ 9650 ∷ 9900 ∷ [])

short_spans :
    T (every (right four)
    (row 1 1 0 800 11178451 11178452
    ∷ row 1 1 100 700 7921418 7921423
    ∷ row 1 2 400 720 4445476 4445488
    ∷ row 1 4 300 700 0 9
    ∷ row 2 2 10 790 24941969 24941985
    ∷ row 2 3 0 500 0 5
    ∷ row 4 1 200 750 7552264 7552269
    ∷ []))
unfolding row_ends row_of lowest highest sums_of within_ends added taken QEnds mixed c d PEnds GEnds p_ends part_ends G1Ends G3Ends minus plus ends_of billionths_of portion_of halves_of ceil touch P p G1 G3 ◌⊹◌ ◌⊛◌ ◌less◌over◌
short_spans = tt

-- zones of just the length at which 15Bx = bL, where the two forms of G are the same and their ends are not
abbrev edge : Ship
edge = abutting 9900 1600 4 (0 ∷ 165 ∷ 2000 ∷ 2165 ∷ 9900 ∷ [])

just_short : T (every (right edge) (row 1 1 0 400 6663600 6663601 ∷ row 3 1 0 400 1477361 1477362 ∷ []))
unfolding row_ends row_of lowest highest sums_of within_ends added taken QEnds mixed c d PEnds GEnds p_ends part_ends G1Ends G3Ends minus plus ends_of billionths_of portion_of halves_of ceil touch P p G1 G3 ◌⊹◌ ◌⊛◌ ◌less◌over◌
just_short = tt
