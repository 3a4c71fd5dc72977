-- Small cases to hold the promises against, and the answer of each, worked out: a ship of one zone, of two and of three. Assumes nothing.
use Prim.Native.Nat.{ℕ}
use mathlib.Core.Path.{◌≡◌, refl}
use lib.IntN.{ℤ, pos, negsuc}
use mathlib.Core.List.{List, [], ◌∷◌}
use Rattle.laws.specs.Fraction.{◌≼?◌, ◌less◌over◌, ◌⊹◌, ◌⊛◌}
use Rattle.laws.specs.Rounding.{ceil}
use Rattle.numbers.specs.Figures.{billionths_of, portion_of, halves_of}
use Rattle.roots.specs.Root.{with_digits, root_down, root_up}
use Rattle.records.specs.declared.Answer.{Answer}
use Rattle.records.specs.declared.Ends.{Ends}
use Rattle.records.specs.declared.Finding.{Finding}
use Rattle.records.specs.declared.Hull.{Hull}
use Rattle.records.specs.Results.{found as alone}
use Rattle.solas.specs.Span.{touch, p, P}
use Rattle.solas.specs.Penetration.{c, d, G1, G3}
use Rattle.solas.specs.Count.{added, taken}
use Rattle.solas.specs.Height.{v, v_at, row_v}
use Rattle.solas.specs.Survival.{k, s⁴, unless_immersed}
use Rattle.solas.specs.Index.{dp, R, partial_mark}
use Rattle.spans.specs.Rounded as rounded
use Rattle.spans.specs.Span.{p_ends, PEnds}
use Rattle.layers.specs.Layer.{G1Ends, G3Ends}
use Rattle.penetration.specs.Figures.{plus, minus}
use Rattle.penetration.specs.Penetration.{part_ends, GEnds, mixed, QEnds}
use Rattle.chances.specs.Share.{within_ends, sums_of, lowest, highest, row_of, row_ends}
use Rattle.numbers.specs.Ratio.{ratio_of}
use Rattle.heights.specs.Height.{row_vs}
use Rattle.survival.specs.Survival.{worse_of, counts_at, factor_of, scaled_of, rounded_of, survival_of, survival_at, survivals_of}
use Rattle.indices.specs.Index.{adds_of, row_adds, partials, attained_of}
use Rattle.verdicts.specs.Required.{required_of, mark_of}
use Rattle.verdicts.specs.Verdict.{reaches, all_reach, verdict_of}
use Rattle.casefile.specs.Record.{Row, Case}
use Rattle.casefile.specs.Order.{same_group, same_layer}
use Rattle.rows.specs.Standing.{stands}
use Rattle.rows.specs.Work.{share_at, adds_at, adds_from}
use Rattle.answers.specs.Answer.{partials_of, figures, answer}

-- 100 m long, 16 m broad, a draught of 6 m and this light one, with at most three zones, which end here
abbrev hull : ℕ → ℕ → ℕ → ℕ → ℕ → Hull
hull light zones x y z =
    record {
      kind = 1;
      length = 10000;
      breadth = 1600;
      deepest = 6000;
      light = light;
      lifeboats = 0;
      excess = 0;
      rule = 0;
      zones = zones;
      places = 0 ∷ x ∷ y ∷ z ∷ 0 ∷ 0 ∷ 0 ∷ 0 ∷ 0 ∷ 0 ∷ 0 ∷ 0 ∷ 0 ∷ 0 ∷ 0 ∷ 0 ∷ 0 ∷ 0 ∷ 0 ∷ 0 ∷ 0 ∷ [];
    }

abbrev row : ℕ → ℕ → ℕ → ℕ → ℕ → List Finding → Row
row kind a n b H results = record { head = record { kind = kind; first = a; count = n; depth = b; height = H }; results = alone results }

-- survivals that are given, at the three draughts
abbrev given : ℕ → ℕ → ℕ → List Finding
given s p l =
    let at : ℕ → Finding = λ n. record { lever = 0; range = 0; heel = 0; opening = pos 0; given = n } in
    at s ∷ at p ∷ at l ∷ []

-- the figures of an answer: those of A, As, Ap, Al
abbrev figured : ℕ → ℕ → Ends → Ends → Ends → Ends → Answer
figured verdict rows a s p l =
    record {
      number = 0;
      line = 0;
      verdict = verdict;
      rows = rows;
      attained = a;
      partials = s ∷ p ∷ l ∷ [];
    }

abbrev ends : ℕ → ℕ → Ends
ends lower upper = record { lower = lower; upper = upper }

-- ---- one zone

abbrev one_zone : List Row → Case
one_zone rows = record { hull = hull 4000 1 10000 0 0; rows = rows }

-- two layers, the first cut by a deck at 7.8 m above the deepest draught
abbrev pub decked : Case
decked = one_zone (row 3 1 1 400 13800 (given 10000 10000 10000) ∷ row 3 1 1 400 18500 (given 0 0 0) ∷ row 3 1 1 800 18500 (given 5000 5000 5000) ∷ [])

abbrev pub decked_answer : Answer
decked_answer = figured 1 3 (ends 735080659 735080663) (ends 713297123 713297126) (ends 737501052 737501055) (ends 773806946 773806949)

-- two layers, the first with a deck between 12.5 m above the light draught and 12.5 m above the deepest
abbrev pub tall_row : ℕ → ℕ → Row
tall_row b H = row 3 1 1 b H (given 0 0 0)

abbrev pub tall : Case
tall = one_zone (tall_row 400 13800 ∷ tall_row 400 17000 ∷ tall_row 400 18500 ∷ tall_row 800 18500 ∷ [])

-- one layer of a ship that lies at 2 m when it is light: its second deck is 14.85 m above that draught. Survivals of 1, and these when it is light
abbrev pub high_row : ℕ → ℕ → Row
high_row H x = row 3 1 1 800 H (given 10000 10000 x)

abbrev pub high_deck : ℕ → ℕ → ℕ → Case
high_deck x y z = record { hull = hull 2000 1 10000 0 0; rows = high_row 9800 x ∷ high_row 16850 y ∷ high_row 18500 z ∷ [] }

-- R is 31/63. One row: "meets" with Al between R/2 and R
abbrev pub meeting : Case
meeting = one_zone (row 3 1 1 800 18500 (given 10000 10000 3000) ∷ [])

abbrev pub meeting_answer : Answer
meeting_answer = figured 1 1 (ends 860000000 860000000) (ends 1000000000 1000000000) (ends 1000000000 1000000000) (ends 300000000 300000000)

-- "fails" by Al alone
abbrev pub failing_row : Row
failing_row = row 3 1 1 800 18500 (given 10000 10000 2000)

abbrev pub failing : Case
failing = one_zone (failing_row ∷ [])

abbrev pub failing_answer : Answer
failing_answer = figured 2 1 (ends 840000000 840000000) (ends 1000000000 1000000000) (ends 1000000000 1000000000) (ends 200000000 200000000)

-- unsettled: R lies between bottom and top of the survival
abbrev pub unsettled : Case
unsettled =
    let found : Finding = record { lever = 33; range = 341; heel = 0; opening = pos 0; given = 0 } in
    one_zone (row 2 1 1 800 18500 (found ∷ found ∷ found ∷ []) ∷ [])

abbrev pub unsettled_answer : Answer
unsettled_answer = let a = ends 492000000 492100000 in figured 3 1 a a a a

-- the same row with the opening a millimetre under the water when it is light: nothing survives there, and the ship fails
abbrev pub flooded : Case
flooded =
    let found : ℤ → Finding = λ o. record { lever = 33; range = 341; heel = 0; opening = o; given = 0 } in
    one_zone (row 2 1 1 800 18500 (found (pos 0) ∷ found (pos 2000) ∷ found (negsuc 0) ∷ []) ∷ [])

abbrev pub flooded_answer : Answer
flooded_answer = let a = ends 492000000 492100000 in figured 2 1 (ends 393600000 393680000) a a (ends 0 0)

-- the unsettled row's results in either set of a row whose other set survives anything: the same answer
abbrev pub seconded : Case
seconded =
    let whole : Finding = record { lever = 120; range = 1600; heel = 0; opening = pos 0; given = 0 } in
    let worse : Finding = record { lever = 33; range = 341; heel = 0; opening = pos 0; given = 0 } in
    one_zone (row 5 1 1 800 18500 (whole ∷ whole ∷ worse ∷ worse ∷ worse ∷ whole ∷ []) ∷ [])

pub record Answers : Type 0 where
  pub of_decked : answer decked ≡ decked_answer
  pub of_meeting : answer meeting ≡ meeting_answer
  pub of_failing : answer failing ≡ failing_answer
  pub of_unsettled : answer unsettled ≡ unsettled_answer
  pub of_flooded : answer flooded ≡ flooded_answer
  pub of_seconded : answer seconded ≡ unsettled_answer
  pub rising_meets : (answer (high_deck 3100 0 10000)).verdict ≡ 1
  pub raised_fails : (answer (high_deck 2300 2300 0)).verdict ≡ 2

pub answers : Answers
unfolding answer figures partials_of adds_from adds_at share_at stands same_group same_layer
    row_ends row_of lowest highest sums_of within_ends added taken QEnds mixed c d PEnds GEnds p_ends part_ends G1Ends G3Ends minus plus rounded.ends_of billionths_of portion_of halves_of ceil touch P p G1 G3 ◌⊹◌ ◌⊛◌ ◌≼?◌ ◌less◌over◌
    row_vs row_v v_at v dp worse_of counts_at survivals_of survival_at survival_of factor_of unless_immersed s⁴ k ratio_of scaled_of rounded_of root_down root_up with_digits adds_of row_adds partials attained_of required_of mark_of R partial_mark reaches all_reach verdict_of
answers = record { of_decked = refl; of_meeting = refl; of_failing = refl; of_unsettled = refl; of_flooded = refl; of_seconded = refl; rising_meets = refl; raised_fails = refl }

-- ---- two zones, whose pair is not listed, and three, of which nothing is listed and the middle one is longer than any damage

abbrev pub unpaired : Case
unpaired = record { hull = hull 4000 2 1500 10000 0; rows = row 3 1 1 800 18500 (given 0 0 0) ∷ row 3 2 1 800 18500 (given 0 0 0) ∷ [] }

abbrev pub long_middle : Case
long_middle = record { hull = hull 4000 3 3000 7000 10000; rows = [] }
