-- At each draught the exact chances of the listed cases total at most one, and one exactly when every group of non-zero share is listed. Assumes nothing.
use Prim.Native.Nat.{ℕ, ◌*◌, ◌/◌, ◌≤◌, ◌<◌}
use mathlib.Core.Path.{◌≡◌, refl}
use mathlib.Core.List.{List, [], ◌∷◌, map}
use mathlib.Core.Logic.{◌↔◌}
use native.Mathlib.Nat.{mul-pos, le_of_eq, le_refl}
use native.Mathlib.Omega.{arith}
use lib.Dec.{lit<}
use lib.ListN.{get_or}
use Rattle.laws.specs.Lists.{Every}
use Rattle.laws.specs.Fraction.{whole, Is, ◌≈◌, ◌≼◌, total}
use Rattle.laws.specs.Sums.{sum_of}
use Rattle.laws.proofs.Choice.{split}
use Rattle.laws.proofs.Fraction.{is_over, is_nothing, is_one, is_shifted, is_⊹, is_⊛, same, below, numerators_same}
use Rattle.laws.proofs.Tests.{holds}
use Rattle.records.specs.Results.{Results}
use Rattle.records.specs.declared.Hull.{Hull}
use Rattle.solas.specs.Ship.{Ship, Sound}
use Rattle.solas.specs.Height.{row_v}
use Rattle.solas.specs.Index.{draughts, dp}
use Rattle.solas.proofs.Figure.{over, over_positive}
use Rattle.solas.proofs.Height.{dp_below_deepest}
use Rattle.spans.specs.Hull.{ship_of, Hulled}
use Rattle.spans.proofs.Places.{ship_sound}
use Rattle.heights.specs.Height.{row_vs}
use Rattle.indices.specs.Exact.{weight, row_at, AtAll}
use Rattle.casefile.specs.Record.{Row, Case}
use Rattle.casefile.specs.Limits.{sizes_fit}
use Rattle.casefile.specs.Valid.{Valid}
use Rattle.casefile.proofs.Limits.{Sizes, sizes_are}
use Rattle.rows.specs.declared.Standing.{Standing}
use Rattle.rows.specs.Standing.{nowhere, stands}
use Rattle.rows.specs.Running.{Stood, Follow}
use Rattle.answers.proofs.ValidCase.{hulled, rows_follow}
use Rattle.promises.specs.Rows.{exact_row, exact_rows, rows_of, chances, group_share, AllListed}
use Rattle.promises.proofs.Numerators.{gives, is_gives, is_all, gives_nothing, all_give}
use Rattle.promises.proofs.Weighed.{rows_weigh, group_gives, groups_in, case_weighs}
use Rattle.promises.proofs.ListedGroups.{OfGroup, of_groups, listed_at_most, NoneLeftOut, all_exactly_when}
-- checked first, so that a sentence that is not so is refused at a number
use Rattle.promises.proofs.WitnessChances.{all_there}

-- ---- the chances are what the rows weigh, over one denominator
module _ (h : Hull) (sound : Sound (ship_of h)) (i d : ℕ) (afloat : d ≤ h.deepest) (v-is : (H' H : ℕ) → get_or (row_vs H' H (draughts h.deepest h.light)) i 0 ≡ row_v H' H d) where
  abbrev D : ℕ
  D = over (ship_of h) * 916500

  positive : 0 < D
  positive = mul-pos (over_positive (ship_of h) sound) (lit< tt)

  is_weight : (z : Standing) (fs : Results) → Stood h z →
      Is (weight (row_at i (exact_row h z fs))) (gives (ship_of h) z.head.first z.head.count z.before z.head.depth * row_v z.below z.head.height d) 0 D
  is_weight z fs st =
      rw (v-is z.below z.head.height)
      (is_shifted _ 0 (omega arith)
      (is_⊛ (is_gives (ship_of h) sound z.head.first z.head.count st.group z.before z.head.depth st.deeper st.within) (is_over (row_v z.below z.head.height d) {d = 916500} (lit< tt))))

  pub is_chances : (y : Standing) (rs : List Row) → Follow h y rs → Is (chances (map (row_at i) (exact_rows h y rs))) (rows_weigh h sound d afloat y rs) 0 D
  unfolding chances exact_rows total rows_weigh
  is_chances y [] w = is_nothing positive
  is_chances y (r ∷ rs) w = is_shifted _ 0 (omega arith) (is_⊹ (is_weight (stands y r.head) r.results w.0) (is_chances (stands y r.head) rs w.2))

-- ---- of a valid case
module _ (c : Case) (v : Valid c) where
  abbrev h : Hull
  h = c.hull

  abbrev s : Ship
  s = ship_of h

  abbrev deep : ℕ
  deep = h.breadth / 2

  hull : Hulled h
  hull = hulled h v.hull

  pub sound : Sound s
  sound = ship_sound hull

  pub sizes : Sizes h
  sizes = sizes_are h (holds (sizes_fit h) v.hull.sizes)

  pub half : 2 * deep ≡ h.breadth
  half = omega (arith, sizes.even)

  abbrev pub f : ℕ → ℕ → ℕ
  f a n = gives s a n 0 deep

  pub grouped : Every (λ (r : Row). OfGroup h r.head) c.rows
  grouped = of_groups h c.rows v.rows

  -- a group gives something exactly when its share is not 0
  listed_when : NoneLeftOut h f c.rows v.order grouped → AllListed c
  unfolding group_share
  listed_when t a n g none =
      let some : 0 < f a n = split (f a n) 0 (λ z. absurd (none (gives_nothing s sound a n g deep (le_of_eq half) (omega (arith, z))))) (λ l. l) in
      let (r, m, x, y) = t a n g some in
      record { row = r; among = m; first = x; count = y }

  when_listed : AllListed c → NoneLeftOut h f c.rows v.order grouped
  unfolding group_share
  when_listed t a n g some =
      let l = t a n g (λ e. omega (arith, some, numerators_same e (is_all s sound a n g deep (le_of_eq half)) (is_nothing (over_positive s sound)))) in
      (l.row, l.among, l.first, l.count)

  module _ (i d : ℕ) (afloat : d ≤ h.deepest) (v-is : (H' H : ℕ) → get_or (row_vs H' H (draughts h.deepest h.light)) i 0 ≡ row_v H' H d) where
    pub weigh : rows_weigh h sound d afloat nowhere c.rows ≡ 916500 * sum_of (group_gives h sound d afloat) (groups_in c.rows)
    weigh = case_weighs h sound d afloat c.rows v.order (rows_follow c v)

    pub at_draught : Is (chances (map (row_at i) (exact_rows h nowhere c.rows))) (rows_weigh h sound d afloat nowhere c.rows) 0 (over s * 916500)
    at_draught = is_chances h sound i d afloat v-is nowhere c.rows (rows_follow c v)

    pub D_positive : 0 < over s * 916500
    D_positive = mul-pos (over_positive s sound) (lit< tt)

    at_most_one_at : chances (map (row_at i) (exact_rows h nowhere c.rows)) ≼ whole 1
    at_most_one_at = below D_positive at_draught (is_one D_positive) (omega (arith, weigh, listed_at_most h f c.rows v.order grouped, all_give s sound deep half))

    one_at : (chances (map (row_at i) (exact_rows h nowhere c.rows)) ≈ whole 1) ↔ AllListed c
    one_at = (
      λ e. listed_when ((all_exactly_when h f c.rows v.order grouped).0 (omega (arith, weigh, all_give s sound deep half, numerators_same e at_draught (is_one D_positive)))),
      λ t.
          let all = (all_exactly_when h f c.rows v.order grouped).1 (when_listed t) in
          same D_positive at_draught (is_shifted _ 0 (omega (arith, weigh, all_give s sound deep half, all)) (is_one D_positive)),
    )

  -- ---- the three draughts
  pub v_first : (H' H : ℕ) → get_or (row_vs H' H (draughts h.deepest h.light)) 0 0 ≡ row_v H' H h.deepest
  unfolding row_vs
  v_first H' H = refl

  pub v_second : (H' H : ℕ) → get_or (row_vs H' H (draughts h.deepest h.light)) 1 0 ≡ row_v H' H (dp h.deepest h.light)
  unfolding row_vs
  v_second H' H = refl

  pub v_third : (H' H : ℕ) → get_or (row_vs H' H (draughts h.deepest h.light)) 2 0 ≡ row_v H' H h.light
  unfolding row_vs
  v_third H' H = refl

  pub chances_at_most_one : AtAll (λ rows. chances rows ≼ whole 1) (rows_of c)
  unfolding rows_of
  chances_at_most_one =
      (at_most_one_at 0 h.deepest (le_refl h.deepest) v_first, at_most_one_at 1 (dp h.deepest h.light) (dp_below_deepest sizes.lighter) v_second, at_most_one_at 2 h.light sizes.lighter v_third)

  pub chances_one : AtAll (λ rows. (chances rows ≈ whole 1) ↔ AllListed c) (rows_of c)
  unfolding rows_of
  chances_one =
      (one_at 0 h.deepest (le_refl h.deepest) v_first, one_at 1 (dp h.deepest h.light) (dp_below_deepest sizes.lighter) v_second, one_at 2 h.light sizes.lighter v_third)
