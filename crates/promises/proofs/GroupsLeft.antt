-- The chances of the listed cases, with the upper ends of the groups that are not listed, are at least one: what all groups give is one. Assumes nothing.
use Prim.Native.Nat.{ℕ, zero, suc, ◌+◌, ◌-◌, ◌*◌, ◌^◌, ◌≤◌, ◌<◌}
use mathlib.Core.Path.{◌≡◌}
use mathlib.Core.List.{List, [], ◌∷◌, map}
use mathlib.Core.Logic.{◌⊎◌, inl, inr}
use native.Mathlib.Nat.{mul-pos, mul-le-mul, le_of_eq, le_refl}
use native.Mathlib.Omega.{arith}
use lib.Dec.{lit<}
use lib.ListN.{get_or}
use Rattle.laws.specs.Fraction.{whole, ◌≼◌, ◌⊹◌}
use Rattle.laws.specs.Sums.{sum_of, sum_below}
use Rattle.laws.proofs.Fraction.{is_over, is_one, is_widened, is_widened_behind, is_⊹, below, numerators_below}
use Rattle.records.specs.declared.Hull.{Hull}
use Rattle.records.specs.declared.RowHead.{RowHead}
use Rattle.numbers.specs.Figures.{billionths}
use Rattle.solas.specs.Ship.{Ship}
use Rattle.solas.specs.Count.{Group, groups}
use Rattle.solas.specs.Height.{row_v}
use Rattle.solas.specs.Index.{draughts, dp}
use Rattle.solas.proofs.Figure.{over}
use Rattle.solas.proofs.Height.{dp_below_deepest}
use Rattle.spans.specs.Hull.{ship_of}
use Rattle.heights.specs.Height.{row_vs}
use Rattle.indices.specs.Exact.{row_at, AtAll}
use Rattle.casefile.specs.Record.{Case}
use Rattle.casefile.specs.Valid.{Valid}
use Rattle.casefile.proofs.Soundness.{sound as sound-file}
use Rattle.rows.specs.Standing.{nowhere}
use Rattle.listing.specs.Hull.{group_ends}
use Rattle.promises.specs.Rows.{exact_rows, rows_of, chances, group_share, Listed}
use Rattle.promises.specs.HostHull.{GroupsLeftOut}
use Rattle.promises.proofs.Numerators.{is_all, all_give}
use Rattle.promises.proofs.Weighed.{groups_in}
use Rattle.promises.proofs.ListedGroups.{NoneLeftOut, all_exactly_when}
use Rattle.promises.proofs.Chances.{sound, sizes, half, f, grouped, weigh, at_draught, D_positive, v_first, v_second, v_third}
use Rattle.promises.proofs.HostHull.{between, groups_tell}

-- ---- sums, of which one is so many times at most another and so many times a third
module _ (k o : ℕ) where
  sums_below : (f g u : ℕ → ℕ) (n : ℕ) → ((i : ℕ) → i < n → k * f i ≤ g i + o * u i) → k * sum_below f n ≤ sum_below g n + o * sum_below u n
  sums_below f g u zero h = omega arith
  sums_below f g u (suc n) h = omega (arith, sums_below f g u n (λ i l. h i (omega arith)), h n (omega arith))

  groups_below : (s : Ship) (f g u : ℕ → ℕ → ℕ) → ((a n : ℕ) → Group s a n → k * f a n ≤ g a n + o * u a n) → k * groups f s.m ≤ groups g s.m + o * groups u s.m
  unfolding groups
  groups_below s f g u h =
      sums_below (λ i. sum_below (λ j. f (suc i) (suc j)) (s.m - i)) (λ i. sum_below (λ j. g (suc i) (suc j)) (s.m - i)) (λ i. sum_below (λ j. u (suc i) (suc j)) (s.m - i)) s.m
      (λ i l. sums_below (λ j. f (suc i) (suc j)) (λ j. g (suc i) (suc j)) (λ j. u (suc i) (suc j)) (s.m - i) (λ j r. h (suc i) (suc j) (record { from = omega arith; some = omega arith; fits = omega arith })))

module _ (c : Case) (v : Valid c) (u : ℕ → ℕ → ℕ) (covered : (a n : ℕ) → Group (ship_of c.hull) a n → Listed c a n ⊎ ((group_ends c.hull a n).upper ≤ u a n)) where
  abbrev h : Hull
  h = c.hull

  abbrev s : Ship
  s = ship_of h

  abbrev o : ℕ
  o = over s

  -- what a group gives, in billionths
  by_upper : (a n : ℕ) → Group s a n → 10 ^ 9 * f c v a n ≤ o * (group_ends h a n).upper
  unfolding group_share
  by_upper a n g =
      omega (
        arith,
        numerators_below (between h v.hull a n g).high
            (is_widened (10 ^ 9) (is_all s (sound c v) a n g _ (le_of_eq (half c v))))
            (is_widened_behind o (is_over (group_ends h a n).upper {d = 10 ^ 9} (lit< tt))),
      )

  -- and how much more than u
  abbrev beyond : ℕ → ℕ → ℕ
  beyond a n = 10 ^ 9 * f c v a n - o * u a n

  none_beyond : NoneLeftOut h beyond c.rows v.order (grouped c v)
  none_beyond a n g p = let l = by (covered a n g) in (l.row, l.among, l.first, l.count)
    where
      by : Listed c a n ⊎ ((group_ends h a n).upper ≤ u a n) → Listed c a n
      by (inl l) = l
      by (inr l) = absurd (omega (arith, p, by_upper a n g, mul-le-mul (le_refl o) l))

  listed_beyond : (ks : List RowHead) → sum_of (λ (k : RowHead). beyond k.first k.count) ks ≤ 10 ^ 9 * sum_of (λ (k : RowHead). f c v k.first k.count) ks
  listed_beyond [] = omega arith
  listed_beyond (k ∷ ks) = omega (arith, listed_beyond ks)

  abbrev listed : ℕ
  listed = sum_of (λ (k : RowHead). f c v k.first k.count) (groups_in c.rows)

  enough : 10 ^ 9 * o ≤ 10 ^ 9 * listed + o * groups u h.zones
  enough =
      let all = (all_exactly_when h beyond c.rows v.order (grouped c v)).1 none_beyond in
      let each = groups_below (10 ^ 9) o s (f c v) beyond u (λ a n g. omega arith) in
      omega (arith, all, each, listed_beyond (groups_in c.rows), all_give s (sound c v) _ (half c v))

  module _ (i d : ℕ) (afloat : d ≤ h.deepest) (v-is : (H' H : ℕ) → get_or (row_vs H' H (draughts h.deepest h.light)) i 0 ≡ row_v H' H d) where
    left_at : whole 1 ≼ chances (map (row_at i) (exact_rows h nowhere c.rows)) ⊹ billionths (groups u h.zones)
    left_at =
        let D = D_positive c v i d afloat v-is in
        let both = is_⊹ (is_widened (10 ^ 9) (at_draught c v i d afloat v-is)) (is_widened_behind (o * 916500) (is_over (groups u h.zones) {d = 10 ^ 9} (lit< tt))) in
        let positive : 0 < 10 ^ 9 * (o * 916500) = mul-pos (lit< tt) D in
        below positive (is_one positive) both (omega (arith, enough, weigh c v i d afloat v-is))

  left_out : AtAll (λ rows. whole 1 ≼ chances rows ⊹ billionths (groups u h.zones)) (rows_of c)
  unfolding rows_of
  left_out = (
    left_at 0 h.deepest (le_refl h.deepest) (v_first c v),
    left_at 1 (dp h.deepest h.light) (dp_below_deepest (sizes c v).lighter) (v_second c v),
    left_at 2 h.light (sizes c v).lighter (v_third c v),
  )

pub groups_left_out : GroupsLeftOut
groups_left_out t c e u covered = left_out c (sound-file t c e).1 u (λ a n g. rw (← ((groups_tell t c e).1 a n g).upper) (covered a n g))
