-- A valid case can be worked out: its hull is a ship of the lengths and zones that are asked for, and its rows stand one after the other. Assumes nothing.
use Prim.Native.Nat.{ℕ, zero, suc, ◌^◌, ◌≤◌}
use mathlib.Core.Path.{◌≡◌, refl, subst}
use mathlib.Core.Bool.{Bool, true, false}
use mathlib.Core.List.{List, [], ◌∷◌}
use mathlib.Core.Logic.{inl, inr}
use native.Mathlib.Numerals.{add-one}
use native.Mathlib.Omega.{arith}
use lib.Dec.{eqb}
use lib.ListN.{get_or}
use borrow.Author.Tests.{eqb-true, eqb-false}
use Rattle.laws.specs.Lists.{Every, Linked}
use Rattle.laws.proofs.Tests.{both, holds}
use Rattle.records.specs.declared.Hull.{Hull}
use Rattle.records.specs.declared.Finding.{Finding}
use Rattle.records.specs.declared.Flooding.{Flooding}
use Rattle.records.specs.declared.RowHead.{RowHead}
use Rattle.spans.specs.Hull.{Hulled}
use Rattle.survival.specs.Survival.{nothing, still, Loaded}
use Rattle.indices.specs.Index.{Given}
use Rattle.casefile.specs.Record.{Row, Case}
use Rattle.casefile.specs.Limits.{sizes_fit, zones_fit, row_fits}
use Rattle.casefile.specs.Valid.{ValidHull, ValidRow, Ordered, Valid, Follows, higher, deeper, later}
use Rattle.casefile.proofs.Limits.{sizes_are, zones_are, rising_step, Head, Found, Flooded, row_is}
use Rattle.rows.specs.declared.Standing.{Standing}
use Rattle.rows.specs.Standing.{nowhere, stands}
use Rattle.rows.specs.Running.{Stood, Follow}
use Rattle.rows.proofs.Stands.{in_group, in_layer_lem, in_next_layer, in_new_group, head_is}

-- a hull within the limits
pub fits_hulled : (h : Hull) → sizes_fit h ≡ true → zones_fit h ≡ true → Hulled h
fits_hulled h e f =
    let s = sizes_are h e in
    let z = zones_are h f in
    record {
      long = omega (arith, s.long);
      short = s.short;
      broad = omega (arith, s.broad);
      narrow = s.narrow;
      some = z.some;
      few = z.most;
      stern = z.stern;
      bow = z.bow;
      rising = λ k l. rw add-one (rising_step h.places h.zones k z.rising l);
    }

pub hulled : (h : Hull) → ValidHull h → Hulled h
hulled h v = fits_hulled h (holds (sizes_fit h) v.sizes) (holds (zones_fit h) v.zones)

given_within : (fs : List Finding) → Every Found fs → (i : ℕ) → (get_or fs i nothing).given ≤ 10 ^ 4
given_within [] e i = omega arith
given_within (f ∷ fs) e zero = omega (arith, e.0.given)
given_within (f ∷ fs) e (suc i) = given_within fs e.1 i

lever_within : (fs : List Finding) → Every Found fs → (i : ℕ) → (get_or fs i nothing).lever ≤ 5000
lever_within [] e i = omega arith
lever_within (f ∷ fs) e zero = e.0.lever
lever_within (f ∷ fs) e (suc i) = lever_within fs e.1 i

loads_within : (ws : List Flooding) → Every Flooded ws → {f : Finding} → f.lever ≤ 5000 → (i : ℕ) → Loaded f (get_or ws i still)
loads_within [] e l i = record { lever = l; displacement = omega arith; some = omega arith; moment = omega arith }
loads_within (w ∷ ws) e l zero = record { lever = l; displacement = e.0.displacement; some = e.0.heeled; moment = e.0.moment }
loads_within (w ∷ ws) e l (suc i) = loads_within ws e.1 l i

-- a valid row's results
pub results_given : (h : Hull) (r : Row) → ValidRow h r → Given r.results
results_given h r v =
    let (fits, found, flooded) = row_is h r (holds (row_fits h r) v.limits) in
    record { each = given_within r.results.findings found; loads = λ i. loads_within r.results.floodings flooded (lever_within r.results.findings found i) i }

-- ---- one row after another

-- a row of the same group is not in a layer above
not_above : (h : Hull) (r s : RowHead) → Follows h r s → s.first ≡ r.first → s.count ≡ r.count → r.depth ≤ s.depth
not_above h r s (higher g d l t) e f = omega (arith, d)
not_above h r s (deeper g d t) e f = omega (arith, d)
not_above h r s (later (inl a) c) e f = absurd (omega (arith, a, e))
not_above h r s (later (inr a) c) e f = absurd (omega (arith, a.1, f))

module _ (h : Hull) (y : Standing) (r : RowHead) (fits : Head h r) (low : y.before ≤ y.head.depth) (rises : in_group y r ≡ true → y.head.depth ≤ r.depth) where
  stood_at : (before below : ℕ) → before ≤ r.depth → Stood h (record { head = r; before = before; below = below })
  stood_at before below l =
      record { group = record { from = fits.first; some = fits.count; fits = fits.within }; some = fits.shallowest; deeper = l; within = omega (arith, fits.deepest) }

  stood : Stood h (stands y r)
  stood = by (in_group y r) refl (eqb r.depth y.head.depth) refl
    where
      by : (g : Bool) → in_group y r ≡ g → (d : Bool) → eqb r.depth y.head.depth ≡ d → Stood h (stands y r)
      by true g true d =
          let e : r.depth ≡ y.head.depth = eqb-true r.depth y.head.depth d in
          subst (Stood h) (in_layer_lem y r g e) (stood_at y.before y.head.height (omega (arith, e, low)))
      by true g false d = subst (Stood h) (in_next_layer y r g (eqb-false r.depth y.head.depth d)) (stood_at y.head.depth 0 (rises g))
      by false g d t = subst (Stood h) (in_new_group y r g) (stood_at 0 0 (omega arith))

-- ---- the rows in turn

abbrev Ranked : Hull → Row → Row → Type 0
Ranked h x z = Follows h x.head z.head

one_more : (h : Hull) (y : Standing) (s : Row) (rs : List Row) → ValidRow h s → y.before ≤ y.head.depth → (Head h s.head → in_group y s.head ≡ true → y.head.depth ≤ s.head.depth) →
    (Stood h (stands y s.head) → Follow h (stands y s.head) rs) → Follow h y (s ∷ rs)
one_more h y s rs v low rises rest =
    let fits = (row_is h s (holds (row_fits h s) v.limits)).0 in
    let st : Stood h (stands y s.head) = stood h y s.head fits low (rises fits) in
    (st, results_given h s v, rest st)

in_turn : (h : Hull) (y : Standing) (r : Row) (rs : List Row) → y.head ≡ r.head → y.before ≤ y.head.depth → Linked (Ranked h) r rs → Every (ValidRow h) rs → Follow h y rs
in_turn h y r [] e low l v = tt
in_turn h y r (s ∷ rs) e low l v =
    one_more h y s rs v.0 low
    (λ _ g.
    let (a, n) = both (eqb s.head.first y.head.first) (eqb s.head.count y.head.count) g in
    rw e (not_above h r.head s.head l.0 (rw (← e) (eqb-true s.head.first y.head.first a)) (rw (← e) (eqb-true s.head.count y.head.count n))))
    (λ st. in_turn h (stands y s.head) s rs (head_is y s.head) st.deeper l.1 v.1)

pub rows_follow : (c : Case) → Valid c → Follow c.hull nowhere c.rows
rows_follow c v = by c.rows v.rows v.order
  where
    h : Hull
    h = c.hull

    by : (rs : List Row) → Every (ValidRow h) rs → Ordered h rs → Follow h nowhere rs
    by [] e o = tt
    by (r ∷ rs) e o =
        one_more h nowhere r rs e.0 (omega arith)
        (λ fits g. absurd (omega (arith, fits.first, eqb-true r.head.first 0 (both (eqb r.head.first 0) (eqb r.head.count 0) g).0)))
        (λ st. in_turn h (stands nowhere r.head) r rs (head_is nowhere r.head) st.deeper o.0 e.1)
