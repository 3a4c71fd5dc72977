-- The limits as orders between numbers: what a hull, a row's head and a result that fit are within, and which persons do not fit. Assumes nothing.
use Prim.Native.Nat.{ℕ, zero, suc, ◌+◌, ◌-◌, ◌/◌, ◌%◌, ◌≤◌, ◌<◌, zero-le}
use mathlib.Core.Path.{◌≡◌, refl, sym, ◌∙◌}
use mathlib.Core.Bool.{Bool, true, false, cond, ◌&&◌, true≢false}
use mathlib.Core.List.{List, [], ◌∷◌}
use mathlib.Core.Logic.{◌⊎◌, inl, inr, ⊎_elim}
use native.Mathlib.Nat.{le_of_suc-le-suc, le_trans, eq-or-lt_of_le}
use native.Mathlib.Numerals.{add-one}
use native.Mathlib.Omega.{arith}
use lib.Dec.{leb, ltb, eqb}
use lib.IntN.{ℤ, pos, negsuc, neg_ℤ}
use lib.Signed.{mag, le_z}
use lib.ListN.{get_or}
use borrow.Author.Tests.{leb-true, eqb-true, ltb-true, le-leb, eq-eqb, not-false}
use Rattle.laws.specs.Lists.{Every}
use Rattle.laws.proofs.Choice.{split}
use Rattle.laws.proofs.Rising.{places_rise}
use Rattle.laws.proofs.Tests.{both}
use Rattle.records.specs.declared.Hull.{Hull}
use Rattle.records.specs.declared.Finding.{Finding}
use Rattle.records.specs.declared.Flooding.{Flooding}
use Rattle.records.specs.declared.RowHead.{RowHead}
use Rattle.records.specs.Results.{Results}
use Rattle.casefile.specs.Record.{Row}
use Rattle.casefile.specs.Limits.{between, shortest_ship, narrowest_ship, sizes_fit, aboard, persons_fit, rising_to, zones_fit, head_fits, opening_fits, finding_fits, findings_fit, flooding_fits, floodings_fit, results_fit, row_fits}
-- checked first, so that a definition that reads a worked file otherwise is refused there
use Rattle.casefile.proofs.PassengerExamples.{ferry_accepted}

pub between_is : (low high x : ℕ) → between low high x ≡ true → (low ≤ x) × (x ≤ high)
unfolding between
between_is low high x e = let (l, h) = both (leb low x) (leb x high) e in (leb-true low x l, leb-true x high h)

-- what a ship's kind sets, and what holds of either kind
pub record Sizes (h : Hull) : Type 0 where
  pub long_of_kind : shortest_ship h.kind ≤ h.length
  pub long : 2000 ≤ h.length
  pub short : h.length ≤ 19800
  pub even : h.breadth % 2 ≡ 0
  pub broad_of_kind : narrowest_ship h.kind ≤ h.breadth
  pub broad : 400 ≤ h.breadth
  pub narrow : h.breadth ≤ 6000
  pub deep : 1000 ≤ h.deepest
  pub shallow : h.deepest ≤ 30000
  pub laden : 500 ≤ h.light
  pub lighter : h.light ≤ h.deepest
  pub fifths : (h.deepest - h.light) % 5 ≡ 0
  pub lifeboats : h.lifeboats ≤ 10000
  pub excess : h.excess ≤ 10000
  pub rule : h.rule ≤ 1

either_long : (t : Bool) → 2000 ≤ cond t 2000 8000
either_long true = omega arith
either_long false = omega arith

either_broad : (t : Bool) → 400 ≤ cond t 400 1000
either_broad true = omega arith
either_broad false = omega arith

pub sizes_are : (h : Hull) → sizes_fit h ≡ true → Sizes h
unfolding sizes_fit
sizes_are h e =
    let least : ℕ = shortest_ship h.kind in
    let slim : ℕ = narrowest_ship h.kind in
    let (e0, ps) = both _ (leb h.lifeboats 10000 && leb h.excess 10000 && leb h.rule 1) e in
    let (e1, dl) = both _ (between 500 h.deepest h.light && eqb ((h.deepest - h.light) % 5) 0) e0 in
    let (e2, ds) = both _ (between 1000 30000 h.deepest) e1 in
    let (ls, bb) = both (between least 19800 h.length) (eqb (h.breadth % 2) 0 && between slim 6000 h.breadth) e2 in
    let (b1, b2) = both (eqb (h.breadth % 2) 0) (between slim 6000 h.breadth) bb in
    let (d1, d2) = both (between 500 h.deepest h.light) (eqb ((h.deepest - h.light) % 5) 0) dl in
    let (ps1, r) = both _ (leb h.rule 1) ps in
    let (p1, p2) = both (leb h.lifeboats 10000) (leb h.excess 10000) ps1 in
    let (long, short) = between_is least 19800 h.length ls in
    let (broad, narrow) = between_is slim 6000 h.breadth b2 in
    record {
      long_of_kind = long;
      long = le_trans (either_long (eqb h.kind 6)) long;
      short = short;
      even = eqb-true (h.breadth % 2) 0 b1;
      broad_of_kind = broad;
      broad = le_trans (either_broad (eqb h.kind 6)) broad;
      narrow = narrow;
      deep = (between_is 1000 30000 h.deepest ds).0;
      shallow = (between_is 1000 30000 h.deepest ds).1;
      laden = (between_is 500 h.deepest h.light d1).0;
      lighter = (between_is 500 h.deepest h.light d1).1;
      fifths = eqb-true ((h.deepest - h.light) % 5) 0 d2;
      lifeboats = leb-true h.lifeboats 10000 p1;
      excess = leb-true h.excess 10000 p2;
      rule = leb-true h.rule 1 r;
    }

-- the persons do not fit exactly in the band of the rule of 2020
pub in_the_band : (h : Hull) → persons_fit h ≡ false → (h.rule ≡ 1) × (1351 ≤ aboard h) × (aboard h ≤ 6000)
unfolding persons_fit
in_the_band h e =
    let (r, b) = both (eqb h.rule 1) (between 1351 6000 (aboard h)) (not-false _ e) in
    let (from, to) = between_is 1351 6000 (aboard h) b in
    (eqb-true h.rule 1 r, from, to)

pub band_unfit : (h : Hull) → h.rule ≡ 1 → 1351 ≤ aboard h → aboard h ≤ 6000 → persons_fit h ≡ false
unfolding persons_fit between
band_unfit h r from to = rw (eq-eqb h.rule 1 r, le-leb 1351 (aboard h) from, le-leb (aboard h) 6000 to) refl

pub outside_the_band : (h : Hull) → persons_fit h ≡ true → h.rule ≡ 1 → (aboard h ≤ 1350) ⊎ (6001 ≤ aboard h)
outside_the_band h e r =
    split (aboard h) 1350 (λ low. inl low)
    (λ from. split (aboard h) 6000 (λ to. absurd (true≢false (sym e ∙ band_unfit h r from to))) (λ high. inr high))

pub record Zones (h : Hull) : Type 0 where
  pub some : 1 ≤ h.zones
  pub most : h.zones ≤ 20
  pub stern : get_or h.places 0 0 ≡ 0
  pub bow : get_or h.places h.zones 0 ≡ h.length
  pub rising : rising_to h.places h.zones ≡ true

pub zones_are : (h : Hull) → zones_fit h ≡ true → Zones h
unfolding zones_fit
zones_are h e =
    let stern : Bool = eqb (get_or h.places 0 0) 0 in
    let bow : Bool = eqb (get_or h.places h.zones 0) h.length in
    let (m, r) = both (between 1 20 h.zones) (stern && bow && rising_to h.places h.zones) e in
    let (ends, up) = both (stern && bow) (rising_to h.places h.zones) r in
    let (s, b) = both stern bow ends in
    record {
      some = (between_is 1 20 h.zones m).0;
      most = (between_is 1 20 h.zones m).1;
      stern = eqb-true (get_or h.places 0 0) 0 s;
      bow = eqb-true (get_or h.places h.zones 0) h.length b;
      rising = up;
    }

-- each place is below the next
pub rising_step : (places : List ℕ) (m k : ℕ) → rising_to places m ≡ true → k < m → get_or places k 0 < get_or places (suc k) 0
unfolding rising_to
rising_step places zero k e h = absurd (omega arith)
rising_step places (suc m) k e h =
    let (r, l) = both (rising_to places m) (ltb (get_or places m 0) (get_or places (suc m) 0)) e in
    ⊎_elim
    (λ (q : suc k ≡ suc m). let d : k ≡ m = omega arith in rw d (ltb-true (get_or places m 0) (get_or places (suc m) 0) l))
    (λ (q : suc k < suc m). rising_step places m k r (le_of_suc-le-suc q))
    (eq-or-lt_of_le h)

-- and so none is above a later one
pub rising_below : (places : List ℕ) (m : ℕ) → rising_to places m ≡ true → {k n : ℕ} → k ≤ n → n ≤ m → get_or places k 0 ≤ get_or places n 0
rising_below places m e = places_rise (λ k. get_or places k 0) (λ k _ h. rw (add-one k) (rising_step places m k e h)) zero-le

pub record Head (h : Hull) (r : RowHead) : Type 0 where
  pub first : 1 ≤ r.first
  pub count : 1 ≤ r.count
  pub within : r.first + r.count ≤ h.zones + 1
  pub shallowest : 1 ≤ r.depth
  pub deepest : r.depth ≤ h.breadth / 2
  pub lowest : 1 ≤ r.height
  pub highest : r.height ≤ 60000

pub head_is : (h : Hull) (r : RowHead) → head_fits h r ≡ true → Head h r
unfolding head_fits
head_is h r e =
    let (e1, up) = both _ (between 1 60000 r.height) e in
    let (e2, b) = both _ (between 1 (h.breadth / 2) r.depth) e1 in
    let (e3, w) = both _ (leb _ h.zones) e2 in
    let (a, n) = both (leb 1 r.first) (leb 1 r.count) e3 in
    record {
      first = leb-true 1 r.first a;
      count = leb-true 1 r.count n;
      within = omega (arith, leb-true _ h.zones w);
      shallowest = (between_is 1 (h.breadth / 2) r.depth b).0;
      deepest = (between_is 1 (h.breadth / 2) r.depth b).1;
      lowest = (between_is 1 60000 r.height up).0;
      highest = (between_is 1 60000 r.height up).1;
    }

-- far from either end of two bytes with a sign
opening_is : (o : ℤ) → opening_fits o ≡ true → mag o ≤ 30000
unfolding opening_fits
opening_is (pos n) e = leb-true n 30000 (both (le_z (neg_ℤ (pos 30000)) (pos n)) (leb n 30000) e).1
opening_is (negsuc n) e = omega (arith, leb-true n 29999 (both (leb n 29999) (le_z (negsuc n) (pos 30000)) e).0)

pub record Found (r : Finding) : Type 0 where
  pub lever : r.lever ≤ 5000
  pub range : r.range ≤ 9000
  pub heel : r.heel ≤ 9000
  pub opening : mag r.opening ≤ 30000
  pub given : r.given ≤ 10000

pub finding_is : (r : Finding) → finding_fits r ≡ true → Found r
unfolding finding_fits
finding_is r e =
    let (e1, s) = both _ (leb r.given 10000) e in
    let (e2, o) = both _ (opening_fits r.opening) e1 in
    let (e3, k) = both _ (leb r.heel 9000) e2 in
    let (g, t) = both (leb r.lever 5000) (leb r.range 9000) e3 in
    record {
      lever = leb-true r.lever 5000 g;
      range = leb-true r.range 9000 t;
      heel = leb-true r.heel 9000 k;
      opening = opening_is r.opening o;
      given = leb-true r.given 10000 s;
    }

pub findings_are : (rs : List Finding) → findings_fit rs ≡ true → Every Found rs
unfolding findings_fit
findings_are [] e = tt
findings_are (r ∷ rs) e = let (x, xs) = both (finding_fits r) (findings_fit rs) e in (finding_is r x, findings_are rs xs)

pub record Flooded (w : Flooding) : Type 0 where
  pub heavy : 1 ≤ w.displacement
  pub displacement : w.displacement ≤ 300000
  pub heeled : 1 ≤ w.moment
  pub moment : w.moment ≤ 2000000
  pub lever : w.lever ≤ 5000
  pub range : w.range ≤ 9000
  pub heel : w.heel ≤ 9000
  pub roro : w.roro ≤ 1

pub flooding_is : (w : Flooding) → flooding_fits w ≡ true → Flooded w
unfolding flooding_fits
flooding_is w e =
    let (e1, o) = both _ (leb w.roro 1) e in
    let (e2, c) = both _ (leb w.lever 5000 && leb w.range 9000 && leb w.heel 9000) e1 in
    let (d, m) = both (between 1 300000 w.displacement) (between 1 2000000 w.moment) e2 in
    let (c1, k) = both _ (leb w.heel 9000) c in
    let (g, t) = both (leb w.lever 5000) (leb w.range 9000) c1 in
    record {
      heavy = (between_is 1 300000 w.displacement d).0;
      displacement = (between_is 1 300000 w.displacement d).1;
      heeled = (between_is 1 2000000 w.moment m).0;
      moment = (between_is 1 2000000 w.moment m).1;
      lever = leb-true w.lever 5000 g;
      range = leb-true w.range 9000 t;
      heel = leb-true w.heel 9000 k;
      roro = leb-true w.roro 1 o;
    }

pub floodings_are : (ws : List Flooding) → floodings_fit ws ≡ true → Every Flooded ws
unfolding floodings_fit
floodings_are [] e = tt
floodings_are (w ∷ ws) e = let (x, xs) = both (flooding_fits w) (floodings_fit ws) e in (flooding_is w x, floodings_are ws xs)

pub results_are : (rs : Results) → results_fit rs ≡ true → Every Found rs.findings × Every Flooded rs.floodings
unfolding results_fit
results_are rs e =
    let (x, y) = both (findings_fit rs.findings) (floodings_fit rs.floodings) e in
    (findings_are rs.findings x, floodings_are rs.floodings y)

-- the head, the findings, and what a passenger ship's row tells besides
pub row_is : (h : Hull) (r : Row) → row_fits h r ≡ true → Head h r.head × Every Found r.results.findings × Every Flooded r.results.floodings
unfolding row_fits
row_is h r e =
    let (x, y) = both (head_fits h r.head) (results_fit r.results) e in
    let (fs, ws) = results_are r.results y in
    (head_is h r.head x, fs, ws)
