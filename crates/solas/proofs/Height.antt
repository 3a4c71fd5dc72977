-- Heights: v rises from 0 to 916,500, the rows of a complete layer share the whole of it at each draught, and dp is at most ds.
-- Assumes nothing.
use Prim.Native.Nat.{ℕ, ◌+◌, ◌-◌, ◌*◌, ◌/◌, ◌%◌, ◌≤◌, ◌<◌, min}
use mathlib.Core.Path.{◌≡◌, refl, ◌∙◌}
use mathlib.Core.List.{List, [], ◌∷◌}
use native.Mathlib.Nat.{div-eq_of_eq-mul_right}
use native.Mathlib.Omega.{arith}
use lib.Dec.{lit<}
use Rattle.laws.specs.Lists.{last, Linked}
use Rattle.laws.specs.Sums.{sum}
use Rattle.laws.proofs.Choice.{chosen}
use Rattle.solas.specs.Height.{v, v_at, row_v, top}
use Rattle.solas.specs.Index.{dp}
use Rattle.solas.specs.Layers.{rows_v, layer_v, LayersShareAll, LayersShareAllThrice}
-- checked first, so that a definition that gives another number is refused there
use Rattle.solas.proofs.Values.{v_7801}

-- ---- the middle draught
pub dp_whole : (ds dl : ℕ) → (ds - dl) % 5 ≡ 0 → 5 * dp ds dl ≡ 5 * dl + 3 * (ds - dl)
unfolding dp
dp_whole ds dl p = let e : 3 * (ds - dl) / 5 ≡ 3 * ((ds - dl) / 5) = div-eq_of_eq-mul_right (lit< tt) (omega arith) in omega arith

pub dp_below_deepest : {ds dl : ℕ} → dl ≤ ds → dp ds dl ≤ ds
unfolding dp
dp_below_deepest p = omega arith

-- ---- v, with no case in it
pub v_slopes : (h : ℕ) → v h ≡ 94 * min h 7800 + 39 * (min h 12500 - 7800)
unfolding v
v_slopes h =
    chosen (λ n. n ≡ 94 * min h 7800 + 39 * (min h 12500 - 7800)) h 7800 (λ l. omega arith)
    (λ l. chosen (λ n. n ≡ 94 * min h 7800 + 39 * (min h 12500 - 7800)) h 12500 (λ u. omega arith) (λ u. omega arith))

pub v_full : {h : ℕ} → 12500 ≤ h → v h ≡ 916500
v_full {h} p = omega (arith, v_slopes h)

pub v_at_most : (h : ℕ) → v h ≤ 916500
v_at_most h = omega (arith, v_slopes h)

pub v_rises : {h k : ℕ} → h ≤ k → v h ≤ v k
v_rises {h} {k} p = omega (arith, v_slopes h, v_slopes k)

-- ---- v of a height over the baseline
pub v_at_rises : {H' H : ℕ} (d : ℕ) → H' ≤ H → v_at H' d ≤ v_at H d
unfolding v_at
v_at_rises {H'} {H} d p = v_rises {h = H' - d} {k = H - d} (omega arith)

pub v_at_at_most : (H d : ℕ) → v_at H d ≤ 916500
unfolding v_at
v_at_at_most H d = v_at_most (H - d)

pub v_at_waterline : {H d : ℕ} → H ≤ d → v_at H d ≡ 0
unfolding v_at
v_at_waterline {H} {d} p = omega (arith, v_slopes (H - d))

pub v_at_above : {H d : ℕ} → d < H → 0 < v_at H d
unfolding v_at
v_at_above {H} {d} p = omega (arith, v_slopes (H - d))

pub v_at_full : {H : ℕ} (d : ℕ) → d + 12500 ≤ H → v_at H d ≡ 916500
unfolding v_at
v_at_full {H} d p = v_full {h = H - d} (omega arith)

pub v_at_short : {H : ℕ} (d : ℕ) → H < d + 12500 → v_at H d < 916500
unfolding v_at
v_at_short {H} d p = omega (arith, v_slopes (H - d))

-- a layer's top is full at every draught
pub v_at_top : {ds H d : ℕ} → top ds ≤ H → d ≤ ds → v_at H d ≡ 916500
v_at_top {ds} {H} {d} p q = v_at_full d (omega arith)

-- ---- rows: what a row has and what is below it come to what is below the next
pub row_adds_lem : {H' H : ℕ} (d : ℕ) → H' ≤ H → v_at H' d + row_v H' H d ≡ v_at H d
unfolding row_v
row_adds_lem {H'} {H} d p = omega (arith, v_at_rises {H' = H'} {H = H} d p)

pub row_at_most : (H' H d : ℕ) → row_v H' H d ≤ 916500
unfolding row_v
row_at_most H' H d = omega (arith, v_at_at_most H d)

pub rows_add : (H' : ℕ) (Hs : List ℕ) (d : ℕ) → Linked ◌<◌ H' Hs → v_at H' d + sum (rows_v H' Hs d) ≡ v_at (last H' Hs) d
rows_add H' [] d r = omega arith
rows_add H' (H ∷ Hs) d r = omega (arith, row_adds_lem {H' = H'} {H = H} d (omega arith), rows_add H Hs d r.1)

-- ---- layers: their rows share what the last height has
pub layer_adds : (Hs : List ℕ) (d : ℕ) → Linked ◌<◌ 0 Hs → sum (layer_v Hs d) ≡ v_at (last 0 Hs) d
layer_adds Hs d r = omega (arith, rows_add 0 Hs d r, v_at_waterline {H = 0} {d = d} (omega arith))

pub layers_share_all : LayersShareAll
layers_share_all ds d Hs c p = layer_adds Hs d c.rising ∙ v_at_top {ds = ds} c.closed p

pub layers_share_all_thrice : LayersShareAllThrice
layers_share_all_thrice ds dl Hs c p =
    rw (layers_share_all ds ds Hs c (omega arith), layers_share_all ds (dp ds dl) Hs c (dp_below_deepest p), layers_share_all ds dl Hs c p) refl
