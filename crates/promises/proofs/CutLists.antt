-- The heights of a layer's rows and of a case's, and lists of fractions that are cut along with layers. Assumes nothing.
use Prim.Native.Nat.{ℕ, ◌≤◌, ◌<◌}
use mathlib.Core.Path.{◌≡◌, refl}
use mathlib.Core.List.{List, [], ◌∷◌}
use native.Mathlib.Omega.{arith}
use lib.ListN.{length, drop}
use Rattle.laws.specs.Lists.{Every, last, Linked}
use Rattle.laws.specs.Fraction.{Fraction}
use Rattle.laws.proofs.Every.{every_one, every_map, every_taken, every_dropped}
use Rattle.records.specs.declared.Hull.{Hull}
use Rattle.solas.specs.Height.{top}
use Rattle.solas.specs.Index.{dp}
use Rattle.casefile.specs.Record.{Row, Case}
use Rattle.casefile.specs.Valid.{BelowTop, ValidRow}
use Rattle.casefile.specs.Groups.{layer_rows}
use Rattle.promises.specs.Sums.{LayerAfter, heights, EachLayer, LowButTops, middle}

-- ---- the heights of a layer's rows
pub heights_rise : (r : Row) (above : List Row) → Linked (λ (x : Row) (y : Row). x.head.height < y.head.height) r above →
    Linked ◌<◌ r.head.height (heights above)
heights_rise r [] l = tt
heights_rise r (x ∷ above) l = (l.0, heights_rise x above l.1)

pub heights_end : (r : Row) (above : List Row) → last r.head.height (heights above) ≡ (last r above).head.height
heights_end r [] = refl
heights_end r (x ∷ above) = heights_end x above

module _ (h : Hull) (d : ℕ) where
  abbrev pub Low : Row → Type 0
  Low r = BelowTop h r.head → r.head.height ≤ top d

  pub heights_low : (r : Row) (above : List Row) → Linked (λ (x : Row) (y : Row). BelowTop h x.head) r above →
      Every (λ (r : Row). ValidRow h r × Low r) (r ∷ above) →
      Linked (λ F G. F ≤ top d) r.head.height (heights above)
  heights_low r [] l k = tt
  heights_low r (x ∷ above) l k = (k.0.1 l.0, heights_low x above l.1 k.1)

-- no row below the top is more than 12.5 m above the deepest draught; and what is so of the light one is so of the partial one, which is not lighter
pub low_at_deepest : (c : Case) → LowButTops c c.hull.deepest
low_at_deepest c =
    every_map (λ (r : Row). Unit {0}) (Low c.hull c.hull.deepest) (λ r e low. omega (arith, low)) c.rows (every_one c.rows)

pub low_at_middle : (c : Case) → LowButTops c c.hull.light → LowButTops c (middle c)
unfolding dp
low_at_middle c k = every_map (Low c.hull c.hull.light) (Low c.hull (middle c)) (λ r e low. omega (arith, e low)) c.rows k

-- ---- fractions that all have something have it in each layer
pub each_layer : (P : Fraction → Type 0) (ls : List LayerAfter) (xs : List Fraction) → Every P xs → EachLayer (Every P) ls xs
each_layer P [] xs e = tt
each_layer P (l ∷ ls) xs e =
    let n = length (layer_rows l.layer) in
    (every_taken P n xs e, each_layer P ls (drop n xs) (every_dropped P n xs e))
