-- Partial indices as sums of what rows add: one row more, and draught by draught. Assumes nothing.
use Prim.Native.Nat.{ℕ, zero, suc, ◌+◌, ◌*◌, ◌^◌, ◌≤◌}
use mathlib.Core.List.{List, [], ◌∷◌, ◌++◌}
use mathlib.Core.Path.{◌≡◌, refl, ap}
use native.Mathlib.Nat.{le_trans, mul-le-mul, div-le_of_le-mul}
use native.Mathlib.Omega.{arith}
use lib.Dec.{lit<}
use lib.ListN.{get_or}
use Rattle.laws.proofs.Rounding.{ceil_least}
use Rattle.laws.proofs.Sums.{sum_of_append}
use Rattle.numbers.proofs.Figures.{both}
use Rattle.records.specs.declared.Ends.{Ends}
use Rattle.records.specs.declared.Survival.{Survival}
use Rattle.records.specs.Ends.{no_ends, at}
use Rattle.survival.specs.Survival.{no_survival}
use Rattle.indices.specs.Index.{scale, adds_of, adds_at, row_adds, ends_plus, plus, sum_at, partials, Share, RowWeights, Small, Within}
use Rattle.indices.specs.Exact.{row_trio}
use Rattle.indices.specs.Promises.{SumsAreThese}
use Rattle.indices.proofs.Rows.{three}

-- ---- one row more, after the others
pub partials_snoc : (ts : List (List Ends)) (t : List Ends) → partials (ts ++ t ∷ []) ≡ plus (partials ts) t
unfolding partials plus
partials_snoc ts t = three (more 0) (more 1) (more 2)
  where
    more : (i : ℕ) → sum_at (ts ++ t ∷ []) i ≡ ends_plus (sum_at ts i) (at t i)
    more i =
        both (omega (arith, sum_of_append (λ t. (at t i).lower) ts (t ∷ []))) (omega (arith, sum_of_append (λ t. (at t i).upper) ts (t ∷ [])))

-- ---- row by row, and draught by draught
pub sums_are_these : SumsAreThese
unfolding partials plus
sums_are_these [] = refl
sums_are_these (r ∷ rs) = ap (plus (row_trio r)) (sums_are_these rs)

-- ---- how large they are
within : {k : ℕ} {s p l : Ends} → Small k s → Small k p → Small k l → Within k (s ∷ p ∷ l ∷ [])
within {k} {s} {p} {l} a b c = record { each = each }
  where
    each : (i : ℕ) → Small k (at (s ∷ p ∷ l ∷ []) i)
    each zero = a
    each (suc zero) = b
    each (suc (suc zero)) = c
    each (suc (suc (suc i))) = record { low = omega arith; high = omega arith }

pub row_within : {share : Ends} {vs : List ℕ} {ss : List Survival} → Share share → RowWeights vs ss → Within (10 ^ 9) (row_adds share vs ss)
unfolding row_adds adds_of
row_within {share} {vs} {ss} h w = within (small 0) (small 1) (small 2)
  where
    down : (i : ℕ) → (adds_at share vs ss i).lower ≤ 10 ^ 9
    down i = let k = w.each i in div-le_of_le-mul scale (omega (arith, mul-le-mul (mul-le-mul h.low k.height) k.bottom))

    up : (i : ℕ) → (adds_at share vs ss i).upper ≤ 10 ^ 9
    up i =
        let k = w.each i in
        (ceil_least (share.upper * get_or vs i 0 * (get_or ss i no_survival).top) scale (10 ^ 9) (lit< tt)).1 (omega (arith, mul-le-mul (mul-le-mul h.high k.height) k.top))

    small : (i : ℕ) → Small (10 ^ 9) (adds_at share vs ss i)
    small i = record { low = down i; high = up i }

pub plus_within : {j k : ℕ} {t u : List Ends} → Within j t → Within k u → Within (j + k) (plus t u)
unfolding plus
plus_within {j} {k} {t} {u} h l = within (more 0) (more 1) (more 2)
  where
    more : (i : ℕ) → Small (j + k) (ends_plus (at t i) (at u i))
    more i = let a = h.each i in let b = l.each i in record { low = omega (arith, a.low, b.low); high = omega (arith, a.high, b.high) }

pub none_within : Within 0 (partials [])
unfolding partials
none_within = within none none none
  where
    none : Small 0 no_ends
    none = record { low = omega arith; high = omega arith }

pub within_wider : {j k : ℕ} {t : List Ends} → j ≤ k → Within j t → Within k t
within_wider h w = record { each = λ i. record { low = le_trans (w.each i).low h; high = le_trans (w.each i).high h } }
