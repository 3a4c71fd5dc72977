-- What rises at each step rises over any distance: a function of places, and a list of numbers. Assumes nothing.
use Prim.Native.Nat.{ℕ, zero, suc, ◌+◌, ◌≤◌, ◌<◌}
use mathlib.Core.Path.{◌≡◌, ap}
use mathlib.Core.List.{List, [], ◌∷◌}
use native.Mathlib.Nat.{le_dest, le_refl, add-zero}
use native.Mathlib.Omega.{arith}
use Rattle.laws.specs.Lists.{last, Linked}

-- g rises from each place from l on to the next, up to m
pub places_rise : (g : ℕ → ℕ) {l m : ℕ} → ((a : ℕ) → l ≤ a → a < m → g a < g (a + 1)) → {a e : ℕ} → l ≤ a → a ≤ e → e ≤ m → g a ≤ g e
places_rise g {m = m} next {a} p q r =
    let (k, f) = le_dest q in
    rw (← f) (by_steps k (omega arith))
  where
    by_steps : (k : ℕ) → a + k ≤ m → g a ≤ g (a + k)
    by_steps zero h = rw (add-zero a) (le_refl (g a))
    by_steps (suc k) h =
        let e : g (a + suc k) ≡ g (a + k + 1) = ap g (omega arith) in
        omega (arith, by_steps k (omega arith), next (a + k) (omega arith) (omega arith))

pub last_rises : (a : ℕ) (xs : List ℕ) → Linked ◌<◌ a xs → a ≤ last a xs
last_rises a [] l = le_refl a
last_rises a (x ∷ xs) l = omega (arith, l.0, last_rises x xs l.1)
