-- Six limbs and their value: it is below the limit, and what it is short of that has a complement. Assumes nothing.
use mathlib.Core.Path.{◌≡◌, refl}
use mathlib.Core.List.{List, [], ◌∷◌}
use Prim.Native.Nat.{ℕ, zero, suc, ◌+◌, ◌-◌, ◌*◌, ◌/◌, ◌%◌, ◌^◌, ◌<◌}
use native.Mathlib.Omega.{arith}
use lib.ListN.{length, get_or}
use Rattle.wide.specs.Limbs.{value, limit, Limbs, Writes}

abbrev pub six : ℕ → ℕ → ℕ → ℕ → ℕ → ℕ → List ℕ
six a b c d e f = a ∷ b ∷ c ∷ d ∷ e ∷ f ∷ []

pub six_limbs : {a b c d e f : ℕ} → a < 2 ^ 32 → b < 2 ^ 32 → c < 2 ^ 32 → d < 2 ^ 32 → e < 2 ^ 32 → f < 2 ^ 32 → Limbs (six a b c d e f)
six_limbs {a} {b} {c} {d} {e} {f} ha hb hc hd he hf = record { six = refl; small = each }
  where
    each : (i : ℕ) → get_or (six a b c d e f) i 0 < 2 ^ 32
    each zero = ha
    each (suc zero) = hb
    each (suc (suc zero)) = hc
    each (suc (suc (suc zero))) = hd
    each (suc (suc (suc (suc zero)))) = he
    each (suc (suc (suc (suc (suc zero))))) = hf
    each (suc (suc (suc (suc (suc (suc i)))))) = omega arith

pub listed : (w : List ℕ) → length w ≡ 6 → w ≡ six (get_or w 0 0) (get_or w 1 0) (get_or w 2 0) (get_or w 3 0) (get_or w 4 0) (get_or w 5 0)
listed [] h = absurd (omega arith)
listed (a ∷ []) h = absurd (omega arith)
listed (a ∷ b ∷ []) h = absurd (omega arith)
listed (a ∷ b ∷ c ∷ []) h = absurd (omega arith)
listed (a ∷ b ∷ c ∷ d ∷ []) h = absurd (omega arith)
listed (a ∷ b ∷ c ∷ d ∷ e ∷ []) h = absurd (omega arith)
listed (a ∷ b ∷ c ∷ d ∷ e ∷ f ∷ []) h = refl
listed (a ∷ b ∷ c ∷ d ∷ e ∷ f ∷ g ∷ rest) h = absurd (omega arith)

pub number_limbs : (n : ℕ) → n < 2 ^ 64 → Writes (six (n % 2 ^ 32) (n / 2 ^ 32) 0 0 0 0) n
unfolding value
number_limbs n h = record { limbs = six_limbs (omega arith) (omega arith) (omega arith) (omega arith) (omega arith) (omega arith); number = omega arith }

-- ---- limb by limb: `omega` takes no number as long as the limit, so t stands for the power of the base that the limbs so far reach

none_below : value [] < 1
unfolding value
none_below = omega arith

more_below : (a t : ℕ) (w : List ℕ) → a < 2 ^ 32 → value w < t → value (a ∷ w) < 2 ^ 32 * t
unfolding value
more_below a t w h k = omega arith

pub below : {w : List ℕ} → Limbs w → value w < limit
unfolding limit
below {w} h =
    let s = h.small in
    rw (listed w h.six)
    (more_below _ (2 ^ 160) _ (s 0) (more_below _ (2 ^ 128) _ (s 1) (more_below _ (2 ^ 96) _ (s 2)
    (more_below _ (2 ^ 64) _ (s 3) (more_below _ (2 ^ 32) _ (s 4) (more_below _ 1 [] (s 5) none_below))))))

-- r is what w is short of the largest number below t
record Short (t : ℕ) (w r : List ℕ) : Type 0 where
  pub whole : value r + value w + 1 ≡ t

none_short : Short 1 [] []
unfolding value
none_short = record { whole = refl }

more_short : {a : ℕ} (t : ℕ) {w r : List ℕ} → a < 2 ^ 32 → Short t w r → Short (2 ^ 32 * t) (a ∷ w) ((2 ^ 32 - 1 - a) ∷ r)
unfolding value
more_short t h k = record { whole = omega (arith, k.whole) }

abbrev short : List ℕ → ℕ → ℕ
short w i = 2 ^ 32 - 1 - get_or w i 0

pub complement_limbs : {w : List ℕ} → Limbs w →
    let r = six (short w 0) (short w 1) (short w 2) (short w 3) (short w 4) (short w 5) in
    Limbs r × (value r + value w + 1 ≡ limit)
unfolding limit
complement_limbs {w} h =
    let s = h.small in
    let all : Short limit w (six (short w 0) (short w 1) (short w 2) (short w 3) (short w 4) (short w 5)) =
    rw (listed w h.six)
    (more_short (2 ^ 160) (s 0) (more_short (2 ^ 128) (s 1) (more_short (2 ^ 96) (s 2) (more_short (2 ^ 64) (s 3) (more_short (2 ^ 32) (s 4) (more_short 1 (s 5) none_short)))))) in
    (six_limbs (omega arith) (omega arith) (omega arith) (omega arith) (omega arith) (omega arith), all.whole)
