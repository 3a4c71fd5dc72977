-- A computed test over a whole table gives its rule at each entry. Assumes nothing.
use Prim.Native.Nat.{ℕ, zero, suc, ◌<◌}
use mathlib.Core.Path.{◌≡◌}
use mathlib.Core.Bool.{Bool, true, false, ◌&&◌}
use mathlib.Core.List.{List, [], ◌∷◌, Memᴰ}
use mathlib.Core.Logic.{⊎_elim}
use native.Mathlib.Nat.{le_of_suc-le-suc, not-suc-le-zero, eq-or-lt_of_le}
use native.Mathlib.Omega.{arith}
use lib.Dec.{T}
use lib.ListN.{length, get_or}

pub both_hold : (a b : Bool) → T (a && b) → T a × T b
both_hold true b t = (tt, t)
both_hold false b t = absurd t

-- the test passes at each entry
abbrev pub every : {A : Type 0} → (A → Bool) → List A → Bool
every p [] = true
every p (x ∷ xs) = p x && every p xs

pub every_entry : {A : Type 0} (p : A → Bool) (d : A) (xs : List A) → T (every p xs) → (i : ℕ) → i < length xs → T (p (get_or xs i d))
every_entry p d [] t i h = absurd (not-suc-le-zero h)
every_entry p d (x ∷ xs) t zero h = (both_hold (p x) (every p xs) t).0
every_entry p d (x ∷ xs) t (suc i) h = every_entry p d xs (both_hold (p x) (every p xs) t).1 i (le_of_suc-le-suc h)

-- and at each member
pub member_passes : {A : Type 0} (p : A → Bool) (k : A) (ns : List A) → T (every p ns) → Memᴰ k ns → T (p k)
member_passes p k [] t m = elim m [ ]
member_passes p k (n ∷ ns) t (Memᴰ.head e) = rw e (both_hold (p n) (every p ns) t).0
member_passes p k (n ∷ ns) t (Memᴰ.tail m) = member_passes p k ns (both_hold (p n) (every p ns) t).1 m

-- the test passes at each number below n
abbrev pub every_below : (ℕ → Bool) → ℕ → Bool
every_below p zero = true
every_below p (suc n) = every_below p n && p n

pub every_number : (p : ℕ → Bool) (n : ℕ) → T (every_below p n) → (i : ℕ) → i < n → T (p i)
every_number p zero t i h = absurd (not-suc-le-zero h)
every_number p (suc n) t i h =
    ⊎_elim
    (λ (e : suc i ≡ suc n). let f : i ≡ n = omega arith in rw f (both_hold (every_below p n) (p n) t).1)
    (λ (l : suc i < suc n). every_number p n (both_hold (every_below p n) (p n) t).0 i (le_of_suc-le-suc l))
    (eq-or-lt_of_le h)
