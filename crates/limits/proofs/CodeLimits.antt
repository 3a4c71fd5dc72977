-- Limits as the code tests them: ranges, places that rise, a sum that stops at the greatest number, and a test of each of three. Assumes nothing.
use Prim.Native.Nat.{ℕ, zero, suc, ◌+◌, ◌≤◌, ◌<◌, min}
use mathlib.Core.Path.{◌≡◌, refl}
use mathlib.Core.Bool.{Bool, true, false, cond, ◌&&◌, and-false, and-true, and_assoc}
use mathlib.Core.List.{List, [], ◌∷◌}
use native.Mathlib.Nat.{min-eq_left, min-eq_right, le_of_lt}
use native.Mathlib.Numerals.{add-one}
use native.Mathlib.Omega.{arith}
use lib.Dec.{leb, ltb, eqb}
use lib.ListN.{length, get_or, take}
use borrow.Author.Tests.{le-leb, lt-leb, lt-ltb, le-ltb, eq-eqb, ne_eqb}
use lib.IntN.{ℤ, pos, negsuc}
use Rattle.std.specs.Ordering.{is_le, nat_cmp, int_cmp}
use Rattle.std.specs.List.{IsAllAdjacentAnswer}
use Rattle.std.proofs.lemmas.List.{get_or-take, length-take-le}
use Rattle.std.proofs.Common.{Less, Equal, Greater}
use Rattle.laws.proofs.Choice.{split}
use Rattle.records.specs.declared.Finding.{Finding}
use Rattle.records.specs.declared.Flooding.{Flooding}
use Rattle.records.specs.declared.Hull.{Hull}
use Rattle.casefile.specs.Limits.{between, rising_to, zones_fit, opening_fits, finding_fits, findings_fit, flooding_fits, floodings_fit}

-- ---- ranges

le_told : (x y : ℕ) → is_le (nat_cmp x y) ≡ leb x y
le_told x y =
    split x y
    (λ h. split (suc x) y (λ l. rw (lt-ltb x y l, le-leb x y h) refl) (λ l. rw (le-ltb x y (omega arith), eq-eqb x y (omega arith), le-leb x y h) refl))
    (λ h. rw (le-ltb x y (omega arith), ne_eqb x y (λ e. omega arith), lt-leb x y h) refl)

-- what a range tells of a number
pub within : (low high x : ℕ) → (is_le (nat_cmp low x) && is_le (nat_cmp x high)) ≡ between low high x
unfolding between
within low high x = rw (le_told low x, le_told x high) refl

-- and of one with a sign
le_told_z : (x y : ℕ) → is_le (cond (ltb x y) Less (cond (ltb y x) Greater Equal)) ≡ leb x y
le_told_z x y =
    split x y
    (λ h. split (suc x) y (λ l. rw (lt-ltb x y l, le-leb x y h) refl) (λ l. rw (le-ltb x y (omega arith), le-ltb y x h, le-leb x y h) refl))
    (λ h. rw (le-ltb x y (omega arith), lt-ltb y x h, lt-leb x y h) refl)

pub opening_within : (o : ℤ) → (is_le (int_cmp (negsuc 29999) o) && is_le (int_cmp o (pos 30000))) ≡ opening_fits o
unfolding opening_fits
opening_within (pos n) = le_told_z n 30000
opening_within (negsuc n) = rw (le_told_z n 29999) refl

-- ---- the zones of a hull

rising_all : (places : List ℕ) (m : ℕ) → ((k : ℕ) → k < m → true ≡ ltb (get_or places k 0) (get_or places (suc k) 0)) → true ≡ rising_to places m
unfolding rising_to
rising_all places zero a = refl
rising_all places (suc m) a = rw (← rising_all places m (λ k h. a k (omega arith)), ← a m (omega arith)) refl

rising_not : (places : List ℕ) (m k : ℕ) → k < m → false ≡ ltb (get_or places k 0) (get_or places (suc k) 0) → false ≡ rising_to places m
unfolding rising_to
rising_not places zero k h e = absurd (omega arith)
rising_not places (suc m) k h e =
    split (suc k) m
    (λ l. rw (← rising_not places m k l e) refl)
    (λ l. let last : k ≡ m = omega arith in rw (← (rw last at e), and-false (rising_to places m)) refl)

-- of the first of them
pub rising_told : (places : List ℕ) (m : ℕ) (r : Bool) → m + 1 ≤ length places → IsAllAdjacentAnswer (λ x y b. b ≡ ltb x y) (take (m + 1) places) r → r ≡ rising_to places m
rising_told places m true h a =
    rising_all places m
    (λ k l. rw (get_or-take (m + 1) places k 0 (omega arith), get_or-take (m + 1) places (k + 1) 0 (omega arith), add-one k) at (a k 0 (omega (arith, length-take-le (m + 1) places h))))
rising_told places m false h (k, l, e) =
    let n : k < m = omega (arith, length-take-le (m + 1) places h) in
    rising_not places m k n
    (rw (get_or-take (m + 1) places k 0 (omega arith), get_or-take (m + 1) places (k + 1) 0 (omega arith), add-one k) at (e 0))

module _ (h : Hull) where
  pub zones_outside : between 1 20 h.zones ≡ false → false ≡ zones_fit h
  unfolding zones_fit
  zones_outside e = rw e refl

  pub zones_by_places : (rising : Bool) → between 1 20 h.zones ≡ true → rising ≡ rising_to h.places h.zones
      → (eqb (get_or h.places 0 0) 0 && eqb (get_or h.places h.zones 0) h.length && rising) ≡ zones_fit h
  unfolding zones_fit
  zones_by_places rising t e = rw (t, e) refl

-- ---- its persons, whose sum stops at the greatest number

pub persons_capped : (n : ℕ) → between 1351 6000 (min n 18446744073709551615) ≡ between 1351 6000 n
unfolding between
persons_capped n =
    split n 18446744073709551615
    (λ h. rw (min-eq_left h) refl)
    (λ h. rw (min-eq_right (le_of_lt h), lt-leb n 6000 (omega arith), and-false (leb 1351 n)) refl)

-- ---- each of a list

-- a test of each of a list, written along it
module _ {A : Type 0} (fits : A → Bool) (all_fit : List A → Bool) (none : all_fit [] ≡ true) (more : (x : A) (xs : List A) → all_fit (x ∷ xs) ≡ (fits x && all_fit xs)) where
  of_three : (xs : List A) (d : A) {bs : List Bool} → length xs ≡ 3 → bs ≡ fits (get_or xs 0 d) ∷ fits (get_or xs 1 d) ∷ fits (get_or xs 2 d) ∷ [] →
      (get_or bs 0 false && get_or bs 1 false && get_or bs 2 false) ≡ all_fit xs
  of_three [] d n e = absurd (omega arith)
  of_three (x ∷ []) d n e = absurd (omega arith)
  of_three (x ∷ y ∷ []) d n e = absurd (omega arith)
  of_three (x ∷ y ∷ z ∷ []) d n e = rw (e, more x (y ∷ z ∷ []), more y (z ∷ []), more z [], none, and-true (fits z)) (and_assoc (fits x) (fits y) (fits z))
  of_three (x ∷ y ∷ z ∷ w ∷ xs) d n e = absurd (omega arith)

-- results, and what a passenger ship's row tells besides; one of each, for the places that a list does not have
abbrev pub some_finding : Finding
some_finding = record { lever = 0; range = 0; heel = 0; opening = pos 0; given = 0 }

abbrev pub some_flooding : Flooding
some_flooding = record { displacement = 0; moment = 0; lever = 0; range = 0; heel = 0; roro = 0 }

pub findings_told : (rs : List Finding) {bs : List Bool} → length rs ≡ 3 →
    bs ≡ finding_fits (get_or rs 0 some_finding) ∷ finding_fits (get_or rs 1 some_finding) ∷ finding_fits (get_or rs 2 some_finding) ∷ [] →
    (get_or bs 0 false && get_or bs 1 false && get_or bs 2 false) ≡ findings_fit rs
unfolding findings_fit
findings_told rs = of_three finding_fits findings_fit refl (λ x xs. refl) rs some_finding

pub floodings_told : (ws : List Flooding) {bs : List Bool} → length ws ≡ 3 →
    bs ≡ flooding_fits (get_or ws 0 some_flooding) ∷ flooding_fits (get_or ws 1 some_flooding) ∷ flooding_fits (get_or ws 2 some_flooding) ∷ [] →
    (get_or bs 0 false && get_or bs 1 false && get_or bs 2 false) ≡ floodings_fit ws
unfolding floodings_fit
floodings_told ws = of_three flooding_fits floodings_fit refl (λ x xs. refl) ws some_flooding
