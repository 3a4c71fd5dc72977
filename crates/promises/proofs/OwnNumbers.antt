-- The numbers that a host gets, row by row: number k of row i is number k of that row's own twenty, and what each of these is. Assumes nothing.
use Prim.Native.Nat.{ℕ, zero, suc, ◌+◌, ◌*◌, ◌<◌}
use mathlib.Core.Path.{◌≡◌, refl, ◌∙◌, ap}
use mathlib.Core.List.{List, [], ◌∷◌, ◌++◌}
use native.Mathlib.Omega.{arith}
use lib.ListN.{length, get_or, get_or-append}
use lib.Seq.{get_or-append-add}
use Rattle.records.specs.declared.Ends.{Ends}
use Rattle.records.specs.declared.Hull.{Hull}
use Rattle.records.specs.declared.Survival.{Survival}
use Rattle.records.specs.Results.{Results}
use Rattle.solas.specs.Height.{row_v}
use Rattle.solas.specs.Index.{draughts}
use Rattle.heights.specs.Height.{row_vs}
use Rattle.survival.specs.Survival.{no_survival, survival_at, survivals_of}
use Rattle.indices.specs.Index.{adds_at}
use Rattle.printing.specs.Marks.{mark_byte}
use Rattle.casefile.specs.Record.{Row}
use Rattle.rows.specs.declared.Standing.{Standing}
use Rattle.rows.specs.Standing.{nowhere, stands, standings}
use Rattle.rows.specs.Work.{share_at, shares_from, numbers}
use Rattle.rows.proofs.Stands.{head_is}
use Rattle.listing.specs.Rows.{six_numbers, row_numbers, numbers_at, numbers_from}
use Rattle.listing.proofs.InNumbers.{length_at}
use Rattle.promises.specs.HostRows.{number_of}

-- ---- a row's twenty, draught by draught

module _ (share : Ends) (vs : List ℕ) (ss : List Survival) where
  pub record At (j : ℕ) : Type 0 where
    pub v : get_or (row_numbers share vs ss) (2 + 6 * j) 0 ≡ get_or vs j 0
    pub bottom : get_or (row_numbers share vs ss) (3 + 6 * j) 0 ≡ (get_or ss j no_survival).bottom
    pub top : get_or (row_numbers share vs ss) (4 + 6 * j) 0 ≡ (get_or ss j no_survival).top
    pub marks : get_or (row_numbers share vs ss) (5 + 6 * j) 0 ≡ mark_byte (get_or ss j no_survival).marks
    pub lower : get_or (row_numbers share vs ss) (6 + 6 * j) 0 ≡ (adds_at share vs ss j).lower
    pub upper : get_or (row_numbers share vs ss) (7 + 6 * j) 0 ≡ (adds_at share vs ss j).upper

  at_draught : (j : ℕ) → j < 3 → At j
  unfolding row_numbers six_numbers
  at_draught zero l = record { v = refl; bottom = refl; top = refl; marks = refl; lower = refl; upper = refl }
  at_draught (suc zero) l = record { v = refl; bottom = refl; top = refl; marks = refl; lower = refl; upper = refl }
  at_draught (suc (suc zero)) l = record { v = refl; bottom = refl; top = refl; marks = refl; lower = refl; upper = refl }
  at_draught (suc (suc (suc j))) l = absurd (omega arith)

pub v_at_lem : (H' H : ℕ) (ds : List ℕ) (j : ℕ) → j < 3 → get_or (row_vs H' H ds) j 0 ≡ row_v H' H (get_or ds j 0)
unfolding row_vs
v_at_lem H' H ds zero l = refl
v_at_lem H' H ds (suc zero) l = refl
v_at_lem H' H ds (suc (suc zero)) l = refl
v_at_lem H' H ds (suc (suc (suc j))) l = absurd (omega arith)

pub survival_at_lem : (kind : ℕ) (rs : Results) (j : ℕ) → j < 3 → get_or (survivals_of kind rs) j no_survival ≡ survival_at kind rs j
unfolding survivals_of
survival_at_lem kind rs zero l = refl
survival_at_lem kind rs (suc zero) l = refl
survival_at_lem kind rs (suc (suc zero)) l = refl
survival_at_lem kind rs (suc (suc (suc j))) l = absurd (omega arith)

-- a row that stands at z, with its results
module _ (h : Hull) (z : Standing) (rs : Results) where
  abbrev pub vs : List ℕ
  vs = row_vs z.below z.head.height (draughts h.deepest h.light)

  abbrev pub ss : List Survival
  ss = survivals_of z.head.kind rs

  pub there : (j : ℕ) → j < 3 → At (share_at h z) vs ss j
  there j b = at_draught (share_at h z) vs ss j b

-- ---- the rows in turn

-- in a row's twenty, and behind them
pub in_row : (h : Hull) (z : Standing) (rs : Results) (rest : List ℕ) (k : ℕ) → k < 20 → get_or (numbers_at h z rs ++ rest) k 0 ≡ get_or (numbers_at h z rs) k 0
in_row h z rs rest k b = get_or-append (numbers_at h z rs) rest 0 k (omega (arith, length_at h z rs))

pub behind : (h : Hull) (z : Standing) (rs : Results) (rest : List ℕ) (at : ℕ) → get_or (numbers_at h z rs ++ rest) (20 + at) 0 ≡ get_or rest at 0
behind h z rs rest at =
    let far : 20 + at ≡ length (numbers_at h z rs) + at = omega (arith, length_at h z rs) in
    ap (λ p. get_or (numbers_at h z rs ++ rest) p 0) far ∙ get_or-append-add (numbers_at h z rs) rest at 0

pub first_row_lem : (h : Hull) (z : Standing) (rs : Results) (rest : List ℕ) (k : ℕ) → k < 20 → number_of (numbers_at h z rs ++ rest) 0 k ≡ get_or (numbers_at h z rs) k 0
first_row_lem h z rs rest k b = let place : 20 * 0 + k ≡ k = omega arith in rw place (in_row h z rs rest k b)

pub later_row : (h : Hull) (z : Standing) (rs : Results) (rest : List ℕ) (i k : ℕ) → number_of (numbers_at h z rs ++ rest) (suc i) k ≡ number_of rest i k
later_row h z rs rest i k = let place : 20 * suc i + k ≡ 20 + (20 * i + k) = omega arith in rw place (behind h z rs rest (20 * i + k))

abbrev pub stood : Standing → List Row → ℕ → Standing
stood y rs i = get_or (standings y rs) i nowhere

pub own_number : (h : Hull) (y : Standing) (rs : List Row) (i k : ℕ) (r : Row) → i < length rs → get_or rs i r ≡ r → k < 20 →
    number_of (numbers_from h y rs) i k ≡ get_or (numbers_at h (stood y rs i) r.results) k 0
unfolding numbers_from standings
own_number h y [] i k r l e b = absurd (omega arith)
own_number h y (q ∷ rs) zero k r l e b = let z = stands y q.head in rw (← e) (first_row_lem h z q.results (numbers_from h z rs) k b)
own_number h y (q ∷ rs) (suc i) k r l e b =
    let z = stands y q.head in
    later_row h z q.results (numbers_from h z rs) i k ∙ own_number h z rs i k r (omega arith) e b

-- ---- where a row stands, and its share on the sheet

pub own_head : (y : Standing) (rs : List Row) (i : ℕ) (r : Row) → i < length rs → get_or rs i r ≡ r → (stood y rs i).head ≡ r.head
unfolding standings
own_head y [] i r l e = absurd (omega arith)
own_head y (q ∷ rs) zero r l e = rw (← e) (head_is y q.head)
own_head y (q ∷ rs) (suc i) r l e = own_head (stands y q.head) rs i r (omega arith) e

pub own_share : (h : Hull) (y : Standing) (rs : List Row) (i : ℕ) → i < length rs →
    (get_or (numbers (shares_from h y rs)) (2 * i) 0 ≡ (share_at h (stood y rs i)).lower) × (get_or (numbers (shares_from h y rs)) (2 * i + 1) 0 ≡ (share_at h (stood y rs i)).upper)
unfolding shares_from standings
own_share h y [] i l = absurd (omega arith)
own_share h y (q ∷ rs) zero l = (refl, refl)
own_share h y (q ∷ rs) (suc i) l =
    let two : 2 * suc i ≡ suc (suc (2 * i)) = omega arith in
    let three : suc (suc (2 * i)) + 1 ≡ suc (suc (2 * i + 1)) = omega arith in
    rw (two, three) (own_share h (stands y q.head) rs i (omega arith))
