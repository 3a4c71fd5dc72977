-- A row's kind, case by case: 02 has one set of results, 03 given survivals, 05 two sets, 07 one set and what a passenger ship's row tells besides. Assumes nothing.
use Prim.Native.Nat.{ℕ, ◌+◌, ◌*◌, ◌<◌}
use mathlib.Core.Path.{◌≡◌, refl, sym, ◌∙◌}
use mathlib.Core.Bool.{Bool, true, false, cond, ◌||◌, true≢false}
use mathlib.Core.Logic.{⊎_elim}
use native.Mathlib.Omega.{arith}
use lib.Dec.{eqb}
use borrow.Author.Tests.{eqb-true}
use Rattle.laws.proofs.Tests.{one_holds, holds}
use Rattle.records.specs.declared.Hull.{Hull}
use Rattle.casefile.specs.Record.{Row}
use Rattle.casefile.specs.Layout.{is_row, is_end, takes, frame_length, result_length, result_count, flooding_length, flooding_count}
use Rattle.casefile.specs.Valid.{ValidRow}
-- checked first, so that a definition that reads a worked file otherwise is refused there
use Rattle.casefile.proofs.PassengerExamples.{ferry_accepted}

pub data RowKind (kind : ℕ) : Type 0 where
  one_set : kind ≡ 2 → RowKind kind
  survivals : kind ≡ 3 → RowKind kind
  two_sets_lem : kind ≡ 5 → RowKind kind
  passenger : kind ≡ 7 → RowKind kind

-- of a cargo ship
of_cargo : (kind : ℕ) → (eqb kind 2 || eqb kind 3 || eqb kind 5) ≡ true → RowKind kind
of_cargo kind e =
    ⊎_elim (λ t. ⊎_elim (λ u. one_set (eqb-true kind 2 u)) (λ u. survivals (eqb-true kind 3 u)) (one_holds (eqb kind 2) (eqb kind 3) t)) (λ t. two_sets_lem (eqb-true kind 5 t))
    (one_holds (eqb kind 2 || eqb kind 3) (eqb kind 5) e)

pub of_row_kind : (kind : ℕ) → is_row kind ≡ true → RowKind kind
of_row_kind kind e = ⊎_elim (of_cargo kind) (λ t. passenger (eqb-true kind 7 t)) (one_holds (eqb kind 2 || eqb kind 3 || eqb kind 5) (eqb kind 7) e)

pub is_row_lem : {kind : ℕ} → RowKind kind → is_row kind ≡ true
is_row_lem (one_set k) = rw k refl
is_row_lem (survivals k) = rw k refl
is_row_lem (two_sets_lem k) = rw k refl
is_row_lem (passenger k) = rw k refl

pub small_kind : {kind : ℕ} → RowKind kind → kind < 256
small_kind (one_set k) = omega arith
small_kind (survivals k) = omega arith
small_kind (two_sets_lem k) = omega arith
small_kind (passenger k) = omega arith

pub end_no_row : (kind : ℕ) → is_end kind ≡ true → is_row kind ≡ false
end_no_row kind e = rw (eqb-true kind 15 e) refl

-- a row that a hull takes is a row, and what is no row it does not take
pub of_taken : (hull kind : ℕ) → takes hull kind ≡ true → RowKind kind
unfolding takes
of_taken hull kind = by (eqb hull 6)
  where
    by : (t : Bool) → cond t (eqb kind 7) (eqb kind 2 || eqb kind 3 || eqb kind 5) ≡ true → RowKind kind
    by true e = passenger (eqb-true kind 7 e)
    by false e = of_cargo kind e

pub not_taken : (hull kind : ℕ) → is_row kind ≡ false → takes hull kind ≡ false
not_taken hull kind e = by (takes hull kind) refl
  where
    by : (t : Bool) → takes hull kind ≡ t → t ≡ false
    by true k = absurd (true≢false (sym (is_row_lem (of_taken hull kind k)) ∙ e))
    by false k = refl

-- a passenger ship takes its own kind of row alone, a cargo ship none of that kind
pub passenger_takes : (kind : ℕ) → takes 6 kind ≡ true → kind ≡ 7
unfolding takes
passenger_takes kind e = eqb-true kind 7 e

pub cargo_takes : (kind : ℕ) → takes 1 kind ≡ true → kind ≡ 7 → ⊥
unfolding takes
cargo_takes kind e k = true≢false (sym e ∙ rw k refl)

-- a row's frame: kind, a, n, b and H, the results, and what a passenger ship's row tells besides
pub row_bytes_count : {kind : ℕ} → RowKind kind → frame_length kind ≡ 7 + result_count kind * result_length kind + flooding_count kind * flooding_length
unfolding frame_length
row_bytes_count (one_set k) = rw k refl
row_bytes_count (survivals k) = rw k refl
row_bytes_count (two_sets_lem k) = rw k refl
row_bytes_count (passenger k) = rw k refl

-- a valid row's kind
pub valid_kind : (h : Hull) (r : Row) → ValidRow h r → RowKind r.head.kind
valid_kind h r v = of_taken h.kind r.head.kind (holds (takes h.kind r.head.kind) v.taken)
