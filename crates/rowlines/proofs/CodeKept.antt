-- A kept row's records from the bytes of its place. Assumes nothing.
use Prim.Native.Nat.{ℕ, ◌+◌, ◌-◌, ◌*◌, ◌≤◌}
use mathlib.Core.Path.{◌≡◌, refl}
use mathlib.Core.Bool.{Bool, true, false, cond}
use mathlib.Core.List.{List}
use native.Mathlib.Omega.{arith}
use lib.Dec.{eqb}
use lib.ListN.{length, take, drop}
use lib.Seq.{drop-drop}
use Rattle.laws.proofs.Lists.{rest_of}
use Rattle.records.specs.declared.Finding.{Finding}
use Rattle.records.specs.declared.Flooding.{Flooding}
use Rattle.records.specs.declared.RowHead.{RowHead}
use Rattle.fields.specs.Fields.{byte_at}
use Rattle.casefile.specs.Layout.{kind_of, fields_of, result_length, head_of, set_of, floodings_of, results_of, row_of}
use Rattle.casefile.specs.Kept.{place_width, kept_row}

-- a set of results of any kind goes into a place, after the kind byte, a, n, b and H
pub longest_set : (kind : ℕ) → 7 + 3 * result_length kind ≤ place_width
longest_set kind = by (eqb kind 3)
  where
    by : (t : Bool) → 7 + 3 * cond t 2 8 ≤ place_width
    by true = omega arith
    by false = omega arith

-- the bytes of place i, from one place to the next
pub place_kept : (kept : List ℕ) (i : ℕ) {n : ℕ} → n ≡ place_width → take n (drop (place_width * i) kept) ≡ take place_width (drop (place_width * i) kept)
place_kept kept i e = rw e refl

-- the row at place i, whose bytes are the part from one place to the next
pub row_kept : (kept : List ℕ) (i : ℕ) {n : ℕ} → n ≡ place_width → row_of (take n (drop (place_width * i) kept)) ≡ kept_row kept i
unfolding kept_row
row_kept kept i e = rw e refl

module _ (place : List ℕ) where
  pub kind_is : (row_of place).head.kind ≡ byte_at place 0
  unfolding head_of
  kind_is = refl

  pub head_is : (kind : ℕ) {head : RowHead} → kind ≡ (row_of place).head.kind → head ≡ head_of kind (take (length place - 1) (drop 1 place)) → head ≡ (row_of place).head
  unfolding head_of
  head_is kind k h = rw (h, k, kind_is, rest_of place 1) refl

  -- what stands from byte 1 + a of the place to its end
  part_from : (a : ℕ) → take (length place - (1 + a)) (drop (1 + a) place) ≡ drop a (fields_of place)
  part_from a = rw (rest_of place (1 + a), drop-drop a 1 place) refl

  -- the sets of the results, in turn
  pub first_is : (kind : ℕ) (rs : List Finding) → kind ≡ (row_of place).head.kind → rs ≡ set_of kind (take (length place - 7) (drop 7 place)) → rs ≡ take 3 (row_of place).results.findings
  unfolding head_of results_of set_of
  first_is kind rs k h = rw (h, k, part_from 6) refl

  pub second_is : (rs : List Finding) → (row_of place).head.kind ≡ 5 → rs ≡ set_of 5 (take (length place - 31) (drop 31 place)) → rs ≡ drop 3 (row_of place).results.findings
  unfolding head_of results_of set_of
  second_is rs k h = rw (h, k, part_from 30) refl

  -- what a row of kind 07 tells besides
  pub floodings_is : (ws : List Flooding) → (row_of place).head.kind ≡ 7 → ws ≡ floodings_of (take (length place - 31) (drop 31 place)) → ws ≡ (row_of place).results.floodings
  unfolding head_of results_of
  floodings_is ws k h = rw (h, k, part_from 30) refl
