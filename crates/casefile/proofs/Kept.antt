-- The rows that are kept: how many, by the bytes before a place alone, and one more from its line. Assumes nothing.
use Prim.Native.Nat.{ℕ, zero, suc, ◌+◌, ◌*◌, ◌≤◌}
use mathlib.Core.Path.{◌≡◌, refl, sym, ◌∙◌, ap}
use mathlib.Core.Bool.{Bool, true, false, cond}
use mathlib.Core.List.{List, [], ◌∷◌, ◌++◌}
use native.Mathlib.Nat.{zero-add, add-zero}
use native.Mathlib.Omega.{arith}
use lib.Dec.{eqb}
use lib.ListN.{length, get_or, take, drop}
use lib.Seq.{sets, sets-eq}
use Rattle.laws.specs.Lists.{tabulate}
use Rattle.laws.proofs.Lists.{part_of_part, tabulate_places, length_part}
use Rattle.lines.specs.Lines.{Line}
use Rattle.fields.specs.Fields.{word_at, long_at}
use Rattle.hexadecimal.specs.Hex.{pairs, bytes_of, proper}
use Rattle.hexadecimal.proofs.Pairs.{proper_parts}
use Rattle.hexadecimal.proofs.Decode.{bytes_pairs}
use Rattle.records.specs.declared.Hull.{Hull}
use Rattle.casefile.specs.declared.Progress.{Progress}
use Rattle.casefile.specs.Layout.{kind_of, is_row, frame_length, head_of, finding_of, set_of, flooding_of, floodings_of, results_of, row_of}
use Rattle.casefile.specs.Kept.{place_width, kept_row, kept_rows}
use Rattle.casefile.proofs.Checks.{LinePasses}
use Rattle.casefile.proofs.RowKinds.{RowKind, one_set, survivals, two_sets_lem, passenger, of_row_kind}
use Rattle.casefile.proofs.Passing.{well_written, fits}

pub length_kept : (k : ℕ) (kept : List ℕ) (i : ℕ) → length (kept_rows k kept i) ≡ k
unfolding kept_rows
length_kept zero kept i = refl
length_kept (suc k) kept i = ap suc (length_kept k kept (i + 1))

-- ---- two buffers with the same first n bytes keep the same rows there

module _ (kept was : List ℕ) (n : ℕ) (same : take n kept ≡ take n was) where
  same_row : (i : ℕ) → place_width * i + place_width ≤ n → kept_row kept i ≡ kept_row was i
  unfolding kept_row
  same_row i l = ap row_of (sym (front kept) ∙ ap (λ s. take place_width (drop (place_width * i) s)) same ∙ front was)
    where
      front : (s : List ℕ) → take place_width (drop (place_width * i) (take n s)) ≡ take place_width (drop (place_width * i) s)
      front s = part_of_part (place_width * i) place_width 0 n s l ∙ rw (zero-add (place_width * i)) refl

  pub same_rows : (k i : ℕ) → place_width * (i + k) ≤ n → kept_rows k kept i ≡ kept_rows k was i
  unfolding kept_rows
  same_rows zero i l = refl
  same_rows (suc k) i l = rw (same_row i (omega arith), same_rows k (i + 1) (omega arith)) refl

-- ---- one row more

pub kept_next : (k : ℕ) (kept : List ℕ) (i : ℕ) → kept_rows (suc k) kept i ≡ kept_rows k kept i ++ (kept_row kept (i + k) ∷ [])
unfolding kept_rows
kept_next zero kept i = rw (add-zero i) refl
kept_next (suc k) kept i =
    let e : i + 1 + k ≡ i + suc k = omega arith in
    rw (kept_next k kept (i + 1), e) refl

-- ---- a row's frame at the front of its place: what stands after it does not count

module _ (x : ℕ → ℕ) (rest : List ℕ) where
  found_in_front : x 0 ≡ 2 → row_of (tabulate x 31 ++ rest) ≡ row_of (tabulate x 31)
  unfolding tabulate head_of set_of results_of finding_of word_at
  found_in_front e = rw e refl

  given_in_front : x 0 ≡ 3 → row_of (tabulate x 13 ++ rest) ≡ row_of (tabulate x 13)
  unfolding tabulate head_of set_of results_of finding_of word_at
  given_in_front e = rw e refl

  second_in_front : x 0 ≡ 5 → row_of (tabulate x 55 ++ rest) ≡ row_of (tabulate x 55)
  unfolding tabulate head_of set_of results_of finding_of word_at
  second_in_front e = rw e refl

  passenger_in_front : x 0 ≡ 7 → row_of (tabulate x 76 ++ rest) ≡ row_of (tabulate x 76)
  unfolding tabulate head_of set_of floodings_of results_of finding_of flooding_of long_at word_at
  passenger_in_front e = rw e refl

row_in_front : (bs rest : List ℕ) → is_row (kind_of bs) ≡ true → length bs ≡ frame_length (kind_of bs) → row_of (bs ++ rest) ≡ row_of bs
unfolding frame_length
row_in_front bs rest k n = by (of_row_kind (kind_of bs) k)
  where
    as_table : (m : ℕ) → length bs ≡ m → tabulate (λ i. get_or bs i 0) m ≡ bs
    as_table m e = rw (← e) (tabulate_places 0 bs)

    by : RowKind (kind_of bs) → row_of (bs ++ rest) ≡ row_of bs
    by (one_set e) = rw (as_table 31 (rw e at n)) at (found_in_front (λ i. get_or bs i 0) rest e)
    by (survivals e) = rw (as_table 13 (rw e at n)) at (given_in_front (λ i. get_or bs i 0) rest e)
    by (two_sets_lem e) = rw (as_table 55 (rw e at n)) at (second_in_front (λ i. get_or bs i 0) rest e)
    by (passenger e) = rw (as_table 76 (rw e at n)) at (passenger_in_front (λ i. get_or bs i 0) rest e)

pub longest_frame : (k : ℕ) → frame_length k ≤ place_width
unfolding frame_length
longest_frame k = by (eqb k 2) (eqb k 3) (eqb k 5) (eqb k 7)
  where
    by : (t u v w : Bool) → cond t 31 (cond u 13 (cond v 55 (cond w 76 3))) ≤ place_width
    by true u v w = omega arith
    by false true v w = omega arith
    by false false true w = omega arith
    by false false false true = omega arith
    by false false false false = omega arith

-- ---- a line's bytes written to place i of a buffer that was

pub record Placed (kept was : List ℕ) (i : ℕ) (text : List ℕ) : Type 0 where
  pub long : length kept ≡ length was
  pub before : take (place_width * i) kept ≡ take (place_width * i) was
  pub here : take place_width (drop (place_width * i) kept) ≡ sets (take place_width (drop (place_width * i) was)) 0 (bytes_of text)

pub row_placed : (kept was : List ℕ) (i : ℕ) (h : Hull) (p : Progress) (l : Line) → Placed kept was i l.text → place_width * i + place_width ≤ length was → LinePasses h p l → is_row (kind_of (pairs l.text)) ≡ true →
    kept_row kept i ≡ row_of (pairs l.text)
unfolding kept_row
row_placed kept was i h p l w room q k =
    let place : List ℕ = take place_width (drop (place_width * i) was) in
    let bs : List ℕ = pairs l.text in
    let good : proper l.text ≡ true = (well_written l q.written).0 in
    let n : length bs ≡ frame_length (kind_of bs) = (fits l q.written h.kind q.frame).1 in
    let wide : length place ≡ place_width = length_part (place_width * i) place_width was room in
    let e : take place_width (drop (place_width * i) kept) ≡ bs ++ drop (0 + length bs) place = w.here ∙ ap (sets place 0) (bytes_pairs l.text (proper_parts l.text good).2) ∙ sets-eq bs place 0 (omega (arith, wide, n, longest_frame (kind_of bs))) in
    ap row_of e ∙ row_in_front bs (drop (0 + length bs) place) k n
