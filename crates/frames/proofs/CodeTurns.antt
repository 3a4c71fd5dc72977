-- Several pairs of digits in one turn, by the marks of their bytes: whether one is no digit, and a byte more that is stored. Assumes nothing.
use Prim.Native.Nat.{ℕ, zero, suc, ◌+◌, ◌*◌, ◌%◌, ◌≤◌, ◌<◌}
use mathlib.Core.Path.{◌≡◌, refl, sym, ◌∙◌, ap}
use mathlib.Core.Bool.{Bool, false, not, ◌||◌}
use mathlib.Core.List.{List}
use native.Mathlib.Numerals.{add-one}
use native.Mathlib.Omega.{arith}
use lib.Dec.{eqb}
use lib.ListN.{length, get_or, take, drop, set, length-drop}
use lib.Seq.{sets, get_or-drop}
use Rattle.laws.specs.Lists.{tabulate}
use Rattle.laws.proofs.Lists.{get_d_tabulate}
use Rattle.hexadecimal.specs.Hex.{mark_of, digit_of, bytes_of, digits_only}
use Rattle.hexadecimal.proofs.Decode.{length_bytes_of}
use Rattle.frames.specs.Decoding.{mark_at, other_below}
use Rattle.frames.proofs.CodeDecoding.{other_taken, pair_byte, one_stored}

pub other_none : (marks : List ℕ) → false ≡ other_below marks 0
unfolding other_below
other_none marks = refl

pub other_more : (marks : List ℕ) (k : ℕ) {bad : Bool} → bad ≡ other_below marks k → (bad || eqb (get_or marks k 0) 16) ≡ other_below marks (k + 1)
unfolding other_below
other_more marks k e = rw (e, add-one k) refl

-- n marks from a place on
module _ (s : List ℕ) (at n : ℕ) (h : at + n ≤ length s) where
  abbrev marks : List ℕ
  marks = tabulate (λ k. mark_at s (at + k)) n

  other_there : (k : ℕ) → k ≤ n → not (digits_only (take k (drop at s))) ≡ other_below marks k
  unfolding other_below digits_only
  other_there zero l = refl
  other_there (suc k) l =
      let mark : get_or marks k 0 ≡ mark_of (digit_of (get_or (drop at s) k 0)) = get_d_tabulate (λ k. mark_at s (at + k)) n k 0 (omega arith) ∙ ap (λ b. mark_of (digit_of b)) (sym (get_or-drop at s k 0)) in
      rw (← other_there k (omega arith)) (sym (other_taken (drop at s) k (get_or marks k 0) (omega (arith, length-drop at s)) mark))

  pub other_told : {v : List ℕ} {t : Bool} → v ≡ marks → t ≡ other_below v n → t ≡ not (digits_only (take n (drop at s)))
  other_told e f = f ∙ ap (λ v. other_below v n) e ∙ sym (other_there n (omega arith))

-- pair k of those from pair i on, by its marks
module _ (text was : List ℕ) (i n : ℕ) (h : i * 2 + n ≤ length text) {v : List ℕ} (e : v ≡ tabulate (λ k. mark_at text (i * 2 + k)) n) where
  mark_there : (k : ℕ) → k < n → get_or v k 0 ≡ mark_at text (i * 2 + k)
  mark_there k l = rw e (get_d_tabulate (λ k. mark_at text (i * 2 + k)) n k 0 l)

  pub byte_more : {out : List ℕ} (k : ℕ) → 2 * k + 2 ≤ n → out ≡ sets was i (take k (drop i (bytes_of text))) →
      set out (i + k) (get_or v (2 * k) 0 % 16 * 16 + get_or v (2 * k + 1) 0 % 16) ≡ sets was i (take (k + 1) (drop i (bytes_of text)))
  byte_more k l p =
      let high : i * 2 + 2 * k ≡ (i + k) * 2 = omega arith in
      let low : i * 2 + (2 * k + 1) ≡ (i + k) * 2 + 1 = omega arith in
      let byte = pair_byte text (i + k) (get_or v (2 * k) 0) (get_or v (2 * k + 1) 0) (omega arith) (rw high at (mark_there (2 * k) (omega arith))) (rw low at (mark_there (2 * k + 1) (omega arith))) in
      rw (byte, ← get_or-drop i (bytes_of text) k 0) (one_stored (drop i (bytes_of text)) was i k (omega (arith, length-drop i (bytes_of text), length_bytes_of text)) p)
