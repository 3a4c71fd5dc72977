-- Lines that are written part by part: how long they are, and what the buffer holds once the last part is there. Assumes nothing.
use Prim.Native.Nat.{ℕ, ◌+◌, ◌*◌}
use mathlib.Core.Path.{◌≡◌, refl}
use mathlib.Core.List.{List, [], ◌∷◌, ◌++◌}
use native.Mathlib.Omega.{arith}
use lib.ListN.{length, length-append}
use Rattle.laws.specs.Bytes.{bytes}
use Rattle.laws.proofs.Bytes.{length_bytes}
use Rattle.records.specs.declared.Answer.{Answer}
use Rattle.hexadecimal.specs.Hex.{hex, line_of}
use Rattle.digits.specs.Splice.{splice}
use Rattle.digits.specs.Fields.{ends_field, partials_field}
use Rattle.digits.proofs.Text.{length_line, digits_then, feed_then}
use Rattle.digits.proofs.Fields.{length_ends, length_partials}
use Rattle.printing.specs.Marks.{marks_field}
use Rattle.printing.specs.Printed.{RowLine, refusal_frame, figures_frame, row_frame, row_lines}
-- checked first, so that a definition that prints otherwise is refused there
use Rattle.printing.proofs.Examples.{refusal_length}
use Rattle.printing.proofs.Marks.{length_marks}

-- ---- how long each is

length_refusal : (number line : ℕ) → length (refusal_frame number line) ≡ 4
unfolding refusal_frame
length_refusal number line = rw (length-append, length_bytes 1 number, length_bytes 2 line) refl

pub length_refusal_line : (number line : ℕ) → length (line_of (refusal_frame number line)) ≡ 9
length_refusal_line number line = omega (arith, length_line (refusal_frame number line), length_refusal number line)

length_figures : (a : Answer) → length (figures_frame a) ≡ 34
unfolding figures_frame
length_figures a = simp (length-append, length_bytes, length_ends, length_partials) refl

pub length_figures_line : (a : Answer) → length (line_of (figures_frame a)) ≡ 69
length_figures_line a = omega (arith, length_line (figures_frame a), length_figures a)

pub length_row : (r : RowLine) → length (row_frame r) ≡ 12
unfolding row_frame
length_row r = simp (length-append, length_ends, length_marks) refl

pub length_row_line : (r : RowLine) → length (line_of (row_frame r)) ≡ 25
length_row_line r = omega (arith, length_line (row_frame r), length_row r)

pub length_rows : (rs : List RowLine) → length (row_lines rs) ≡ 25 * length rs
unfolding row_lines
length_rows [] = refl
length_rows (r ∷ rs) = rw (length-append, length_row_line r) (omega (arith, length_rows rs))

-- ---- as they are written

module _ (number line : ℕ) (xs : List ℕ) {ys zs us vs : List ℕ} where
  pub refusal_written : ys ≡ splice 0 (hex (bytes 1 143)) xs →
      zs ≡ splice 2 (hex (bytes 1 number)) ys → us ≡ splice 4 (hex (bytes 2 line)) zs → vs ≡ splice 8 (10 ∷ []) us →
      vs ≡ splice 0 (line_of (refusal_frame number line)) xs
  unfolding refusal_frame
  refusal_written p q r s =
      let kind : bytes 1 143 ≡ 143 ∷ [] = unfold bytes in refl in
      let n : length (bytes 1 number) ≡ 1 = length_bytes 1 number in
      feed_then 0 8 (143 ∷ bytes 1 number ++ bytes 2 line) xs (omega (arith, length_refusal number line))
      (digits_then 0 4 (143 ∷ bytes 1 number) (bytes 2 line) xs (omega arith) (digits_then 0 2 (143 ∷ []) (bytes 1 number) xs (omega arith) (rw kind at p) q) r)
      s

module _ (a : Answer) (xs : List ℕ) {ys zs us vs ws : List ℕ} where
  pub figures_written : ys ≡ splice 0 (hex (bytes 1 129)) xs → zs ≡ splice 2 (hex (bytes 1 a.verdict)) ys →
      us ≡ splice 4 (hex (ends_field a.attained.lower a.attained.upper)) zs →
      vs ≡ splice 20 (hex (partials_field a.partials)) us → ws ≡ splice 68 (10 ∷ []) vs → ws ≡ splice 0 (line_of (figures_frame a)) xs
  unfolding figures_frame
  figures_written p q r s t =
      let kind : bytes 1 129 ≡ 129 ∷ [] = unfold bytes in refl in
      let n : length (bytes 1 a.verdict) ≡ 1 = length_bytes 1 a.verdict in
      let m : length (ends_field a.attained.lower a.attained.upper) ≡ 8 = length_ends a.attained.lower a.attained.upper in
      let front : List ℕ = 129 ∷ bytes 1 a.verdict ++ ends_field a.attained.lower a.attained.upper in
      feed_then 0 68 (front ++ partials_field a.partials) xs (omega (arith, length_figures a))
      (digits_then 0 20 front (partials_field a.partials) xs (simp length-append (omega arith))
      (digits_then 0 4 (129 ∷ bytes 1 a.verdict) (ends_field a.attained.lower a.attained.upper) xs (omega arith)
      (digits_then 0 2 (129 ∷ []) (bytes 1 a.verdict) xs (omega arith) (rw kind at p) q)
      r)
      s)
      t

module _ (r : RowLine) (at : ℕ) (xs : List ℕ) {ys zs us vs : List ℕ} where
  pub row_written : ys ≡ splice at (hex (bytes 1 130)) xs → zs ≡ splice (at + 2) (hex (ends_field r.share.lower r.share.upper)) ys →
      us ≡ splice (at + 18) (hex (marks_field r.survivals)) zs → vs ≡ splice (at + 24) (10 ∷ []) us → vs ≡ splice at (line_of (row_frame r)) xs
  unfolding row_frame
  row_written p q s t =
      let kind : bytes 1 130 ≡ 130 ∷ [] = unfold bytes in refl in
      let ends : List ℕ = ends_field r.share.lower r.share.upper in
      let n : length ends ≡ 8 = length_ends r.share.lower r.share.upper in
      feed_then at (at + 24) (130 ∷ ends ++ marks_field r.survivals) xs (omega (arith, length_row r))
      (digits_then at (at + 18) (130 ∷ ends) (marks_field r.survivals) xs (omega arith)
      (digits_then at (at + 2) (130 ∷ []) ends xs (omega arith) (rw kind at p) q)
      s)
      t
