-- The whole printed answer: how long it is, and how its lines join, those of the rows first and the figures in front of them. Assumes nothing.
use Prim.Native.Nat.{ℕ}
use mathlib.Core.Path.{◌≡◌, refl, sym, ◌∙◌, ap}
use mathlib.Core.Bool.{Bool, true, false}
use mathlib.Core.List.{List, ◌++◌}
use native.Mathlib.Omega.{arith}
use lib.Dec.{eqb}
use lib.ListN.{length, length-append}
use borrow.Author.Tests.{eq-eqb, ne_eqb}
use Rattle.records.specs.declared.Answer.{Answer}
use Rattle.hexadecimal.specs.Hex.{line_of}
use Rattle.digits.specs.Splice.{splice}
use Rattle.digits.proofs.Splice.{splice_before}
use Rattle.printing.specs.Printed.{RowLine, refusal_frame, figures_frame, row_lines, printed, printed_length}
use Rattle.printing.proofs.Frames.{length_refusal_line, length_figures_line, length_rows}

module _ (a : Answer) (rs : List RowLine) where
  pub length_printed : length rs ≡ a.rows → length (printed a rs) ≡ printed_length a
  unfolding printed printed_length
  length_printed e = by (eqb a.number 0) refl
    where
      by : (t : Bool) → eqb a.number 0 ≡ t → length (printed a rs) ≡ printed_length a
      by true q = rw (q, length-append) (omega (arith, length_figures_line a, length_rows rs))
      by false q = rw q (omega (arith, length_refusal_line a.number a.line))

  -- a refusal, and an answer with figures
  pub printed_refusal : (a.number ≡ 0 → ⊥) → printed a rs ≡ line_of (refusal_frame a.number a.line)
  unfolding printed
  printed_refusal h = rw (ne_eqb a.number 0 h) refl

  pub printed_figures : a.number ≡ 0 → printed a rs ≡ line_of (figures_frame a) ++ row_lines rs
  unfolding printed
  printed_figures h = rw (eq-eqb a.number 0 h) refl

  -- the rows' lines, then the figures' in front
  pub rows_then_figures : a.number ≡ 0 → (xs : List ℕ) {ys zs : List ℕ} →
      ys ≡ splice 69 (row_lines rs) xs → zs ≡ splice 0 (line_of (figures_frame a)) ys → zs ≡ splice 0 (printed a rs) xs
  rows_then_figures h xs {ys} {zs} p q =
      splice_before 0 69 (line_of (figures_frame a)) (row_lines rs) xs ys zs (omega (arith, length_figures_line a)) p q
      ∙ ap (λ t. splice 0 t xs) (sym (printed_figures h))
