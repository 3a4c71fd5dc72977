-- What a report tells of an accepted file: the shares of the sheet, and the marks of each row's results. Assumes nothing.
use Prim.Native.Nat.{ℕ, ◌*◌}
use mathlib.Core.Path.{◌≡◌, refl, ◌∙◌, ap}
use mathlib.Core.Bool.{Bool, true, false}
use lib.IntN.{ℤ, pos, negsuc}
use mathlib.Core.List.{List, [], ◌∷◌}
use native.Mathlib.Omega.{arith}
use lib.Dec.{ltb}
use lib.ListN.{length}
use Rattle.laws.specs.Fraction.{◌less◌over◌, ◌≼?◌, ◌⊛◌}
use borrow.Author.Tests.{le-ltb}
use Rattle.records.specs.declared.Finding.{Finding}
use Rattle.records.specs.declared.Marks.{Marks}
use Rattle.records.specs.declared.Hull.{Hull}
use Rattle.records.specs.declared.RowHead.{RowHead}
use Rattle.records.specs.Results.{found as alone}
use Rattle.survival.specs.Marks.{found_marks, marks_of}
use Rattle.solas.specs.Survival.{k, s⁴, unless_immersed}
use Rattle.survival.specs.Survival.{worse_of, counts_at, survival_of, survival_at, survivals_of}
use Rattle.printing.specs.Marks.{marks_at}
use Rattle.printing.specs.ReadBack.{marks_of_lines, told_by}
use Rattle.casefile.specs.Record.{Row}
use Rattle.casefile.proofs.Soundness.{sound}
use Rattle.rows.specs.declared.Standing.{Standing}
use Rattle.rows.specs.Standing.{nowhere, stands}
use Rattle.rows.specs.Work.{lines_from}
use Rattle.rows.proofs.Stands.{head_is}
use Rattle.answers.specs.Answer.{figures, answer, shares, answered}
use Rattle.answers.specs.Report.{lines_in}
use Rattle.promises.specs.Printing.{result_marks, marks_of_rows, ReportTellsMarks}
use Rattle.promises.proofs.Fits.{same_shares, printed_reads_back}

-- rows whose results have the marks of lever, range and heel in turn, and at one draught that of the opening; and one of two sets, the second of which is
-- worse at the deepest and at the partial draught, and at the light one neither
abbrev found : ℕ → ℕ → ℕ → ℤ → Finding
found lever range heel opening = record { lever = lever; range = range; heel = heel; opening = opening; given = 0 }

abbrev turned : Row
turned = record { head = record { kind = 2; first = 1; count = 1; depth = 1; height = 1 }; results = alone (found 119 1600 0 (pos 0) ∷ found 120 1599 0 (pos 0) ∷ found 120 1600 2501 (pos 0) ∷ []) }

abbrev immersed : Row
immersed = record { head = record { kind = 2; first = 1; count = 1; depth = 1; height = 2 }; results = alone (found 120 1600 0 (pos 0) ∷ found 120 1600 0 (negsuc 0) ∷ found 120 1600 0 (pos 1) ∷ []) }

abbrev marks : Bool → Bool → Bool → Bool → Marks
marks lever range heel opening = record { lever = lever; range = range; heel = heel; opening = opening }

abbrev two_sets : Row
two_sets =
    record {
      head = record { kind = 5; first = 1; count = 1; depth = 1; height = 3 };
      results = alone (found 120 1587 0 (pos 0) ∷ found 119 1600 0 (pos 0) ∷ found 60 1600 0 (pos 0) ∷ found 119 1600 0 (pos 0) ∷ found 120 1600 2501 (negsuc 0) ∷ found 120 800 0 (pos 0) ∷ []);
    }

in_turn : marks_of_rows (turned ∷ immersed ∷ two_sets ∷ [])
    ≡ marks true false false false ∷ marks false true false false ∷ marks false false true false
    ∷ marks false false false false ∷ marks false false false true ∷ marks false false false false
    ∷ marks true false false false ∷ marks false false true true ∷ marks true false false false ∷ []
unfolding marks_of_rows survival_at survival_of marks_of found_marks worse_of counts_at unless_immersed s⁴ k ◌≼?◌ ◌⊛◌ ◌less◌over◌
in_turn = refl

same_marks : (h : Hull) (y : Standing) (rs : List Row) → marks_of_lines (lines_from h y rs) ≡ marks_of_rows rs
unfolding lines_from marks_of_lines marks_of_rows marks_at survivals_of
same_marks h y [] = refl
same_marks h y (r ∷ rs) =
    let z = stands y r.head in
    let at : RowHead → ℕ → Marks = λ head j. (survival_at head.kind r.results j).marks in
    ap (λ (head : RowHead). at head 0 ∷ at head 1 ∷ at head 2 ∷ marks_of_lines (lines_from h z rs)) (head_is y r.head)
    ∙ ap (λ ms. result_marks r 0 ∷ result_marks r 1 ∷ result_marks r 2 ∷ ms) (same_marks h z rs)

pub report_tells_marks : ReportTellsMarks
unfolding answered lines_in told_by answer figures shares
report_tells_marks f c e =
    let few = (sound f c e).1.few in
    let room : ltb 1000 (2 * length c.rows) ≡ false = le-ltb 1000 (2 * length c.rows) (omega (arith, few)) in
    printed_reads_back f ∙ rw (e, room, same_shares c.hull nowhere c.rows, same_marks c.hull nowhere c.rows) refl
