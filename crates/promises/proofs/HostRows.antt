-- What a host gets of an accepted file's rows: each one's numbers. Assumes nothing.
use Prim.Native.Nat.{ℕ, ◌+◌, ◌*◌, ◌<◌}
use mathlib.Core.Path.{◌≡◌, refl, sym, ◌∙◌, ap}
use mathlib.Core.List.{List}
use native.Mathlib.Omega.{arith}
use lib.Dec.{lit<}
use lib.ListN.{length, get_or}
use Rattle.records.specs.declared.RowHead.{RowHead}
use Rattle.records.specs.declared.Survival.{Survival}
use Rattle.solas.specs.Height.{row_v}
use Rattle.solas.specs.Index.{draughts}
use Rattle.survival.specs.Survival.{survival_at}
use Rattle.printing.specs.Marks.{mark_byte}
use Rattle.casefile.specs.Record.{Row, Case}
use Rattle.rows.specs.declared.Standing.{Standing}
use Rattle.rows.specs.Standing.{nowhere}
use Rattle.listing.specs.Rows.{row_numbers, numbers_at, numbers_from}
use Rattle.listing.proofs.InNumbers.{length_from}
use Rattle.answers.specs.Answer.{shares}
use Rattle.answers.specs.Report.{rows_in}
use Rattle.promises.specs.HostRows.{number_of, RowTold, RowsTell}
use Rattle.promises.proofs.OwnNumbers.{there, v_at_lem, survival_at_lem, stood, own_number, own_head, own_share}
-- checked first, so that a sentence that is not so is refused at a number
use Rattle.promises.proofs.WitnessHostRows.{told_so}

module _ (c : Case) (i : ℕ) (r : Row) (l : i < length c.rows) (e : get_or c.rows i r ≡ r) where
  abbrev told : List ℕ
  told = numbers_from c.hull nowhere c.rows

  abbrev place : Standing
  place = stood nowhere c.rows i

  own : (k : ℕ) → k < 20 → number_of told i k ≡ get_or (numbers_at c.hull place r.results) k 0
  own k b = own_number c.hull nowhere c.rows i k r l e b

  head : place.head ≡ r.head
  head = own_head nowhere c.rows i r l e

  row_told : RowTold c told i r
  unfolding numbers_at row_numbers shares
  row_told =
      let share = own_share c.hull nowhere c.rows i l in
      record {
        lower = own 0 (lit< tt) ∙ sym share.0;
        upper = own 1 (lit< tt) ∙ sym share.1;
        draught =
            λ j b.
            let a = there c.hull place r.results j b in
            let s = survival_at_lem place.head.kind r.results j b in
            let at : RowHead → Survival = λ k. survival_at k.kind r.results j in
            let seven : 1 + (6 + 6 * j) ≡ 7 + 6 * j = omega arith in
            record {
              v = own (2 + 6 * j) (omega arith) ∙ a.v ∙ v_at_lem _ _ _ j b ∙ ap (λ (k : RowHead). row_v place.below k.height (get_or (draughts c.hull.deepest c.hull.light) j 0)) head;
              bottom = own (3 + 6 * j) (omega arith) ∙ a.bottom ∙ ap (λ (x : Survival). x.bottom) (s ∙ ap at head);
              top = own (4 + 6 * j) (omega arith) ∙ a.top ∙ ap (λ (x : Survival). x.top) (s ∙ ap at head);
              marks = own (5 + 6 * j) (omega arith) ∙ a.marks ∙ ap (λ (x : Survival). mark_byte x.marks) (s ∙ ap at head);
              adds =
                  rw (
                    seven,
                    own 0 (lit< tt),
                    own 1 (lit< tt),
                    own (2 + 6 * j) (omega arith) ∙ a.v,
                    own (3 + 6 * j) (omega arith) ∙ a.bottom,
                    own (4 + 6 * j) (omega arith) ∙ a.top,
                    own (6 + 6 * j) (omega arith) ∙ a.lower,
                    own (7 + 6 * j) (omega arith) ∙ a.upper,
                  ) refl;
            };
      }

pub rows_tell : RowsTell
unfolding rows_in
rows_tell f c e = rw e (length_from c.hull nowhere c.rows, λ i r l m. row_told c i r l m)
