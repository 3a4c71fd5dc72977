-- The sheet of an accepted file tells each row's exact share, since its numbers are the rows' share ends in turn. Assumes nothing.
use Prim.Native.Nat.{ℕ, ◌*◌, ◌≤◌}
use mathlib.Core.Path.{◌≡◌, sym, ◌∙◌, ap}
use mathlib.Core.List.{List, [], ◌∷◌, ◌++◌}
use native.Mathlib.Omega.{arith}
use lib.ListN.{length, drop, length-append, length-drop}
use lib.Seq.{drop-append_seam}
use borrow.Author.Tests.{le-ltb}
use Rattle.records.specs.declared.Hull.{Hull}
use Rattle.spans.specs.Hull.{Hulled}
use Rattle.casefile.specs.Record.{Row}
use Rattle.casefile.proofs.Soundness.{sound}
use Rattle.rows.specs.declared.Standing.{Standing}
use Rattle.rows.specs.Standing.{nowhere, stands}
use Rattle.rows.specs.Work.{shares_from, numbers}
use Rattle.rows.proofs.OnSheet.{length_numbers}
use Rattle.rows.specs.Running.{Follow}
use Rattle.answers.specs.Answer.{shares, sheet_after}
use Rattle.answers.proofs.ValidCase.{hulled, rows_follow}
use Rattle.promises.specs.Rows.{exact_rows}
use Rattle.promises.specs.Sheet.{TellsRows, SheetTells}
use Rattle.promises.proofs.CaseRows.{sound_row, close_row}
-- checked first, so that a sentence that is not so is refused at a number
use Rattle.promises.proofs.WitnessSheet.{outer}

tells_rows : {h : Hull} (k : Hulled h) (y : Standing) (rs : List Row) (rest : List ℕ) → Follow h y rs → TellsRows (numbers (shares_from h y rs) ++ rest) (exact_rows h y rs)
unfolding shares_from exact_rows
tells_rows k y [] rest w = tt
tells_rows k y (r ∷ rs) rest w =
    let z = stands y r.head in
    let s = sound_row k z w.0 w.1 0 in
    (record { low = s.share.low; high = s.share.high; near = omega (arith, (close_row k z w.0 w.1 0).near) }, tells_rows k z rs rest w.2)

-- text in front of what is left of a list
module _ (text list : List ℕ) (n : ℕ) (long : length text ≡ n) (room : n ≤ length list) where
  rest_stays : drop n (text ++ drop n list) ≡ drop n list
  rest_stays = ap (λ k. drop k (text ++ drop n list)) (sym long) ∙ drop-append_seam text (drop n list)

  length_stays : length (text ++ drop n list) ≡ length list
  length_stays = omega (arith, length-append text (drop n list), length-drop n list, long)

pub sheet_tells : SheetTells
unfolding sheet_after shares
sheet_tells f sheet c e room =
    let v = (sound f c e).1 in
    let n = 2 * length c.rows in
    let text = numbers (shares_from c.hull nowhere c.rows) in
    let long = length_numbers c.hull nowhere c.rows in
    rw (e, le-ltb (length sheet) n room)
    (record {
      tells = tells_rows (hulled c.hull v.hull) nowhere c.rows (drop n sheet) (rows_follow c v);
      rest = rest_stays text sheet n long room;
      as_long = length_stays text sheet n long room;
    })
