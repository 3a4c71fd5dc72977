-- What demands 1 and 2 say of document 01's file and a sheet of five numbers, which is one too short for its three rows. Assumes nothing.
use Prim.Native.Nat.{ℕ}
use mathlib.Core.Path.{◌≡◌, refl, sym, ◌∙◌, ap}
use native.Mathlib.Omega.{arith}
use lib.Dec.{lit<}
use lib.ListN.{length}
use Rattle.casefile.specs.Record.{Case}
use Rattle.casefile.specs.Reading.{Reading, refused, accepted, reading}
use Rattle.answers.specs.Answer.{answered}
use Rattle.promises.specs.Service.{FileOf, AcceptedExactly, RefusedFor, no_room}
use Rattle.promises.specs.OneFile.{file, printed_case}
use Rattle.promises.proofs.WitnessNumbers.{Said}
use Rattle.promises.proofs.Files.{is_file, file_is}
use Rattle.promises.proofs.OneFile.{file_read}

-- 11 and line 0
pub no_line : RefusedFor file 5 11 0
no_line = no_room printed_case (is_file file printed_case file_read) (lit< tt) refl refl

-- and so not 0; and no case that has this file has room on the sheet
abbrev rows_in : Reading → ℕ
rows_in (refused k l) = 0
rows_in (accepted c) = length c.rows

three_rows : (c : Case) → FileOf file c → length c.rows ≡ 3
three_rows c k = sym (ap rows_in (file_is file c k)) ∙ ap rows_in file_read

number : (answered (reading file) 5).number ≡ 11
unfolding answered
number = ap (λ r. (answered r 5).number) file_read

pub too_short : (said : AcceptedExactly) → Said (said file 5)
too_short said = (λ e. absurd (omega (arith, e, number)), λ (c, k, room). absurd (omega (arith, room, three_rows c k)))
