-- `answer` meets its contract: a refusal of the file, of the sheet, or the case worked out. Assumes nothing.
use mathlib.Core.Path.{refl}
use native.Mathlib.Omega.{arith}
use Rattle.casefile.specs.Reading.{reading}
use Rattle.casefile.proofs.Told.{some_number}
use Rattle.index.proofs.Accepted.{refused_case, short_sheet, valid_case, few_rows, whole_case}
use Rattle.index.proofs.answer.Goals as goal

pub returns-in-Err : goal.returns-in-Err
returns-in-Err c = refused_case (reading c.args.input.now) c.args.sheet.now c.in-Err.ensures.judgement (some_number _) refl

pub returns-then-sheet-file : goal.returns-then-sheet-file
returns-then-sheet-file c = short_sheet c.args.input.now c.in-Ok.ensures.judgement refl c.args.sheet.now c.if-sheet-file.true refl

pub complete-requires : goal.complete-requires
complete-requires c =
    let e = c.in-Ok.ensures.judgement in
    (valid_case c.args.input.now e refl _ c.judge.ensures.rows, omega (arith, few_rows c.args.input.now e refl _ c.judge.ensures.rows), omega arith)

pub returns : goal.returns
returns c =
    whole_case c.args.input.now c.in-Ok.ensures.judgement refl _ c.judge.ensures.rows c.args.sheet.now (omega arith) c.complete.ensures.0 c.complete.ensures.1
