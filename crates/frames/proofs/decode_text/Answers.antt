-- `decode_text` meets its contract: the pairs that go into the buffer, and the digits beyond them. Assumes nothing.
use mathlib.Core.Path.{◌∙◌, ap}
use mathlib.Core.Bool.{not}
use Prim.Native.Nat.{◌*◌}
use Rattle.lines.proofs.Lines.{all_left}
use Rattle.hexadecimal.specs.Hex.{digits_only}
use Rattle.hexadecimal.proofs.Decode.{all_that_go_in}
use Rattle.frames.proofs.CodeDecoding.{told_badly, told_bytes}
use Rattle.frames.proofs.decode_text.Goals as goal

pub returns-then-front-rest : goal.returns-then-front-rest
returns-then-front-rest c =
    let p = c.decode_pairs-front.ensures in
    let a = c.args in
    let m = c.min-m in
    record { result = told_badly a.text.now (m.result * 2) p.result (c.has_other-rest.ensures ∙ ap (λ s. not (digits_only s)) (all_left (m.result * 2) a.text.now)) c.if-front-rest.true; buffer = p.buffer ∙ all_that_go_in a.text.now a.out.now m.result m.ensures }

pub returns : goal.returns
returns c =
    let p = c.decode_pairs-front.ensures in
    let a = c.args in
    let m = c.min-m in
    record { result = told_bytes a.text.now (m.result * 2) p.result (c.has_other-rest.ensures ∙ ap (λ s. not (digits_only s)) (all_left (m.result * 2) a.text.now)) c.if-front-rest.false; buffer = p.buffer ∙ all_that_go_in a.text.now a.out.now m.result m.ensures }
