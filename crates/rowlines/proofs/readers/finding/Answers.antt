-- `finding` meets its contract. Assumes nothing.
use mathlib.Core.Path.{◌≡◌, refl}
use mir.Syntax.{w64}
use mir.Val.{to_z, of_z}
use mir.ValLaws.{to_z-of_z}
use borrow.Author.Tests.{ne_eqb}
use Rattle.casefile.specs.Layout.{finding_of}
use native.Mathlib.Omega.{arith}
use Rattle.rowlines.proofs.readers.finding.Goals as goal

pub returns-in-3 : goal.returns-in-3
unfolding finding_of
returns-in-3 c = let d = c.default.ensures in rw (c.in-3.is, d.0, d.1.0, d.1.1.0, d.1.1.1.0, c.word_in.ensures.value) refl

pub returns-in_default : goal.returns-in_default
unfolding finding_of
returns-in_default c =
    let o = c.signed_in.result in
    let back : to_z w64 (of_z w64 o) ≡ o = to_z-of_z w64 o (record { sfits = c.signed_in.type_inv }) in
    let another : c.args.kind ≡ 3 → ⊥ = λ e. omega arith in
    rw (
      ne_eqb _ _ another,
      back,
      c.signed_in.ensures,
      c.word_in-in_default-3.ensures.value,
      c.word_in-in_default-2.ensures.value,
      c.word_in-in_default.ensures.value,
    ) refl
