-- `set` meets its contract: a part with no end goes on to the end. Assumes nothing.
use borrow.Author.Rules.{rules}
use Prim.Native.Nat.{◌-◌, ◌*◌}
use mathlib.Core.Path.{◌≡◌, refl, ◌∙◌}
use lib.ListN.{length, take, drop}
use native.Mathlib.Omega.{arith}
use Rattle.laws.proofs.Arrays.{three_made}
use Rattle.laws.proofs.Lists.{three_same, rest_of}
use Rattle.casefile.specs.Layout.{result_length, finding_of, set_of}
use Rattle.rowlines.proofs.readers.set.Goals as goal

pub returns : goal.returns
unfolding set_of
returns c =
    let kind = c.args.kind in
    let f = c.args.f.now in
    let n = c.result_length-length.result in
    let z : 0 * n ≡ 0 = omega arith in
    let o : 1 * n ≡ result_length kind = omega (arith, c.result_length-length.ensures) in
    let t : 2 * n ≡ 2 * result_length kind = omega (arith, c.result_length-length.ensures) in
    three_made (λ p. (p.0.now ≡ kind) × (p.1.now ≡ f) × (p.2.now ≡ n)) (λ j. finding_of kind (take (length f - j * n) (drop (j * n) f))) (λ p j y q l k e. search rules) c.from_fn.result (refl, refl, refl) c.from_fn.ensures.items
    ∙ three_same (rw (rest_of f (0 * n), z) refl) (rw (rest_of f (1 * n), o) refl) (rw (rest_of f (2 * n), t) refl)
