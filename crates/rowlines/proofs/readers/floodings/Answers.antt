-- `floodings` meets its contract: a part with no end goes on to the end. Assumes nothing.
use borrow.Author.Rules.{rules}
use Prim.Native.Nat.{◌-◌, ◌*◌}
use mathlib.Core.Path.{◌≡◌, refl, ap, ◌∙◌}
use lib.ListN.{length, take, drop}
use Rattle.laws.proofs.Arrays.{three_made}
use Rattle.laws.proofs.Lists.{three_same, rest_of}
use Rattle.casefile.specs.Layout.{flooding_of, floodings_of}
use Rattle.rowlines.proofs.readers.floodings.Goals as goal

pub returns : goal.returns
unfolding floodings_of
returns c =
    let f = c.args.f.now in
    three_made (λ p. p.0.now ≡ f) (λ j. flooding_of (take (length f - 15 * j) (drop (15 * j) f))) (λ p j y q l k e. search rules) c.from_fn.result refl c.from_fn.ensures.items
    ∙ three_same (ap flooding_of (rest_of f 0)) (ap flooding_of (rest_of f 15)) (ap flooding_of (rest_of f 30))
