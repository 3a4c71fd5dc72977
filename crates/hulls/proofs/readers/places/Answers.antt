-- `places` meets its contract, place by place. Assumes nothing.
use borrow.Author.Rules.{rules}
use mathlib.Core.Path.{◌≡◌, refl}
use Prim.Native.Nat.{◌+◌, ◌*◌}
use Rattle.laws.proofs.Made.{all_made}
use Rattle.fields.specs.Fields.{word_at}
use Rattle.casefile.specs.Layout.{place_of}
use Rattle.hulls.proofs.readers.places.Goals as goal

pub returns : goal.returns
returns c =
    let a = c.args in
    let f = a.f.now in
    all_made 21 (λ p. (p.0.now ≡ f) × (p.1.now ≡ a.from) × (p.2.now ≡ a.m) × (p.3.now ≡ a.ls)) (place_of (λ i. word_at f (a.from + 2 * i)) a.m a.ls) (λ p i y q l k e. search rules) c.from_fn.result (refl, refl, refl, refl) c.from_fn.ensures.items
