-- `values` meets its contract: each call gives one value. Assumes nothing.
use borrow.Author.Rules.{rules}
use mathlib.Core.Path.{◌≡◌, refl}
use Prim.Native.Nat.{◌+◌}
use Rattle.laws.proofs.Made.{all_made}
use Rattle.frames.specs.Decoding.{mark_at}
use Rattle.frames.proofs.values.Goals as goal

pub returns : goal.returns
returns c =
    all_made 32 (λ p. (p.0.now ≡ c.args.text.now) × (p.1.now ≡ c.args.at)) (λ k. mark_at c.args.text.now (c.args.at + k)) (λ p i y q l k called. search rules) c.from_fn.result (refl, refl) c.from_fn.ensures.items
