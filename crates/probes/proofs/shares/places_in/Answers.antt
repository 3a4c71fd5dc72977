-- `shares::places_in` meets its contract: each place is made of its number. Assumes nothing.
use Rattle.std.proofs.Common.{rules, ◌+◌, ◌≡◌, refl}
use Rattle.laws.proofs.Made.{all_made}
use Rattle.probes.specs.Shares.{number}
use Rattle.probes.proofs.shares.places_in.Goals as goal

pub returns : goal.returns
returns c =
    all_made 21 (λ p. p.0.now ≡ c.args.ns.now) (λ k. number c.args.ns.now (6 + k)) (λ p i y q l k called. search rules) c.from_fn.result refl c.from_fn.ensures.items
