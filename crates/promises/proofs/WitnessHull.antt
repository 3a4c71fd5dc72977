-- What is told of the hull of docs/ONE-HOLE.md's ship, worked out: R and its mark, where each group's numbers stand, and a pair's share between them. Assumes nothing.
use Prim.Native.Nat.{ℕ, ◌*◌}
use mathlib.Core.Path.{◌≡◌, refl}
use mathlib.Core.List.{List, [], ◌∷◌}
use native.Mathlib.Omega.{arith}
use lib.Dec.{lit≤}
use Rattle.laws.specs.Fraction.{◌less◌over◌, ◌⊹◌, ◌⊝◌, ◌⊛◌}
use Rattle.solas.specs.Span.{touch, p, P}
use Rattle.solas.specs.Penetration.{C, G1, G3, G, Q}
use Rattle.solas.specs.Share.{within, share}
use Rattle.solas.specs.Index.{R, partial_mark}
use Rattle.verdicts.specs.Required.{required_of, mark_of}
use Rattle.listing.proofs.HullValues.{small}
use Rattle.promises.specs.Rows.{group_share}
use Rattle.promises.specs.Sheet.{ShareBetween}
use Rattle.promises.specs.HostHull.{RequiredOf, begun_by, group_place, lower_ends, upper_ends, longest_groups}
use Rattle.promises.proofs.WitnessNumbers.{Compared}

-- 12177/24977 and half of it
pub required_told : RequiredOf small (121770000 ∷ 249770000 ∷ 121770000 ∷ 499540000 ∷ [])
unfolding required_of mark_of R partial_mark ◌⊛◌ ◌less◌over◌
required_told = record { all = refl; required = record { some = lit≤ tt; exact = record { cross = refl } }; mark = record { some = lit≤ tt; exact = record { cross = refl } }; cargo = λ n. record { numerator = refl; denominator = refl }; passengers = λ k. absurd (omega (arith, k)) }

-- three groups begin with zone 1, two with zone 2, one with zone 3
pub groups_placed : (group_place small 1 1 ≡ 0) × (group_place small 1 2 ≡ 2) × (group_place small 1 3 ≡ 4) × (group_place small 2 1 ≡ 6) × (group_place small 2 2 ≡ 8) × (group_place small 3 1 ≡ 10)
unfolding begun_by
groups_placed = (refl, refl, refl, refl, refl, refl)

-- 20/297
pub pair_between : Compared (λ (t : ShareBetween 67340066 67340069 (group_share small 1 2)). t.low) × Compared (λ (t : ShareBetween 67340066 67340069 (group_share small 1 2)). t.high)
unfolding group_share share within Q G P p C G1 G3 touch ◌⊹◌ ◌⊝◌ ◌⊛◌ ◌less◌over◌
pair_between = (λ t. refl, λ t. refl)

-- all six together, 4 below 10⁹ and 6 above
pub together : let all : List ℕ = 269360269 ∷ 269360270 ∷ 67340066 ∷ 67340069 ∷ 0 ∷ 1 ∷ 235690235 ∷ 235690236 ∷ 67340066 ∷ 67340069 ∷ 360269360 ∷ 360269361 ∷ [] in (lower_ends all ≡ 999999996) × (upper_ends all ≡ 1000000006)
together = (refl, refl)

-- twenty zones have 20 + 19 + .. + 1 groups
pub twenty_zones : 2 * begun_by 20 20 ≡ longest_groups
unfolding begun_by
twenty_zones = refl
