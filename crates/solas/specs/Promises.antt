-- What is promised of shares: none is negative, all of them together are the whole ship, and none is above one. Assumes nothing.
use Rattle.std.specs.Prelude.{ℕ, ◌*◌, ◌≤◌, ◌<◌, ◌≡◌, List, ◌∷◌}
use Rattle.laws.specs.Fraction.{whole, ◌≈◌, ◌≼◌, ◌≺◌, ◌⊹◌, total}
use Rattle.laws.specs.Lists.{last, Linked}
use Rattle.solas.specs.Ship.{Ship, Sound}
use Rattle.solas.specs.Share.{within, share, row_share, layer_shares}
use Rattle.solas.specs.Count.{Group}
use Rattle.solas.specs.Total.{over_groups, all_shares, middle_span, all_without_middle, first_of_pair, all_with_zone_back}

-- every row's share, for every ship, group and pair of layers
abbrev pub NoShareNegative : Type 0
NoShareNegative = (s : Ship) → Sound s → (a n b' b : ℕ) → Group s a n → b' ≤ b → 2 * b ≤ s.B → whole 0 ≼ row_share s a n b' b

abbrev pub NoShareAboveOne : Type 0
NoShareAboveOne = (s : Ship) → Sound s → (a n b' b : ℕ) → Group s a n → b' ≤ b → 2 * b ≤ s.B → row_share s a n b' b ≼ whole 1

-- at every b the shares of all groups sum to Q of the whole ship, which is at most one, and one at B/2
abbrev pub TotalIsTheShip : Type 0
TotalIsTheShip = (s : Ship) → Sound s → (b : ℕ) → 2 * b ≤ s.B → all_shares s b ≈ within s 1 s.m b

abbrev pub TotalAtMostOne : Type 0
TotalAtMostOne = (s : Ship) → Sound s → (b : ℕ) → 2 * b ≤ s.B → all_shares s b ≼ whole 1

abbrev pub TotalIsOne : Type 0
TotalIsOne = (s : Ship) → Sound s → (b : ℕ) → 2 * b ≡ s.B → all_shares s b ≈ whole 1

-- the layers of a closed group, at rising penetrations bs of which the last is at B/2, sum to the group's share there
abbrev pub LayersClose : Type 0
LayersClose = (s : Ship) → Sound s → (a n : ℕ) → Group s a n → (b : ℕ) (bs : List ℕ) → Linked ◌<◌ 0 (b ∷ bs) → 2 * last 0 (b ∷ bs) ≡ s.B →
    total (layer_shares s a n 0 (b ∷ bs)) ≈ share s a n (last 0 (b ∷ bs))

-- the middle spans left out at three and more zones: just they are lost, so that in a ship of three zones or more the total falls short of one
abbrev pub MiddleLost : Type 0
MiddleLost = (s : Ship) → Sound s → (b : ℕ) → 2 * b ≤ s.B → all_without_middle s b ⊹ over_groups (λ a n. middle_span s a n b) s.m ≈ within s 1 s.m b

abbrev pub MiddleMissed : Type 0
MiddleMissed = (s : Ship) → Sound s → 3 ≤ s.m → (b : ℕ) → 2 * b ≡ s.B → all_without_middle s b ≺ whole 1

-- a zone put back at two zones: just that is gained, so that in a ship of two zones or more the total is above one
abbrev pub ZoneGained : Type 0
ZoneGained = (s : Ship) → Sound s → (b : ℕ) → 2 * b ≤ s.B → all_with_zone_back s b ≈ within s 1 s.m b ⊹ over_groups (λ a n. first_of_pair s a n b) s.m

abbrev pub ZoneTooMuch : Type 0
ZoneTooMuch = (s : Ship) → Sound s → 2 ≤ s.m → (b : ℕ) → 2 * b ≡ s.B → whole 1 ≺ all_with_zone_back s b
