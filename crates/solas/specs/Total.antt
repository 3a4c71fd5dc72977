-- All zone groups of a ship, and what their shares come to together. Assumes nothing.
use Rattle.std.specs.Prelude.{ℕ, zero, suc, ◌+◌, ◌-◌}
use Rattle.laws.specs.Fraction.{Fraction, whole, ◌⊹◌, ◌⊝◌, up_to}
use Rattle.solas.specs.Ship.{Ship}
use Rattle.solas.specs.Share.{within, share}

-- f of every group of m zones together: for each first zone a from 1 to m, each n with a + n - 1 within the zones
unfoldable pub over_groups : (ℕ → ℕ → Fraction) → ℕ → Fraction
over_groups f m = up_to (λ i. up_to (λ j. f (suc i) (suc j)) (m - i)) m

-- the shares of all groups at one b
unfoldable pub all_shares : Ship → ℕ → Fraction
all_shares s b = over_groups (λ a n. share s a n b) s.m

-- ---- two slips of the trade, and what is left out or put back by them
-- the span that three and more zones put back: the group without its first and its last zone
unfoldable pub middle_span : Ship → ℕ → ℕ → ℕ → Fraction
middle_span s a zero b = whole 0
middle_span s a (suc zero) b = whole 0
middle_span s a (suc (suc zero)) b = whole 0
middle_span s a (suc (suc (suc k))) b = within s (a + 1) (a + k + 1) b

-- the shares of all groups with that span left out
unfoldable pub all_without_middle : Ship → ℕ → Fraction
all_without_middle s b = over_groups (λ a n. share s a n b ⊝ middle_span s a n b) s.m

-- the zone that the second slip puts back at two zones, where nothing went twice: the first
unfoldable pub first_of_pair : Ship → ℕ → ℕ → ℕ → Fraction
first_of_pair s a zero b = whole 0
first_of_pair s a (suc zero) b = whole 0
first_of_pair s a (suc (suc zero)) b = within s a a b
first_of_pair s a (suc (suc (suc k))) b = whole 0

-- the shares of all groups with that zone put back
unfoldable pub all_with_zone_back : Ship → ℕ → Fraction
all_with_zone_back s b = over_groups (λ a n. share s a n b ⊹ first_of_pair s a n b) s.m
