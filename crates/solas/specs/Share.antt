-- Document 01, "Shares", exact: the chance that damage takes in just the zones of a group, down to a penetration b. Assumes nothing.
use Rattle.std.specs.Prelude.{ℕ, zero, suc, ◌+◌, List, [], ◌∷◌}
use Rattle.laws.specs.Fraction.{Fraction, whole, ◌⊹◌, ◌⊝◌}
use Rattle.solas.specs.Penetration.{Q}
use Rattle.solas.specs.Ship.{Ship}

-- Q of the zones from a to e, both taken in
unfoldable pub within : Ship → ℕ → ℕ → ℕ → Fraction
within s a e b = Q s.L s.B (s.aft a) (s.fwd e) b

-- the share of the group of n zones from zone a, at one b: one zone; two; three and more
unfoldable pub share : Ship → ℕ → ℕ → ℕ → Fraction
share s a zero b = whole 0
share s a (suc zero) b = within s a a b
share s a (suc (suc zero)) b = within s a (a + 1) b ⊝ within s a a b ⊝ within s (a + 1) (a + 1) b
share s a (suc (suc (suc k))) b =
    within s a (a + k + 2) b ⊝ within s a (a + k + 1) b ⊝ within s (a + 1) (a + k + 2) b ⊹ within s (a + 1) (a + k + 1) b

-- the share at the layer before, whose penetration is b: nothing at 0, where there is none before
abbrev pub before : Ship → ℕ → ℕ → ℕ → Fraction
before s a n zero = whole 0
before s a n (suc b) = share s a n (suc b)

-- the share of a row: that at its b less that at the layer before, b' (0 where there is none)
unfoldable pub row_share : Ship → ℕ → ℕ → ℕ → ℕ → Fraction
row_share s a n b' b = share s a n b ⊝ before s a n b'

-- the shares of a group's layers at the penetrations bs, from the layer before, b'
unfoldable pub layer_shares : Ship → ℕ → ℕ → ℕ → List ℕ → List Fraction
layer_shares s a n b' [] = []
layer_shares s a n b' (b ∷ bs) = row_share s a n b' b ∷ layer_shares s a n b bs
