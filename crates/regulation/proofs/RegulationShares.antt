-- Regulation 7-1's pi of a group of zones, 2.6.1, is document 01's share of a row. Assumes nothing.
use Prim.Native.Nat.{ℕ, zero, suc, ◌+◌, ◌-◌, ◌*◌, ◌≤◌, ◌<◌}
use mathlib.Core.Path.{◌≡◌}
use mathlib.Core.List.{[]}
use native.Mathlib.Omega.{arith}
use Rattle.laws.specs.Fraction.{Fraction, whole, ◌≈◌, ◌⊹◌, ◌⊝◌, ◌⊛◌}
use Rattle.laws.proofs.Fraction.{≈_refl, ≈_trans, ⊹-≈, ⊝-≈}
use Rattle.laws.proofs.FractionTerm.{number, ◌⊹ᵗ◌, ◌⊝ᵗ◌, agree}
use Rattle.laws.proofs.FractionRing.{⊛_nothing, ⊛-⊝, less_crosswise, plus_crosswise}
use Rattle.solas.specs.Ship.{Ship, Sound}
use Rattle.solas.specs.Share.{within, share, before, row_share}
use Rattle.solas.proofs.Ship.{span as span-of-zones}
use Rattle.regulation.specs.Regulation.{IsRoot, under√, p, r_from_shell, pr, pi}
use Rattle.regulation.specs.OfSolas.{UpTo198m, SharesAreTheRegulation's}
use Rattle.regulation.proofs.RegulationChance.{pr_is_Q}

-- ---- three and four differences, as 2.6.1 joins them
three : (a a' b b' c c' : Fraction) → a ⊝ a' ⊝ (b ⊝ b') ⊝ (c ⊝ c') ≈ a ⊝ b ⊝ c ⊝ (a' ⊝ b' ⊝ c')
three a a' b b' c c' = ≈_trans (⊝-≈ (less_crosswise a a' b b') (≈_refl (c ⊝ c'))) (less_crosswise (a ⊝ b) (a' ⊝ b') c c')

four : (a a' b b' c c' d d' : Fraction) → a ⊝ a' ⊝ (b ⊝ b') ⊝ (c ⊝ c') ⊹ (d ⊝ d') ≈ a ⊝ b ⊝ c ⊹ d ⊝ (a' ⊝ b' ⊝ c' ⊹ d')
four a a' b b' c c' d d' = ≈_trans (⊹-≈ (three a a' b b' c c') (≈_refl (d ⊝ d'))) (plus_crosswise (a ⊝ b ⊝ c) (a' ⊝ b' ⊝ c') d d')

-- ---- 01's Q of the zones from j to e, and its share of a group; nothing at the shell, where b = 0

abbrev within_shell : Ship → ℕ → ℕ → ℕ → Fraction
within_shell s j e zero = whole 0
within_shell s j e (suc b) = within s j e (suc b)

none_before : (s : Ship) (a b : ℕ) → whole 0 ≈ before s a 0 b
unfolding share
none_before s a zero = ≈_refl (whole 0)
none_before s a (suc b) = ≈_refl (whole 0)

one_before : (s : Ship) (a b : ℕ) → within_shell s a a b ≈ before s a 1 b
unfolding share
one_before s a zero = ≈_refl (whole 0)
one_before s a (suc b) = ≈_refl (within s a a (suc b))

two_before : (s : Ship) (a b : ℕ) → within_shell s a (a + 1) b ⊝ within_shell s a a b ⊝ within_shell s (a + 1) (a + 1) b ≈ before s a 2 b
unfolding share
two_before s a zero = agree {ρ = []} (number 0 1 tt ⊝ᵗ number 0 1 tt ⊝ᵗ number 0 1 tt) (number 0 1 tt) tt
two_before s a (suc b) = ≈_refl (share s a 2 (suc b))

more_before : (s : Ship) (a k b : ℕ) →
    within_shell s a (a + k + 2) b ⊝ within_shell s a (a + k + 1) b ⊝ within_shell s (a + 1) (a + k + 2) b ⊹ within_shell s (a + 1) (a + k + 1) b
    ≈ before s a (suc (suc (suc k))) b
unfolding share
more_before s a k zero = agree {ρ = []} (number 0 1 tt ⊝ᵗ number 0 1 tt ⊝ᵗ number 0 1 tt ⊹ᵗ number 0 1 tt) (number 0 1 tt) tt
more_before s a k (suc b) = ≈_refl (share s a (suc (suc (suc k))) (suc b))

-- ---- 2.6.1

module _ (s : Ship) (o : Sound s) (√ : Fraction) (root : IsRoot √ (under√ s.L)) where
  up_to_198_m : UpTo198m s.L √
  up_to_198_m = record { some = omega (arith, o.long); short = o.short; root = root }

  at_b : (j e b : ℕ) → s.aft j < s.fwd e → 2 * b ≤ s.B →
      p s.L √ (s.aft j) (s.fwd e) ⊛ r_from_shell s.L √ (s.aft j) (s.fwd e) s.B b ≈ within_shell s j e b
  unfolding within
  at_b j e zero h k = ⊛_nothing (p s.L √ (s.aft j) (s.fwd e))
  at_b j e (suc b) h k = pr_is_Q up_to_198_m h s.B (suc b) o.broad k

  module _ (b' b : ℕ) (k' : 2 * b' ≤ s.B) (k : 2 * b ≤ s.B) where
    span : (j e : ℕ) → 1 ≤ j → j ≤ e → e ≤ s.m → pr s √ b' b j e ≈ within_shell s j e b ⊝ within_shell s j e b'
    unfolding pr
    span j e h l q = let w = span-of-zones o.zones h l q in ≈_trans (⊛-⊝ _ _ _) (⊝-≈ (at_b j e b w k) (at_b j e b' w k'))

    group : (a n : ℕ) → 1 ≤ a → a + n ≤ s.m + 1 → pi s √ b' b a n ≈ before s a n b ⊝ before s a n b'
    unfolding pi
    group a zero h l = ≈_trans (agree {ρ = []} (number 0 1 tt) (number 0 1 tt ⊝ᵗ number 0 1 tt) tt) (⊝-≈ (none_before s a b) (none_before s a b'))
    group a (suc zero) h l = ≈_trans (span a a h (omega arith) (omega arith)) (⊝-≈ (one_before s a b) (one_before s a b'))
    group a (suc (suc zero)) h l =
        ≈_trans (⊝-≈ (⊝-≈ (span a (a + 1) h (omega arith) (omega arith)) (span a a h (omega arith) (omega arith))) (span (a + 1) (a + 1) (omega arith) (omega arith) (omega arith)))
        (≈_trans (three _ _ _ _ _ _) (⊝-≈ (two_before s a b) (two_before s a b')))
    group a (suc (suc (suc i))) h l =
        let u : a + (i + 3) - 1 ≡ a + i + 2 = omega arith in
        let v : a + (i + 3) - 2 ≡ a + i + 1 = omega arith in
        let entire = span a (a + i + 2) h (omega arith) (omega arith) in
        let no_last = span a (a + i + 1) h (omega arith) (omega arith) in
        let no_first = span (a + 1) (a + i + 2) (omega arith) (omega arith) (omega arith) in
        let neither = span (a + 1) (a + i + 1) (omega arith) (omega arith) (omega arith) in
        rw (u, v)
        (≈_trans (⊹-≈ (⊝-≈ (⊝-≈ entire no_last) no_first) neither) (≈_trans (four _ _ _ _ _ _ _ _) (⊝-≈ (more_before s a i b) (more_before s a i b'))))

-- THE RULE: 01's share of a row is the regulation's pi
pub shares_are_the_regulation's : SharesAreTheRegulation's
unfolding row_share
shares_are_the_regulation's s o √ root a n b' zero h l q k = absurd (omega arith)
shares_are_the_regulation's s o √ root a n b' (suc b) h l q k = group s o √ root b' (suc b) (omega arith) k a n h l
