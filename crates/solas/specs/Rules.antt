-- What the rule of 2020 asks of a passenger ship beside the earlier one: where its R is above, and where it is not. Assumes nothing.
use Rattle.std.specs.Prelude.{ℕ, ◌+◌, ◌*◌, ◌≤◌, ◌<◌, ◌↔◌}
use Rattle.laws.specs.Fraction.{Fraction, ◌≼◌, ◌≺◌}
use Rattle.solas.specs.Index.{persons, passenger_R, R2020}

-- a ship of 20 to 400 m, with persons that a case file takes, split as they may be
pub record Within (L n1 n2 : ℕ) : Type 0 where
  pub long : 2000 ≤ L
  pub short : L ≤ 40000
  pub lifeboats : n1 ≤ 10000
  pub excess : n2 ≤ 10000

-- the earlier R, of L centimetres with n1 persons in lifeboats and n2 in excess, and that of 2020, of all of them
pub record Compared (earlier : ℕ → ℕ → ℕ → Fraction) (later : ℕ → Fraction) : Type 0 where
  -- above up to 1,350 persons
  pub few : {L n1 n2 : ℕ} → Within L n1 n2 → n1 + n2 ≤ 1350 → earlier L n1 n2 ≺ later (n1 + n2)
  -- beyond 6,000 by one comparison of whole numbers
  pub beyond : (L n1 n2 : ℕ) → 6000 < n1 + n2 →
      (earlier L n1 n2 ≺ later (n1 + n2)) ↔ ((682000 + 31 * (n1 + n2)) * (L + 250 * (n1 + 2 * n2) + 1522500) < 400000000 * (n1 + n2 + 5000))
  -- above from 6,001 to 8,112, and no further: not of 8,113 in 400 m, all of them in excess
  pub many : {L n1 n2 : ℕ} → Within L n1 n2 → 6000 < n1 + n2 → n1 + n2 ≤ 8112 → earlier L n1 n2 ≺ later (n1 + n2)
  pub at_8113 : later 8113 ≼ earlier 40000 0 8113
  -- not above from 16,305 on, and no sooner: above of 16,304 in 20 m, as many of them in lifeboats as a file takes
  pub most : {L n1 n2 : ℕ} → Within L n1 n2 → 16305 ≤ n1 + n2 → later (n1 + n2) ≼ earlier L n1 n2
  pub at_16304 : earlier 2000 10000 6304 ≺ later 16304

abbrev pub RulesCompared : Type 0
RulesCompared = Compared (λ L n1 n2. passenger_R L (persons n1 n2)) R2020
