-- A passenger ship's rule decides its verdict alone, for nothing else that is worked out asks for it; and the rule whose R is not above asks for no more. Assumes nothing.
use Prim.Native.Nat.{ℕ}
use mathlib.Core.Path.{◌≡◌, refl, ap}
use mathlib.Core.List.{List, [], ◌∷◌}
use lib.Dec.{lit<}
use borrow.Author.Tests.{eq-eqb}
use Rattle.laws.specs.Fraction.{whole, ◌≼◌}
use Rattle.laws.proofs.FractionCompare.{≼_of_≺, rises_⊛}
use Rattle.solas.specs.Index.{passenger_mark}
use Rattle.solas.proofs.Rules.{rules_compared}
use Rattle.verdicts.specs.Required.{passenger_required, required_of, mark_of}
use Rattle.verdicts.proofs.ByHull.{required_of_not_negative, mark_of_not_negative}
use Rattle.verdicts.proofs.Verdicts.{met_by_less, failed_by_more}
use Rattle.casefile.specs.Record.{Row, Case}
use Rattle.rows.specs.declared.Standing.{Standing}
use Rattle.rows.specs.Standing.{stands, nowhere}
use Rattle.rows.specs.Work.{share_at, adds_at, line_at, shares_from, adds_from, lines_from, numbers}
use Rattle.indices.specs.Index.{partials}
use Rattle.answers.specs.Answer.{partials_of, figures, answer, shares}
use Rattle.answers.specs.Report.{lines_in}
use Rattle.answers.specs.Rule.{under, RuleDecidesTheVerdictAlone, AsksNoMore, RulesByVerdict}

module _ (rule : ℕ) (c : Case) where
  adds_same : (rs : List Row) (y : Standing) → adds_from (under rule c).hull y rs ≡ adds_from c.hull y rs
  unfolding adds_from adds_at share_at
  adds_same [] y = refl
  adds_same (r ∷ rs) y = ap (λ ts. adds_at c.hull (stands y r.head) r.results ∷ ts) (adds_same rs (stands y r.head))

  shares_same : (rs : List Row) (y : Standing) → shares_from (under rule c).hull y rs ≡ shares_from c.hull y rs
  unfolding shares_from share_at
  shares_same [] y = refl
  shares_same (r ∷ rs) y = ap (λ es. share_at c.hull (stands y r.head) ∷ es) (shares_same rs (stands y r.head))

  lines_same : (rs : List Row) (y : Standing) → lines_from (under rule c).hull y rs ≡ lines_from c.hull y rs
  unfolding lines_from share_at
  lines_same [] y = refl
  lines_same (r ∷ rs) y = ap (λ ls. line_at c.hull (stands y r.head) r.results ∷ ls) (lines_same rs (stands y r.head))

  partials_same : partials_of (under rule c) ≡ partials_of c
  unfolding partials_of
  partials_same = ap partials (adds_same c.rows nowhere)

  figures_same : answer (under rule c) ≡ record { number = 0; line = 0; verdict = (answer (under rule c)).verdict; rows = (answer c).rows; attained = (answer c).attained; partials = (answer c).partials }
  unfolding answer figures
  figures_same = rw partials_same refl

pub rule_decides_the_verdict_alone : RuleDecidesTheVerdictAlone
unfolding shares lines_in
rule_decides_the_verdict_alone = record {
  figures = figures_same;
  sheet = λ rule c. ap numbers (shares_same rule c c.rows nowhere);
  lines = λ rule c. lines_same rule c c.rows nowhere;
}

-- ---- both verdicts

module _ (c : Case) (rule other : ℕ) (k : c.hull.kind ≡ 6) (up : passenger_required (under rule c).hull ≼ passenger_required (under other c).hull) where
  required_up : required_of (under rule c).hull ≼ required_of (under other c).hull
  unfolding required_of
  required_up = rw (eq-eqb c.hull.kind 6 k) up

  mark_up : mark_of (under rule c).hull ≼ mark_of (under other c).hull
  unfolding mark_of passenger_mark
  mark_up = rw (eq-eqb c.hull.kind 6 k) (rises_⊛ 9 (lit< tt) up)

  not_negative : (whole 0 ≼ required_of (under rule c).hull) × (whole 0 ≼ mark_of (under rule c).hull)
  not_negative = (required_of_not_negative (under rule c).hull, mark_of_not_negative (under rule c).hull)

  meets_too : (answer (under other c)).verdict ≡ 1 → (answer (under rule c)).verdict ≡ 1
  unfolding answer figures
  meets_too = rw (partials_same rule c, partials_same other c) (met_by_less _ _ not_negative.0 not_negative.1 required_up mark_up)

  fails_too : (answer (under rule c)).verdict ≡ 2 → (answer (under other c)).verdict ≡ 2
  unfolding answer figures
  fails_too = rw (partials_same rule c, partials_same other c) (failed_by_more _ _ not_negative.0 not_negative.1 required_up mark_up)

  asks_no_more : AsksNoMore c rule other
  asks_no_more = record { meets = meets_too; fails = fails_too }

pub rules_by_verdict : RulesByVerdict
unfolding passenger_required
rules_by_verdict = record {
  few = λ c w p. asks_no_more c 0 1 w.passengers (≼_of_≺ (rules_compared.few w.within p));
  many = λ c w p q. asks_no_more c 0 1 w.passengers (≼_of_≺ (rules_compared.many w.within p q));
  most = λ c w p. asks_no_more c 1 0 w.passengers (rules_compared.most w.within p);
}
