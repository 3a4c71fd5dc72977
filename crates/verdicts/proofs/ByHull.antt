-- What a ship must reach by its hull: that of a cargo ship, or of a passenger ship by its rule; never negative, and small enough to be compared. Assumes nothing.
use Prim.Native.Nat.{ℕ, ◌+◌, ◌*◌, ◌^◌, ◌<◌}
use mathlib.Core.Path.{◌≡◌, refl}
use native.Mathlib.Omega.{arith}
use lib.Dec.{eqb}
use borrow.Author.Tests.{eqb-true, eqb-false, eq-eqb, ne_eqb}
use Rattle.laws.specs.Fraction.{Fraction, whole, ◌≼◌, ◌≺◌}
use Rattle.laws.proofs.FractionCompare.{plain_not_negative}
use Rattle.laws.proofs.Tests.{told, picked}
use Rattle.records.specs.declared.Hull.{Hull}
use Rattle.solas.specs.Index.{R, partial_mark, persons, passenger_R, R2020, passenger_mark}
use Rattle.solas.proofs.Required.{R_positive, passenger_R_positive, R2020_positive}
use Rattle.numbers.specs.Ratio.{ratio_of, Proper}
use Rattle.verdicts.specs.Required.{Sized, passenger_required, required_of, mark_of}
use Rattle.verdicts.proofs.Marks.{required_plain, passenger_plain, rule_plain, Few, required_few, passenger_few, rule_few, mark_half, half_plain, mark_nine_tenths, nine_tenths_plain}
-- checked first, so that a definition that gives another number is refused there
use Rattle.verdicts.proofs.Values.{passengers_of_2020, own_rule}

module _ (h : Hull) where
  -- ---- R by its kind, and by its rule
  pub required_of_2020 : h.kind ≡ 6 → h.rule ≡ 1 → required_of h ≡ R2020 (h.lifeboats + h.excess)
  unfolding required_of passenger_required
  required_of_2020 e r = rw (e, r) refl

  pub earlier_required_of : h.kind ≡ 6 → (h.rule ≡ 1 → ⊥) → required_of h ≡ passenger_R h.length (h.lifeboats + 2 * h.excess)
  unfolding required_of passenger_required persons
  earlier_required_of e n = rw (e, ne_eqb h.rule 1 n) refl

  pub cargo_required_of : (h.kind ≡ 6 → ⊥) → required_of h ≡ R h.length
  unfolding required_of
  cargo_required_of n = rw (ne_eqb h.kind 6 n) refl

  -- ---- with no minus
  pub passengers_plain : (passenger_required h).down ≡ 0
  unfolding passenger_required
  passengers_plain =
      picked (λ (f : Fraction). f.down ≡ 0) (eqb h.rule 1) _ _
      (λ e. rule_plain (h.lifeboats + h.excess)) (λ e. passenger_plain h.length (persons h.lifeboats h.excess))

  pub required_of_not_negative : whole 0 ≼ required_of h
  unfolding required_of
  required_of_not_negative =
      picked (λ (f : Fraction). whole 0 ≼ f) (eqb h.kind 6) (passenger_required h) (R h.length)
      (λ e. plain_not_negative passengers_plain) (λ e. plain_not_negative (required_plain h.length))

  pub required_of_positive : 0 < h.length → whole 0 ≺ required_of h
  unfolding required_of passenger_required
  required_of_positive l =
      picked (λ (f : Fraction). whole 0 ≺ f) (eqb h.kind 6) _ _
      (λ e. picked (λ (f : Fraction). whole 0 ≺ f) (eqb h.rule 1) _ _ (λ e. R2020_positive (h.lifeboats + h.excess)) (λ e. passenger_R_positive h.length (persons h.lifeboats h.excess)))
      (λ e. R_positive l)

  pub mark_of_not_negative : whole 0 ≼ mark_of h
  unfolding mark_of
  mark_of_not_negative =
      picked (λ (f : Fraction). whole 0 ≼ f) (eqb h.kind 6) (passenger_mark (passenger_required h)) (partial_mark h.length)
      (λ e. plain_not_negative (nine_tenths_plain (passenger_required h) passengers_plain)) (λ e. plain_not_negative (half_plain h.length))

  -- ---- the mark, nine tenths of R or half of it
  pub passenger_mark_of : h.kind ≡ 6 → ratio_of (mark_of h) ≡ record { num = (ratio_of (required_of h)).num * 9; den = (ratio_of (required_of h)).den * 10 }
  unfolding mark_of required_of
  passenger_mark_of e = rw (eq-eqb h.kind 6 e) (mark_nine_tenths (passenger_required h) passengers_plain)

  pub cargo_mark_of : (h.kind ≡ 6 → ⊥) → ratio_of (mark_of h) ≡ record { num = (ratio_of (required_of h)).num; den = (ratio_of (required_of h)).den * 2 }
  unfolding mark_of required_of
  cargo_mark_of n = rw (ne_eqb h.kind 6 n) (mark_half h.length)

-- ---- small enough
module _ {h : Hull} (s : Sized h) where
  pub required_of_few : Few (ratio_of (required_of h))
  required_of_few =
      told (eqb h.kind 6)
      (λ k. told (eqb h.rule 1)
      (λ r. rw (required_of_2020 h (eqb-true _ _ k) (eqb-true _ _ r)) (rule_few (omega (arith, s.lifeboats, s.excess))))
      (λ r. rw (earlier_required_of h (eqb-true _ _ k) (eqb-false _ _ r)) (passenger_few (s.length, omega (arith, s.lifeboats, s.excess)))))
      (λ k. rw (cargo_required_of h (eqb-false _ _ k)) (required_few s.length))

  pub required_of_proper : Proper (10 ^ 9) (ratio_of (required_of h))
  required_of_proper = let b = required_of_few in record { positive = b.0; at_most_one = b.1; narrow = omega (arith, b.2) }

  pub mark_of_proper : Proper (10 ^ 9) (ratio_of (mark_of h))
  mark_of_proper =
      let b = required_of_few in
      told (eqb h.kind 6)
      (λ k. rw (passenger_mark_of h (eqb-true _ _ k)) (record { positive = omega (arith, b.0); at_most_one = omega (arith, b.1); narrow = omega (arith, b.2) }))
      (λ k. rw (cargo_mark_of h (eqb-false _ _ k)) (record { positive = omega (arith, b.0); at_most_one = omega (arith, b.1); narrow = omega (arith, b.2) }))
