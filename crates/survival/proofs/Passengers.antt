-- A passenger ship's survival: its marks, when it is one, and that it is the lesser of what an intermediate stage leaves and of what the final stage does
-- with the moments. Assumes nothing.
use Prim.Native.Nat.{ℕ, ◌-◌, ◌^◌, ◌≤◌, ◌<◌, min}
use mathlib.Core.Bool.{Bool, true, false}
use mathlib.Core.Logic.{◌↔◌}
use mathlib.Core.Path.{◌≡◌, refl, ap, ◌∙◌}
use native.Mathlib.Nat.{min-le_left, min-le_right, pow-le-pow_left}
use native.Mathlib.Omega.{arith}
use lib.Dec.{lit<}
use borrow.Author.Tests.{ltb-true, ltb-false, lt-ltb, le-ltb}
use Rattle.laws.specs.Fraction.{Fraction, ◌over◌, whole, ◌≈◌, ◌⊛◌, lesser}
use Rattle.laws.proofs.Fraction.{is_over, is_one, same, numerators_same, ≈_refl}
use Rattle.laws.proofs.Roots.{powers_ordered}
use Rattle.laws.proofs.Tests.{told}
use Rattle.records.specs.declared.Finding.{Finding}
use Rattle.records.specs.declared.Flooding.{Flooding}
use Rattle.records.specs.declared.Marks.{Marks}
use Rattle.solas.specs.Survival.{immersed}
use Rattle.solas.specs.Passengers.{lever_cap, range_cap, k_of_passengers, final⁴, together⁴}
use Rattle.solas.proofs.Survival.{portion_not_negative, portion_at_most_one, immersed_below, dry_not_below, lost_if_immersed, kept_if_dry, either_way}
use Rattle.solas.proofs.Passengers.{is_k_of_passengers, lever_cap_positive, range_cap_positive, final⁴_not_negative, final⁴_at_most_one, intermediate⁴_not_negative, intermediate⁴_at_most_one, s_mom_not_negative, s_mom_at_most_one, together⁴_not_negative, together⁴_at_most_one}
use Rattle.survival.specs.Marks.{unmarked, passenger_marks}
use Rattle.survival.specs.Survival.{root, ends, fourth_power, Sensible, marked, passenger_fourth, passenger_survival, factor_at, survival_at}
use Rattle.survival.specs.Worse.{LesserEnds}
use Rattle.survival.specs.Passengers.{int_of, final_of, mom_of, PassengerTelling, LesserOfBoth, PassengerLesser, PassengerRows}
-- checked first, so that a definition that gives another number is refused there
use Rattle.survival.proofs.PassengerValues.{moments, stages, finals, row}
use Rattle.survival.proofs.Factors.{nothing_sensible, lost_roots}
use Rattle.survival.proofs.Bounds.{bottom_one, ends_ordered, ends_at_most}
use Rattle.survival.proofs.Worse.{lesser_has_lesser_ends, survivals_at, factors_at}
use Rattle.survival.proofs.Portions.{product_sensible, product_one, fourth_power_sensible, fourth_power_one, capped_one}

-- ---- the final stage's s⁴ is one where its caps and its heel limit are kept, and nowhere else
module _ (roro g t e : ℕ) where
  record Kept : Type 0 where
    lever : lever_cap roro ≤ g
    range : range_cap roro ≤ t
    heel : e ≤ 700

  portion : (n : ℕ) {d : ℕ} → 0 < d → Sensible (root (min n d over d))
  portion n {d} p = (portion_not_negative p (is_over (min n d) p), portion_at_most_one p (is_over (min n d) p) (min-le_right n d))

  k_sensible : Sensible (root (k_of_passengers e))
  k_sensible = (portion_not_negative (lit< tt) (is_k_of_passengers e), portion_at_most_one (lit< tt) (is_k_of_passengers e) (pow-le-pow_left (min-le_left 800 (1500 - e)) 2))

  k_one : (k_of_passengers e ≈ whole 1) ↔ (e ≤ 700)
  k_one = (
    λ h. let l = (powers_ordered 1 800 (min 800 (1500 - e))).0 (omega (arith, numerators_same h (is_k_of_passengers e) (is_one (lit< tt)))) in omega arith,
    λ l. let m : min 800 (1500 - e) ≡ 800 = omega arith in same (lit< tt) (rw m at (is_k_of_passengers e)) (is_one (lit< tt)),
  )

  final_one : (final⁴ roro g t e ≈ whole 1) ↔ Kept
  unfolding final⁴
  final_one =
      let a = portion g (lever_cap_positive roro) in
      let b = portion t (range_cap_positive roro) in
      let all = product_one (product_sensible a b) k_sensible in
      let caps = product_one a b in (
        λ h. let c = caps.0 (all.0 h).0 in
            record { lever = (capped_one g (lever_cap_positive roro)).0 c.0; range = (capped_one t (range_cap_positive roro)).0 c.1; heel = k_one.0 (all.0 h).1 },
        λ k. all.1 (caps.1 ((capped_one g (lever_cap_positive roro)).1 k.lever, (capped_one t (range_cap_positive roro)).1 k.range), k_one.1 k.heel),
      )

-- ---- a result
module _ (f : Finding) (w : Flooding) where
  abbrev marks_of : Marks
  marks_of = passenger_marks w.roro f.lever f.range f.heel f.opening

  -- s-final times s-mom, to the fourth
  abbrev held : Fraction
  held = final_of f w ⊛ fourth_power (mom_of f w)

  pub as_passenger : passenger_survival f w ≡ marked (ends (root (passenger_fourth f w))) marks_of
  unfolding passenger_survival
  as_passenger = refl

  pub passenger_lost : immersed f.opening ≡ true → passenger_survival f w ≡ marked (record { bottom = 0; top = 0 }) marks_of
  passenger_lost i = as_passenger ∙ ap (λ r. marked r marks_of) (lost_roots f.opening _ i)

  pub passenger_dry : immersed f.opening ≡ false → passenger_fourth f w ≡ lesser (int_of w) held
  unfolding together⁴
  passenger_dry i = kept_if_dry f.opening _ i

  -- ---- its marks
  record KeptDry : Type 0 where
    caps : Kept w.roro f.lever f.range f.heel
    dry : immersed f.opening ≡ false

  unmarked_kept : ((passenger_survival f w).marks ≡ unmarked) ↔ KeptDry
  unfolding passenger_marks
  unmarked_kept = rw as_passenger (
    λ m. record {
      caps = record {
        lever = ltb-false f.lever (lever_cap w.roro) (ap (λ m. m.lever) m);
        range = ltb-false f.range (range_cap w.roro) (ap (λ m. m.range) m);
        heel = ltb-false 700 f.heel (ap (λ m. m.heel) m);
      };
      dry = ap (λ m. m.opening) m;
    },
    λ k. none (le-ltb f.lever (lever_cap w.roro) k.caps.lever) (le-ltb f.range (range_cap w.roro) k.caps.range) (le-ltb 700 f.heel k.caps.heel) k.dry,
  )
    where
      none : {a b c d : Bool} → a ≡ false → b ≡ false → c ≡ false → d ≡ false → ◌≡◌ {A = Marks} (record { lever = a; range = b; heel = c; opening = d }) unmarked
      none p q r s = cc

  -- ---- its factors are from 0 to 1
  pub int_sensible : Sensible (root (int_of w))
  int_sensible = (intermediate⁴_not_negative w.lever w.range w.heel, intermediate⁴_at_most_one w.lever w.range w.heel)

  pub final_sensible : Sensible (root (final_of f w))
  final_sensible = (final⁴_not_negative w.roro f.lever f.range f.heel, final⁴_at_most_one w.roro f.lever f.range f.heel)

  module _ (some : 1 ≤ w.moment) where
    pub mom_sensible : Sensible (root (mom_of f w))
    mom_sensible = (s_mom_not_negative f.lever w.displacement some, s_mom_at_most_one f.lever w.displacement some)

    pub held_sensible : Sensible (root held)
    held_sensible = product_sensible final_sensible (fourth_power_sensible mom_sensible)

    pub passenger_sensible : Sensible (root (passenger_fourth f w))
    passenger_sensible =
        either_way f.opening _ (λ x. Sensible (root x)) nothing_sensible
        (together⁴_not_negative (int_of w) (final_of f w) (mom_of f w) int_sensible.0 final_sensible.0 mom_sensible.0, together⁴_at_most_one (int_of w) (final_of f w) (mom_of f w) int_sensible.1)

    held_one : (held ≈ whole 1) ↔ ((final_of f w ≈ whole 1) × (mom_of f w ≈ whole 1))
    held_one =
        let all = product_one final_sensible (fourth_power_sensible mom_sensible) in
        let fourth = fourth_power_one mom_sensible in
        (λ e. ((all.0 e).0, fourth.0 (all.0 e).1), λ p. all.1 (p.0, fourth.1 p.1))

    -- ---- the lesser of both, where no opening is immersed
    module _ (dry : immersed f.opening ≡ false) where
      lesser_ends : LesserEnds (int_of w) held
      lesser_ends = lesser_has_lesser_ends (int_of w) held int_sensible held_sensible

      pub lesser_of_both : LesserOfBoth f w
      lesser_of_both = record { bottom = rw (as_passenger, passenger_dry dry) lesser_ends.bottom; top = rw (as_passenger, passenger_dry dry) lesser_ends.top }

      bottoms_one : ((passenger_survival f w).bottom ≡ 10 ^ 4) ↔ ((int_of w ≈ whole 1) × (held ≈ whole 1))
      bottoms_one =
          let a = root (int_of w) in
          let b = root held in
          let u : (ends a).bottom ≤ 10 ^ 4 = omega (arith, ends_ordered a int_sensible, ends_at_most a int_sensible) in
          let v : (ends b).bottom ≤ 10 ^ 4 = omega (arith, ends_ordered b held_sensible, ends_at_most b held_sensible) in
          let whole-int = bottom_one int_sensible in
          let whole-held = bottom_one held_sensible in (
            λ e. (whole-int.0 (omega (arith, lesser_of_both.bottom)), whole-held.0 (omega (arith, lesser_of_both.bottom))),
            λ p. omega (arith, lesser_of_both.bottom, whole-int.1 p.0, whole-held.1 p.1),
          )

    one : ((passenger_survival f w).bottom ≡ 10 ^ 4) ↔ (((passenger_survival f w).marks ≡ unmarked) × (int_of w ≈ whole 1) × (mom_of f w ≈ whole 1))
    one =
        let kept = final_one w.roro f.lever f.range f.heel in (
          λ e. told (immersed f.opening) (λ i. absurd (omega (arith, ap (λ s. s.bottom) (passenger_lost i))))
              (λ i. let p = (bottoms_one i).0 e in let q = held_one.0 p.1 in (unmarked_kept.1 (record { caps = kept.0 q.0; dry = i }), p.0, q.1)),
          λ p. let k = unmarked_kept.0 p.0 in (bottoms_one k.dry).1 (p.1, held_one.1 (kept.1 k.caps, p.2)),
        )

    -- the bottom is that of the exact s⁴
    exactly : (passenger_fourth f w ≈ whole 1) ↔ ((passenger_survival f w).bottom ≡ 10 ^ 4)
    exactly = let b = bottom_one passenger_sensible in rw as_passenger (b.1, b.0)

pub passenger_telling : PassengerTelling
unfolding passenger_marks
passenger_telling =
    record {
      lever = λ f w. rw (as_passenger f w) (ltb-true f.lever (lever_cap w.roro), lt-ltb f.lever (lever_cap w.roro));
      range = λ f w. rw (as_passenger f w) (ltb-true f.range (range_cap w.roro), lt-ltb f.range (range_cap w.roro));
      heel = λ f w. rw (as_passenger f w) (ltb-true 700 f.heel, lt-ltb 700 f.heel);
      opening = λ f w. rw (as_passenger f w) (immersed_below f.opening);
      unmarked_final = λ f w.
          let kept = final_one w.roro f.lever f.range f.heel in (
            λ m. let k = (unmarked_kept f w).0 m in (kept.1 k.caps, (dry_not_below f.opening).0 k.dry),
            λ p. (unmarked_kept f w).1 (record { caps = kept.0 p.0; dry = (dry_not_below f.opening).1 p.1 }),
          );
      one = one;
      exact = λ f w some. (λ e. (one f w some).0 ((exactly f w some).0 e), λ p. (exactly f w some).1 ((one f w some).1 p));
      lost = λ f w l.
          let i = (immersed_below f.opening).1 l in
          let s = passenger_lost f w i in
          (ap (λ s. s.bottom) s, ap (λ s. s.top) s, rw (lost_if_immersed f.opening _ i) (≈_refl (whole 0)));
    }

pub passenger_lesser : PassengerLesser
passenger_lesser f w some p = lesser_of_both f w some ((dry_not_below f.opening).1 p)

-- ---- a row's results
pub passenger_rows : PassengerRows
unfolding survival_at factor_at
passenger_rows rs j l = record { survival = survivals_at 7 rs j l; exact = factors_at 7 rs j l }
