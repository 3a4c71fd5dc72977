-- What the marks tell: caps kept, s⁴ of one, a bottom of one and a top of one are one thing, and no mark says it. Assumes nothing.
use Prim.Native.Nat.{ℕ, ◌-◌, ◌*◌, ◌^◌, ◌≤◌, min}
use mathlib.Core.Bool.{Bool, true, false}
use mathlib.Core.Logic.{◌↔◌}
use mathlib.Core.Path.{◌≡◌, refl, ap, sym, ◌∙◌}
use native.Mathlib.Nat.{mul-le-mul, pow-le-pow_left}
use native.Mathlib.Omega.{arith}
use lib.Dec.{lit<}
use lib.IntN.{ℤ, pos}
use lib.Signed.{◌≤ℤ◌}
use borrow.Author.Tests.{ltb-true, ltb-false, lt-ltb, le-ltb}
use Rattle.laws.specs.Fraction.{whole, ◌≈◌}
use Rattle.laws.proofs.Choice.{split}
use Rattle.laws.proofs.Tests.{told}
use Rattle.laws.proofs.Fraction.{is_one, is_whole, same, below_across, ≈_refl, ≈_sym, ≼_of_≈}
use Rattle.laws.proofs.FractionCompare.{across_below, is_times}
use Rattle.records.specs.declared.Finding.{Finding}
use Rattle.records.specs.declared.Marks.{Marks}
use Rattle.solas.specs.Survival.{s⁴, immersed}
use Rattle.solas.proofs.Survival.{is_s⁴, s⁴_not_negative, s⁴_at_most_one, immersed_below, dry_not_below, lost_if_immersed, kept_if_dry}
use Rattle.survival.specs.Marks.{found_marks, unmarked}
use Rattle.survival.specs.Survival.{Factor, root, ends, fourth_of, Sensible, survival_of}
use Rattle.survival.specs.Telling.{Found, IsOne, with_lever, with_range, with_heel, with_opening, EachMarkItsOwn, OneExactlyWhenUnmarked, OneMarkAlone, OthersStillHold, OpeningDecides, GivenIsUnmarked}
-- checked first, so that a definition that gives another number is refused there
use Rattle.survival.proofs.Values.{edges, nearly, one}
use Rattle.survival.proofs.Factors.{as_given, as_found, as_lost, as_dry}
use Rattle.survival.proofs.Bounds.{top_is, ends_same, ends_ordered, ends_at_most}

-- lever, range and heel keep their caps
record Kept (g t e : ℕ) : Type 0 where
  lever : 120 ≤ g
  range : 1600 ≤ t
  heel : e ≤ 2500

-- ---- of any lever g, range t and heel e
module _ (g t e : ℕ) where
  abbrev s : Factor
  s = root (s⁴ g t e)

  sensible : Sensible s
  sensible = (s⁴_not_negative g t e, s⁴_at_most_one g t e)

  kept_exact : Kept g t e → s⁴ g t e ≈ whole 1
  kept_exact h =
      let a : min g 120 ≡ 120 = omega (arith, h.lever) in
      let b : min t 1600 ≡ 1600 = omega (arith, h.range) in
      let c : min 500 (3000 - e) ≡ 500 = omega (arith, h.heel) in
      same (lit< tt) (rw (a, b, c) at (is_s⁴ g t e)) (is_one (lit< tt))

  exact_ends : s⁴ g t e ≈ whole 1 → ((ends s).bottom ≡ 10 ^ 4) × ((ends s).top ≡ 10 ^ 4)
  exact_ends h = let q = ends_same h sensible ∙ one in (ap (λ r. r.bottom) q, ap (λ r. r.top) q)

  bottom_top : (ends s).bottom ≡ 10 ^ 4 → (ends s).top ≡ 10 ^ 4
  bottom_top h = omega (arith, ends_ordered s sensible, ends_at_most s sensible)

  -- short of a cap, s⁴ is at most 1599/1600, and its root rounded up 9,999
  short : min g 120 * min t 1600 * min 500 (3000 - e) ^ 2 ≤ 120 * 1599 * 500 ^ 2 → (ends s).top ≤ 9999
  short h = (top_is sensible).least 9999 (below_across (is_times (10 ^ 16) (is_s⁴ g t e)) (is_whole (9999 ^ 4) {d = 1} (lit< tt)) (lit< tt) (lit< tt) (omega (arith, h)))

  factors : {a b c : ℕ} → min g 120 ≤ a → min t 1600 ≤ b → min 500 (3000 - e) ≤ c → min g 120 * min t 1600 * min 500 (3000 - e) ^ 2 ≤ a * b * c ^ 2
  factors p q r = mul-le-mul (mul-le-mul p q) (pow-le-pow_left r 2)

  top_kept : (ends s).top ≡ 10 ^ 4 → Kept g t e
  top_kept h =
      let below_cap : min g 120 * min t 1600 * min 500 (3000 - e) ^ 2 ≤ 120 * 1599 * 500 ^ 2 → ⊥ = λ l. omega (arith, short l) in
      split 120 g
      (λ p. split 1600 t
      (λ q. split e 2500 (λ r. record { lever = p; range = q; heel = r })
      (λ r. absurd (below_cap (omega (arith, factors {a = 120} {b = 1600} {c = 499} (omega arith) (omega arith) (omega arith))))))
      (λ q. absurd (below_cap (factors {a = 120} {b = 1599} {c = 500} (omega arith) (omega arith) (omega arith)))))
      (λ p. absurd (below_cap (omega (arith, factors {a = 119} {b = 1600} {c = 500} (omega arith) (omega arith) (omega arith)))))

-- nothing is not one
zero_not_one : whole 0 ≈ whole 1 → ⊥
zero_not_one h = omega (arith, across_below (is_whole 1 {d = 1} (lit< tt)) (is_whole 0 {d = 1} (lit< tt)) (≼_of_≈ (≈_sym h)))

-- dry openings have the same marks, wherever they are
same_marks : (f : Finding) (o : ℤ) → immersed f.opening ≡ false → immersed o ≡ false →
    found_marks f.lever f.range f.heel o ≡ found_marks f.lever f.range f.heel f.opening
unfolding found_marks
same_marks f o h k = rw (h, k) refl

-- ---- of a survival that was found
module _ (kind : ℕ) (f : Finding) (n : Found kind) where
  -- the caps are kept, and the opening is dry
  record KeptDry : Type 0 where
    caps : Kept f.lever f.range f.heel
    dry : immersed f.opening ≡ false

  lever_kept : ((survival_of kind f).marks.lever ≡ false) ↔ (120 ≤ f.lever)
  unfolding found_marks
  lever_kept = rw (as_found kind f n.0) (ltb-false f.lever 120, le-ltb f.lever 120)

  range_kept : ((survival_of kind f).marks.range ≡ false) ↔ (1600 ≤ f.range)
  unfolding found_marks
  range_kept = rw (as_found kind f n.0) (ltb-false f.range 1600, le-ltb f.range 1600)

  heel_kept : ((survival_of kind f).marks.heel ≡ false) ↔ (f.heel ≤ 2500)
  unfolding found_marks
  heel_kept = rw (as_found kind f n.0) (ltb-false 2500 f.heel, le-ltb 2500 f.heel)

  -- the opening's mark is whether it is immersed
  opening_marked : (survival_of kind f).marks.opening ≡ immersed f.opening
  unfolding found_marks
  opening_marked = ap (λ s. s.marks.opening) (as_found kind f n.0)

  unmarked_kept : ((survival_of kind f).marks ≡ unmarked) ↔ KeptDry
  unmarked_kept = (
    λ m. record {
      caps = record { lever = lever_kept.0 (ap (λ m. m.lever) m); range = range_kept.0 (ap (λ m. m.range) m); heel = heel_kept.0 (ap (λ m. m.heel) m) };
      dry = sym opening_marked ∙ ap (λ m. m.opening) m;
    },
    λ h. none (lever_kept.1 h.caps.lever) (range_kept.1 h.caps.range) (heel_kept.1 h.caps.heel) (opening_marked ∙ h.dry),
  )
    where
      none : {a b c d : Bool} → a ≡ false → b ≡ false → c ≡ false → d ≡ false → ◌≡◌ {A = Marks} (record { lever = a; range = b; heel = c; opening = d }) unmarked
      none p q r s = cc

  kept_one : KeptDry → IsOne (survival_of kind f)
  kept_one h = rw (as_dry kind f n.0 h.dry) (exact_ends f.lever f.range f.heel (kept_exact f.lever f.range f.heel h.caps))

  -- where something is not zero that an immersed opening makes zero, the opening is dry
  dry_by : {A : Type 0} → (immersed f.opening ≡ true → ⊥) → (immersed f.opening ≡ false → A) → A
  dry_by lost dry = told (immersed f.opening) (λ e. absurd (lost e)) dry

  one_kept : (survival_of kind f).top ≡ 10 ^ 4 → KeptDry
  one_kept h =
      dry_by (λ i. omega (arith, rw (as_lost kind f n.0 i) at h))
      (λ d. record { caps = top_kept f.lever f.range f.heel (rw (as_dry kind f n.0 d) at h); dry = d })

  one_both : (survival_of kind f).bottom ≡ 10 ^ 4 → (survival_of kind f).top ≡ 10 ^ 4
  one_both h =
      dry_by (λ i. omega (arith, rw (as_lost kind f n.0 i) at h))
      (λ d. rw (as_dry kind f n.0 d) (bottom_top f.lever f.range f.heel (rw (as_dry kind f n.0 d) at h)))

  exact_kept : (fourth_of f ≈ whole 1) ↔ KeptDry
  exact_kept = (
    λ h. dry_by (λ i. zero_not_one (rw (lost_if_immersed f.opening _ i) at h))
        (λ d. record { caps = top_kept f.lever f.range f.heel (exact_ends f.lever f.range f.heel (rw (kept_if_dry f.opening _ d) at h)).1; dry = d }),
    λ h. rw (kept_if_dry f.opening (s⁴ f.lever f.range f.heel) h.dry) (kept_exact f.lever f.range f.heel h.caps),
  )

pub one_exactly_when_unmarked : OneExactlyWhenUnmarked
one_exactly_when_unmarked =
    record {
      bottom = λ kind f n. (λ h. (unmarked_kept kind f n).1 (one_kept kind f n (one_both kind f n h)), λ m. (kept_one kind f n ((unmarked_kept kind f n).0 m)).0);
      top = λ kind f n. (λ h. (unmarked_kept kind f n).1 (one_kept kind f n h), λ m. (kept_one kind f n ((unmarked_kept kind f n).0 m)).1);
      exact = λ kind f n. (λ h. (unmarked_kept kind f n).1 ((exact_kept kind f n).0 h), λ m. (exact_kept kind f n).1 ((unmarked_kept kind f n).0 m));
    }

-- ---- each mark by itself
pub each_mark_its_own : EachMarkItsOwn
unfolding found_marks
each_mark_its_own =
    record {
      lever = λ kind f n. rw (as_found kind f n.0) (ltb-true f.lever 120, lt-ltb f.lever 120);
      range = λ kind f n. rw (as_found kind f n.0) (ltb-true f.range 1600, lt-ltb f.range 1600);
      heel = λ kind f n. rw (as_found kind f n.0) (ltb-true 2500 f.heel, lt-ltb 2500 f.heel);
      opening = λ kind f n. rw (as_found kind f n.0) (immersed_below f.opening);
    }

-- ---- with another lever, range, heel or opening
pub one_mark_alone : OneMarkAlone
one_mark_alone =
    record {
      lever = λ kind f n m g. (
        λ h. (one_kept kind (with_lever g f) n h.1).caps.lever,
        λ p. kept_one kind (with_lever g f) n (record { caps = record { lever = p; range = (range_kept kind f n).0 (ap (λ m. m.range) m); heel = (heel_kept kind f n).0 (ap (λ m. m.heel) m) }; dry = dry_in kind f n m }),
      );
      range = λ kind f n m t. (
        λ h. (one_kept kind (with_range t f) n h.1).caps.range,
        λ p. kept_one kind (with_range t f) n (record { caps = record { lever = (lever_kept kind f n).0 (ap (λ m. m.lever) m); range = p; heel = (heel_kept kind f n).0 (ap (λ m. m.heel) m) }; dry = dry_in kind f n m }),
      );
      heel = λ kind f n m e. (
        λ h. (one_kept kind (with_heel e f) n h.1).caps.heel,
        λ p. kept_one kind (with_heel e f) n (record { caps = record { lever = (lever_kept kind f n).0 (ap (λ m. m.lever) m); range = (range_kept kind f n).0 (ap (λ m. m.range) m); heel = p }; dry = dry_in kind f n m }),
      );
      opening = λ kind f n m o. (
        λ h. (dry_not_below o).0 (one_kept kind (with_opening o f) n h.1).dry,
        λ p. kept_one kind (with_opening o f) n (record { caps = record { lever = (lever_kept kind f n).0 (ap (λ m. m.lever) m); range = (range_kept kind f n).0 (ap (λ m. m.range) m); heel = (heel_kept kind f n).0 (ap (λ m. m.heel) m) }; dry = (dry_not_below o).1 p }),
      );
    }
  where
    dry_in : (kind : ℕ) (f : Finding) (n : Found kind) {l r h : Bool} → (survival_of kind f).marks ≡ record { lever = l; range = r; heel = h; opening = false } → immersed f.opening ≡ false
    dry_in kind f n m = sym (opening_marked kind f n) ∙ ap (λ m. m.opening) m

pub others_still_hold : OthersStillHold
others_still_hold =
    record {
      lever = λ kind f n g h. let k = one_kept kind (with_lever g f) n h in ((range_kept kind f n).1 k.caps.range, (heel_kept kind f n).1 k.caps.heel, opening_marked kind f n ∙ k.dry);
      range = λ kind f n t h. let k = one_kept kind (with_range t f) n h in ((lever_kept kind f n).1 k.caps.lever, (heel_kept kind f n).1 k.caps.heel, opening_marked kind f n ∙ k.dry);
      heel = λ kind f n e h. let k = one_kept kind (with_heel e f) n h in ((lever_kept kind f n).1 k.caps.lever, (range_kept kind f n).1 k.caps.range, opening_marked kind f n ∙ k.dry);
      opening = λ kind f n o h. let k = one_kept kind (with_opening o f) n h in ((lever_kept kind f n).1 k.caps.lever, (range_kept kind f n).1 k.caps.range, (heel_kept kind f n).1 k.caps.heel);
    }

-- ---- an immersed opening, and dry ones
pub opening_decides : OpeningDecides
opening_decides =
    record {
      lost = λ kind f n l.
          let i = (immersed_below f.opening).1 l in
          let s = as_lost kind f n.0 i in
          (ap (λ s. s.bottom) s, ap (λ s. s.top) s, rw (lost_if_immersed f.opening (s⁴ f.lever f.range f.heel) i) (≈_refl (whole 0)));
      dry = λ kind f o n p q.
          let here = (dry_not_below f.opening).1 p in
          let there = (dry_not_below o).1 q in
          let s = s⁴ f.lever f.range f.heel in
          (as_dry kind (with_opening o f) n.0 there ∙ rw (same_marks f o here there) (sym (as_dry kind f n.0 here)), rw (kept_if_dry f.opening s here) (≈_refl s));
    }

pub given_is_unmarked : GivenIsUnmarked
given_is_unmarked f = as_given 3 f refl
