-- What the numbers of a passenger ship's survival come to: its factors in parts, and the ends of what they are together. Assumes nothing.
use Prim.Native.Nat.{ℕ, ◌-◌, ◌*◌, ◌^◌, ◌≤◌, ◌<◌, min}
use mathlib.Core.Path.{◌≡◌, refl, ap, sym, ◌∙◌}
use native.Mathlib.Nat.{le_of_lt, mul-pos, mul_comm, mul-zero, mul-le-mul, mul-le-mul_right, min-le_left, min-le_right, pow-le-pow_left}
use native.Mathlib.Omega.{arith}
use lib.Dec.{eqb, lit<}
use borrow.Author.Tests.{lt-ltb, le-ltb}
use Rattle.laws.specs.Fraction.{Fraction, whole, Is, ◌≈◌, ◌⊛◌, lesser}
use Rattle.laws.proofs.Fraction.{is_widened, is_written, is_⊛, is_≈, ≈_refl, ≈_trans, ⊛-≈, ≼_trans}
use Rattle.laws.proofs.FractionRing.{⊛_comm}
use Rattle.laws.proofs.Tests.{picked}
use Rattle.records.specs.declared.Finding.{Finding}
use Rattle.records.specs.declared.Flooding.{Flooding}
use Rattle.records.specs.declared.Rounded.{Rounded}
use Rattle.solas.specs.Passengers.{lever_cap, range_cap, final⁴, intermediate⁴}
use Rattle.solas.proofs.Survival.{capped_at_most}
use Rattle.solas.proofs.Passengers.{is_final⁴, is_intermediate⁴, is_s_mom, is_fourth, s_mom_one}
use Rattle.numbers.proofs.Ratios.{ratio_positive}
use Rattle.moments.specs.Held.{Rooted, Held}
use Rattle.moments.proofs.Rooted.{rooted_exactly, top_at_most_one}
use Rattle.moments.proofs.Against.{power_positive}
use Rattle.moments.proofs.Defined.{final_rooted, held_rounded}
use Rattle.results.specs.Parts.{InParts, parts}
use Rattle.results.proofs.Parts.{nothing_parts, parts_below, lesser_parts, rounded_parts, ratio_crossed}
use Rattle.survival.specs.Survival.{root, ends, fourth_power, scaled_of, rounded_of}
use Rattle.survival.specs.Passengers.{int_of, final_of, mom_of}
use Rattle.survival.proofs.Factors.{same_rounded}
use Rattle.survival.proofs.Bounds.{proper}
use Rattle.survival.specs.Worse.{LesserEnds}
use Rattle.survival.proofs.Worse.{lesser_has_lesser_ends, bottom_rises, top_rises}
use Rattle.survival.proofs.Portions.{one_times, product_below_first, fourth_power_sensible, fourth_power_one}
use Rattle.survival.proofs.Passengers.{int_sensible, final_sensible, mom_sensible, held_sensible}
use Rattle.passengers.specs.declared.Caps.{Caps}
use Rattle.passengers.specs.Numbers.{caps_of, fourth_in}

-- ---- what the ro-ro mark decides
pub record Suits (roro : ℕ) (c : Caps) : Type 0 where
  pub lever : c.lever ≡ lever_cap roro
  pub range : c.range ≡ range_cap roro
  pub lever_small : c.lever ≤ 200
  pub range_small : c.range ≤ 2000
  pub some : 0 < c.below
  pub small : c.below ≤ 25600000
  -- what s-final⁴ is divided by, and how many parts that makes one
  pub divided : c.below * 10 ^ 4 ≡ c.lever * c.range * 800 ^ 2
  pub all : c.parts * (c.below * 10 ^ 4) ≡ 168 * 10 ^ 16

pub caps_suit : (roro : ℕ) → Suits roro (caps_of roro)
unfolding caps_of
caps_suit roro =
    picked (Suits roro) (eqb roro 1) _ _
    (λ e. record { lever = rw e refl; range = rw e refl; lever_small = omega arith; range_small = omega arith; some = lit< tt; small = omega arith; divided = refl; all = refl })
    (λ e. record { lever = rw e refl; range = rw e refl; lever_small = omega arith; range_small = omega arith; some = lit< tt; small = omega arith; divided = refl; all = refl })

-- ---- the final stage, by its numbers
module _ {roro : ℕ} {c : Caps} (h : Suits roro c) (g t e : ℕ) where
  final_is : Is (final⁴ roro g t e) (fourth_in c g t e) 0 (c.below * 10 ^ 4)
  final_is = is_written (is_final⁴ roro g t e) (rw (h.lever, h.range) refl) refl (rw (h.divided, h.lever, h.range) refl)

  pub fourth_at_most : fourth_in c g t e ≤ c.below * 10 ^ 4
  fourth_at_most = rw h.divided (capped_at_most g c.lever t c.range (pow-le-pow_left (min-le_left 800 (1500 - e)) 2))

  pub final_parts : InParts (final⁴ roro g t e) (fourth_in c g t e * c.parts)
  final_parts =
      record {
        is = is_written (is_widened c.parts final_is) (mul_comm c.parts (fourth_in c g t e)) (mul-zero c.parts) h.all;
        at_most_one = omega (arith, h.all, mul-le-mul_right c.parts fourth_at_most);
      }

-- ---- an intermediate stage
module _ (g t e : ℕ) where
  pub stage_lost : 1500 < e → InParts (intermediate⁴ g t e) 0
  unfolding intermediate⁴
  stage_lost l = rw (lt-ltb 1500 e l) nothing_parts

  pub stage_parts : e ≤ 1500 → InParts (intermediate⁴ g t e) (min g 50 * min t 700 * 48000000000000)
  stage_parts l =
      let caps = mul-le-mul (min-le_right g 50) (min-le_right t 700) in
      record { is = is_written (is_widened 48000000000000 (rw (le-ltb 1500 e l) at (is_intermediate⁴ g t e))) (omega arith) refl refl; at_most_one = omega (arith, caps) }

-- ---- both, with the moments
module _ (f : Finding) (w : Flooding) {c : Caps} (h : Suits w.roro c) (some : 1 ≤ w.moment) where
  abbrev fourth : ℕ
  fourth = fourth_in c f.lever f.range f.heel

  abbrev righting : ℕ
  righting = (f.lever - 40) * w.displacement

  abbrev held : Fraction
  held = final_of f w ⊛ fourth_power (mom_of f w)

  last_parts : InParts (final_of f w) (fourth * c.parts)
  last_parts = final_parts h f.lever f.range f.heel

  -- borne in full: s-final alone is left
  borne : 1000 * w.moment ≤ righting → held ≈ final_of f w
  borne l =
      let one = (fourth_power_one (mom_sensible f w some)).1 ((s_mom_one f.lever w.displacement some).1 l) in
      ≈_trans (⊛-≈ (≈_refl (final_of f w)) one) (≈_trans (⊛_comm (final_of f w) (whole 1)) (one_times (final_of f w)))

  pub borne_ends : {n : ℕ} → 1000 * w.moment ≤ righting → InParts (int_of w) n → rounded_of (parts (min n (fourth * c.parts))) ≡ ends (root (lesser (int_of w) held))
  borne_ends l k = rounded_parts (lesser_parts k (record { is = is_≈ (borne l) last_parts.is; at_most_one = last_parts.at_most_one }))

  -- not borne in full: s-final is rounded, and held down
  module _ (l : righting < 1000 * w.moment) where
    pub held_asked : w.moment ≤ 2000000 → {r : Rounded} → r ≡ rounded_of (parts (fourth * c.parts)) → Held r (record { fourth = fourth; caps = c.below; righting = righting; heeling = w.moment })
    unfolding rounded_of scaled_of
    held_asked m e =
        let p = last_parts.at_most_one in
        rw e (record {
          rooted = final_rooted fourth h.some (lit< tt) p (omega (arith, ap (λ x. fourth * x) h.all));
          at_most_one = top_at_most_one (fourth * c.parts) (lit< tt) p;
          caps_positive = h.some;
          caps_small = h.small;
          heeling_positive = some;
          heeling_small = m;
          moment_at_most_one = le_of_lt l;
        })

    held_is : Is held (fourth * righting ^ 4) 0 (c.below * 10 ^ 4 * (1000 * w.moment) ^ 4)
    held_is =
        let n : min righting (1000 * w.moment) ≡ righting = omega arith in
        is_written (is_⊛ (final_is h f.lever f.range f.heel) (is_fourth (rw n at (is_s_mom f.lever w.displacement some)))) (omega arith) (omega arith) refl

    held_ends : {bottom top : ℕ} → Rooted (fourth * righting ^ 4) (c.below * w.moment ^ 4) bottom top → ◌≡◌ {A = Rounded} (record { bottom = bottom; top = top }) (ends (root held))
    unfolding rounded_of scaled_of
    held_ends r =
        let s = held_sensible f w some in
        let e = held_rounded fourth h.some (ratio_positive held) (proper s) righting some (ratio_crossed s.0 held_is) r in
        same_rounded e.0 e.1

    -- not borne at all
    pub none_rooted : righting ≡ 0 → Rooted (fourth * righting ^ 4) (c.below * w.moment ^ 4) 0 0
    none_rooted e = rw e (rooted_exactly 0 (mul-pos h.some (power_positive some)) (omega arith) (omega arith))

    module _ {bottom top : ℕ} (r : Rooted (fourth * righting ^ 4) (c.below * w.moment ^ 4) bottom top) where
      both : LesserEnds (int_of w) held
      both = lesser_has_lesser_ends (int_of w) held (int_sensible f w) (held_sensible f w some)

      abbrev low : bottom ≡ (ends (root held)).bottom
      low = ap (λ r. r.bottom) (held_ends r)

      abbrev high : top ≡ (ends (root held)).top
      high = ap (λ r. r.top) (held_ends r)

      -- the intermediate stage is no worse than the final one, and so than that held down
      pub final_counts : {n : ℕ} → InParts (int_of w) n → fourth * c.parts ≤ n → ◌≡◌ {A = Rounded} (record { bottom = bottom; top = top }) (ends (root (lesser (int_of w) held)))
      final_counts k m =
          let below = ≼_trans (product_below_first (final_sensible f w) (fourth_power_sensible (mom_sensible f w some))) (parts_below last_parts k m) in
          let p = held_sensible f w some in
          let q = int_sensible f w in
          same_rounded (omega (arith, low, both.bottom, bottom_rises p q below)) (omega (arith, high, both.top, top_rises p q below))

      -- nothing is the lesser of whatever and nothing
      pub nothing_counts : bottom ≡ 0 → top ≡ 0 → ◌≡◌ {A = Rounded} (record { bottom = 0; top = 0 }) (ends (root (lesser (int_of w) held)))
      nothing_counts p q = same_rounded (omega (arith, low, both.bottom, p)) (omega (arith, high, both.top, q))

      pub lesser_counts : {n a b : ℕ} {s : Rounded} → InParts (int_of w) n → s ≡ rounded_of (parts n) → a ≡ min s.bottom bottom → b ≡ min s.top top →
          ◌≡◌ {A = Rounded} (record { bottom = a; top = b }) (ends (root (lesser (int_of w) held)))
      lesser_counts {s = s} k e p q =
          let there : s ≡ ends (root (int_of w)) = e ∙ rounded_parts k in
          same_rounded (rw (p, there, low) (sym both.bottom)) (rw (q, there, high) (sym both.top))
