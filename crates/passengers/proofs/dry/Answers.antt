-- `passengers::dry` meets its contract: no product wraps, and whichever way the ends are found they are those of the lesser. Assumes nothing.
use Prim.Native.Nat.{ℕ, ◌-◌, ◌*◌, ◌^◌, ◌≤◌, ◌<◌, min}
use mathlib.Core.Path.{◌≡◌, refl, ◌∙◌}
use native.Mathlib.Omega.{arith}
use Rattle.laws.specs.Fraction.{lesser, ◌⊛◌}
use Rattle.records.specs.declared.Finding.{Finding}
use Rattle.records.specs.declared.Flooding.{Flooding}
use Rattle.records.specs.declared.Rounded.{Rounded}
use Rattle.moments.specs.Held.{Rooted, Held}
use Rattle.results.specs.Parts.{InParts, parts}
use Rattle.survival.specs.Survival.{root, ends, fourth_power, rounded_of, Loaded}
use Rattle.survival.specs.Passengers.{int_of, final_of, mom_of}
use Rattle.survival.proofs.Factors.{same_rounded}
use Rattle.passengers.specs.declared.Caps.{Caps}
use Rattle.passengers.specs.Numbers.{caps_of, fourth_in}
use Rattle.passengers.proofs.Numbers.{Suits, caps_suit, final_parts, borne_ends, none_rooted, nothing_counts, held_asked, final_counts, lesser_counts}
use Rattle.passengers.proofs.dry.Goals as goal

module _ (f : Finding) (w : Flooding) {caps : Caps} (asked : Loaded f w × (caps ≡ caps_of w.roro)) where
  suits : Suits w.roro caps
  suits = rw asked.1 (caps_suit w.roro)

  last_fits : {fourth : ℕ} → fourth ≡ fourth_in caps f.lever f.range f.heel → fourth * caps.parts ≤ 168 * 10 ^ 16
  last_fits j = rw j (final_parts suits f.lever f.range f.heel).at_most_one

-- and what is made of them
module _ (f : Finding) (w : Flooding) {caps : Caps} (asked : Loaded f w × (caps ≡ caps_of w.roro)) {stage fourth lever : ℕ}
    (i : InParts (int_of w) stage) (j : fourth ≡ fourth_in caps f.lever f.range f.heel) (k : lever ≡ f.lever - 40) where
  abbrev Answers : Rounded → Type 0
  Answers r = r ≡ ends (root (lesser (int_of w) (final_of f w ⊛ fourth_power (mom_of f w))))

  fits : Suits w.roro caps
  fits = suits f w asked

  borne : {n : ℕ} {r : Rounded} → 1000 * w.moment ≤ lever * w.displacement → n ≡ min stage (fourth * caps.parts) → r ≡ rounded_of (parts n) → Answers r
  borne l e s = s ∙ rw (e, j) (borne_ends f w fits asked.0.some (rw k at l) i)

  module _ (l : lever * w.displacement < 1000 * w.moment) where
    less : (f.lever - 40) * w.displacement < 1000 * w.moment
    less = rw k at l

    nothing : lever * w.displacement ≡ 0 → Answers (record { bottom = 0; top = 0 })
    nothing z =
        let some = asked.0.some in
        nothing_counts f w fits some less (none_rooted f w fits some less (rw k at z)) refl refl

    asks : {r : Rounded} → r ≡ rounded_of (parts (fourth * caps.parts)) → Held r (record { fourth = fourth; caps = caps.below; righting = lever * w.displacement; heeling = w.moment })
    asks e = rw (j, k) (held_asked f w fits asked.0.some less asked.0.moment (rw j at e))

    module _ {bottom top : ℕ} (r : Rooted (fourth * (lever * w.displacement) ^ 4) (caps.below * w.moment ^ 4) bottom top) where
      final : fourth * caps.parts ≤ stage → Answers (record { bottom = bottom; top = top })
      final m = final_counts f w fits asked.0.some less (rw (j, k) at r) i (rw j at m)

      either : {a b : ℕ} {s : Rounded} → s ≡ rounded_of (parts stage) → a ≡ min s.bottom bottom → b ≡ min s.top top → Answers (record { bottom = a; top = b })
      either e p q = lesser_counts f w fits asked.0.some less (rw (j, k) at r) i e p q

pub fourth-fourth-requires : goal.fourth-fourth-requires
fourth-fourth-requires c = let s = caps_suit c.args.w.roro in rw c.requires.1 (s.lever_small, s.range_small)

pub overflow_mul-last : goal.overflow_mul-last
overflow_mul-last c =
    omega (arith, last_fits c.args.f c.args.w c.requires c.fourth-fourth.ensures)

pub returns-then-w-righting : goal.returns-then-w-righting
returns-then-w-righting c =
    borne c.args.f c.args.w c.requires c.intermediate-stage.ensures c.fourth-fourth.ensures c.saturating_sub.ensures c.if-w-righting.true c.min.ensures c.rounded.ensures

pub returns-then-righting-eq0 : goal.returns-then-righting-eq0
returns-then-righting-eq0 c =
    let d = c.default.ensures in
    same_rounded d.0 d.1 ∙ nothing c.args.f c.args.w c.requires c.intermediate-stage.ensures c.fourth-fourth.ensures c.saturating_sub.ensures c.if-w-righting.false c.if-righting-eq0.true

pub rounded-requires-2 : goal.rounded-requires-2
rounded-requires-2 c =
    last_fits c.args.f c.args.w c.requires c.fourth-fourth.ensures

pub held_down-held-requires : goal.held_down-held-requires
held_down-held-requires c =
    asks c.args.f c.args.w c.requires c.intermediate-stage.ensures c.fourth-fourth.ensures c.saturating_sub.ensures c.if-w-righting.false c.rounded-2.ensures

pub returns-then-last-stage : goal.returns-then-last-stage
returns-then-last-stage c =
    final c.args.f c.args.w c.requires c.intermediate-stage.ensures c.fourth-fourth.ensures c.saturating_sub.ensures c.if-w-righting.false c.held_down-held.ensures c.if-last-stage.true

pub returns : goal.returns
returns c =
    either c.args.f c.args.w c.requires c.intermediate-stage.ensures c.fourth-fourth.ensures c.saturating_sub.ensures c.if-w-righting.false c.held_down-held.ensures c.rounded-other.ensures c.min-2.ensures c.min-3.ensures
