-- The ends of p and P: between them lies the exact chance, they are at most one apart, and not above one. Assumes nothing.
use Prim.Native.Nat.{ℕ, ◌-◌, ◌≤◌}
use native.Mathlib.Omega.{arith}
use Rattle.laws.specs.Fraction.{Fraction, Is}
use Rattle.laws.proofs.Fraction.{is_whole}
use Rattle.solas.specs.Span.{Touch, neither, one, both, touch, p, PAt, P}
use Rattle.spans.specs.Rounded.{ends_of, Probable, Near}
use Rattle.spans.specs.Span.{p_ends, PEnds}
use Rattle.spans.proofs.Rounded.{Enclosed, ends_enclose, ends_near, ends_probable}
use Rattle.bands.proofs.Bands.{ratio_of_lem}
use Rattle.spans.proofs.Span.{one_end_is, one_end_proper}

-- a chance: not negative, not above one
pub record Proportion (f : Fraction) : Type 0 where
  pub n : ℕ
  pub d : ℕ
  pub some : 1 ≤ d
  pub at_most_one : n ≤ d
  pub is : Is f n 0 d

pub proportion_enclosed : {f : Fraction} → Proportion f → Enclosed (ends_of f) f
proportion_enclosed h = ends_enclose h.some h.is

module _ (L x : ℕ) (some : 1 ≤ L) (short : L ≤ 19800) (within : x ≤ L) where
  pub p_proportion : Proportion (p L x)
  p_proportion = let (r, h) = ratio_of_lem L x some short within in record { n = r.num; d = r.den; some = h.positive; at_most_one = h.at_most_one; is = h.value }

  PAt_proportion : (t : Touch) → Proportion (PAt t L x)
  PAt_proportion neither = p_proportion
  PAt_proportion one =
      let (r, h) = ratio_of_lem L x some short within in
      let q = one_end_proper L x some h within in
      record { n = _; d = _; some = q.positive; at_most_one = q.at_most_one; is = one_end_is L x some h }
  PAt_proportion both = record { n = 1; d = 1; some = omega arith; at_most_one = omega arith; is = is_whole 1 (omega arith) }

  -- ---- p

  pub p_enclosed : Enclosed (p_ends L x) (p L x)
  unfolding p_ends
  p_enclosed = proportion_enclosed p_proportion

  pub p_near : Near 1 (p_ends L x)
  unfolding p_ends
  p_near = ends_near p_proportion.some p_proportion.is

  pub p_probable : Probable (p_ends L x)
  unfolding p_ends
  p_probable = ends_probable p_proportion.some p_proportion.at_most_one p_proportion.is

-- ---- P

module _ (L aft fwd : ℕ) (some : 1 ≤ L) (short : L ≤ 19800) (within : fwd ≤ L) where
  pub P_proportion : Proportion (P L aft fwd)
  unfolding P
  P_proportion = PAt_proportion L (fwd - aft) some short (omega arith) (touch L aft fwd)

  pub P_enclosed : Enclosed (PEnds L aft fwd) (P L aft fwd)
  unfolding PEnds
  P_enclosed = proportion_enclosed P_proportion

  pub P_near : Near 1 (PEnds L aft fwd)
  unfolding PEnds
  P_near = ends_near P_proportion.some P_proportion.is

  pub P_probable : Probable (PEnds L aft fwd)
  unfolding PEnds
  P_probable = ends_probable P_proportion.some P_proportion.at_most_one P_proportion.is
