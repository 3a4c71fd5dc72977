-- The regulation's R, partial mark, dp and A are document 01's. Assumes nothing.
use Prim.Native.Nat.{ℕ, ◌+◌, ◌*◌, ◌≤◌, ◌<◌}
use mathlib.Core.List.{[], ◌∷◌}
use native.Mathlib.Omega.{arith}
use lib.Dec.{lit<}
use Rattle.laws.specs.Fraction.{◌over◌, Is, ◌≈◌}
use Rattle.laws.specs.Polynomial.{X, C, ◌:+◌, ◌:*◌}
use Rattle.laws.proofs.Choice.{split}
use Rattle.laws.proofs.Fraction.{is_over, is_widened, is_⊹, is_⊝, is_⊛, same, equal_across, below_across, strictly_below_across, ≈_trans, ⊛-≈}
use Rattle.laws.proofs.FractionTerm.{Term, number, ratio, parts, first, second, third, ◌⊹ᵗ◌, ◌⊝ᵗ◌, ◌⊛ᵗ◌, also, agree, quotient, quotient_by}
use Rattle.laws.proofs.FractionRing.{⊛_comm}
use Rattle.laws.proofs.FractionOrder.{test_passes, test_fails}
use Rattle.solas.specs.Index.{attained, dp, partial_mark}
use Rattle.solas.proofs.Height.{dp_whole}
use Rattle.solas.proofs.Required.{is_R_long, is_R_short}
use Rattle.regulation.specs.RegulationIndex as regulation
use Rattle.regulation.specs.RegulationIndex.{centimetres}
use Rattle.regulation.specs.OfSolasIndex.{DraughtIs01's, AttainedIs01's, RequiredIs01's, PartialMarkIs01's}
use Rattle.regulation.proofs.Units.{is_millimetres, is_centimetres}

-- ---- 003, 10.1
module _ (L : ℕ) where
  abbrev Lᵗ : Term (L ∷ []) (centimetres L)
  Lᵗ = ratio (X 0) (C 100) (lit< tt) (is_centimetres L)

  is_R₀ : Is (regulation.R₀ (centimetres L)) (L + 2400) 0 (L + 15200)
  unfolding regulation.R₀
  is_R₀ = also (number 1 1 tt ⊝ᵗ quotient (number 128 1 tt) (Lᵗ ⊹ᵗ number 152 1 tt) (X 0 :+ C 15200) (C 100) (omega arith) tt) (X 0 :+ C 2400) (C 0) (X 0 :+ C 15200) tt

  abbrev R₀ᵗ : Term (L ∷ []) (regulation.R₀ (centimetres L))
  R₀ᵗ = ratio (X 0 :+ C 2400) (X 0 :+ C 15200) (omega arith) is_R₀

  is_R_up_to_100 : L ≤ 10000 → Is (regulation.R (centimetres L)) (L * (L + 2400)) 0 (L * (L + 2400) + 128000000)
  unfolding regulation.R
  is_R_up_to_100 p =
      let odds = quotient_by Lᵗ (number 100 1 tt) 100 1 tt tt ⊛ᵗ quotient R₀ᵗ (number 1 1 tt ⊝ᵗ R₀ᵗ) (C 12800) (X 0 :+ C 15200) (lit< tt) tt in
      let d = X 0 :* (X 0 :+ C 2400) :+ C 128000000 in
      rw (test_passes (below_across (is_centimetres L) (is_over 100 {d = 1} (lit< tt)) (lit< tt) (lit< tt) (omega arith)))
      (also (number 1 1 tt ⊝ᵗ quotient (number 1 1 tt) (number 1 1 tt ⊹ᵗ odds) d (C 128000000) (omega arith) tt) (X 0 :* (X 0 :+ C 2400)) (C 0) d tt)

  is_R_above_100 : 10000 < L → Is (regulation.R (centimetres L)) (L + 2400) 0 (L + 15200)
  unfolding regulation.R
  is_R_above_100 p = rw (test_fails (strictly_below_across (is_over 100 {d = 1} (lit< tt)) (is_centimetres L) (omega arith))) is_R₀

pub required_is_01's : RequiredIs01's
required_is_01's L = split L 10000 (λ p. same (omega arith) (is_R_up_to_100 L p) (is_R_short p)) (λ p. same (omega arith) (is_R_above_100 L p) (is_R_long p))

-- 0.5 R
pub partial_mark_is_01's : PartialMarkIs01's
unfolding partial_mark regulation.partial_mark
partial_mark_is_01's L =
    let half : 5 over 10 ≈ 1 over 2 = agree {ρ = []} (number 5 10 tt) (number 1 2 tt) tt in
    ≈_trans (⊛_comm (5 over 10) (regulation.R (centimetres L))) (⊛-≈ (required_is_01's L) half)

-- ---- 003, 4.1
pub draught_is_01's : DraughtIs01's
unfolding regulation.dp
draught_is_01's ds dl p q =
    let light = is_millimetres dl in
    let rise = is_⊛ (is_over 60 (lit< tt)) (is_⊝ (is_millimetres ds) light) in
    equal_across (is_⊹ (is_widened 100 light) rise) (is_millimetres (dp ds dl)) (lit< tt) (lit< tt) (omega (arith, dp_whole ds dl q))

-- ---- 002, 2.5.1
pub attained_is_01's : AttainedIs01's
unfolding attained regulation.A
attained_is_01's As Ap Al =
    agree {ρ = parts (As ∷ Ap ∷ Al ∷ [])} (number 4 10 tt ⊛ᵗ first ⊹ᵗ number 4 10 tt ⊛ᵗ second ⊹ᵗ number 2 10 tt ⊛ᵗ third)
    ((number 2 1 tt ⊛ᵗ first ⊹ᵗ number 2 1 tt ⊛ᵗ second ⊹ᵗ third) ⊛ᵗ number 1 5 tt) tt
