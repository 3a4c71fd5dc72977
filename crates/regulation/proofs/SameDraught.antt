-- The regulation's sums are the same at draughts that are equal fractions, in whatever words: as dp is by its own formula and in millimetres.
-- Assumes nothing.
use mathlib.Core.Path.{◌≡◌, refl}
use mathlib.Core.List.{List, [], ◌∷◌}
use lib.Dec.{lit<}
use Rattle.laws.specs.Fraction.{Fraction, ◌less◌over◌, ◌over◌, whole, ◌≈◌, ◌≺◌, ◌≼?◌, ◌⊝◌, total}
use Rattle.laws.proofs.Fraction.{≈_refl, ⊹-≈, ⊝-≈, ⊛-≈}
use Rattle.laws.proofs.FractionOrder.{⊘-≈}
use Rattle.laws.proofs.FractionCompare.{test_same, cond_≈}
use Rattle.regulation.specs.RegulationIndex.{v, Boundary, none, at, uppermost, counted, v_of, held, vm}
use Rattle.regulation.specs.RegulationSums.{BoundarySmin, Flooding, plain, in_brackets, si, d_A, partial_A}

held_same : {f g : Fraction} → f ≈ g → held f ≈ held g
unfolding held
held_same {f} {g} e =
    rw (test_same e (≈_refl (whole 0)), test_same e (≈_refl (whole 1)))
    (cond_≈ (g ≼? whole 0) (≈_refl (whole 0)) (cond_≈ (g ≼? whole 1) e (≈_refl (whole 1))))

above_0 : (whole 0 ≺ 78 over 10) × (whole 0 ≺ 47 over 10)
unfolding ◌less◌over◌
above_0 = (record { cross = lit< tt }, record { cross = lit< tt })

module _ {d d' : Fraction} (e : d ≈ d') where
  v_same : (H : Fraction) → v H d ≈ v H d'
  unfolding v
  v_same H =
      let k : H ⊝ d ≈ H ⊝ d' = ⊝-≈ (≈_refl H) e in
      let low = ⊛-≈ (≈_refl (8 over 10)) (⊘-≈ above_0.0 k (≈_refl (78 over 10))) in
      let high = ⊹-≈ (≈_refl (8 over 10)) (⊛-≈ (≈_refl (2 over 10)) (⊘-≈ above_0.1 (⊝-≈ k (≈_refl (78 over 10))) (≈_refl (47 over 10)))) in
      rw (test_same k (≈_refl (78 over 10))) (cond_≈ (H ⊝ d' ≼? 78 over 10) low high)

  counted_same : (H : Fraction) → counted H d ≡ counted H d'
  unfolding counted
  counted_same H = rw (test_same (≈_refl H) e) refl

  v_of_same : (b : Boundary) → v_of b d ≈ v_of b d'
  unfolding v_of
  v_of_same none = ≈_refl (whole 0)
  v_of_same (at H) = v_same H
  v_of_same (uppermost H) = ≈_refl (whole 1)

  pub vm_same : (before m : Boundary) → vm before m d ≈ vm before m d'
  unfolding vm
  vm_same before m = held_same (⊝-≈ (v_of_same m) (v_of_same before))

  pub plain_same : (before m : Boundary) → plain before m d ≈ plain before m d'
  unfolding plain
  plain_same before m = ⊝-≈ (v_of_same m) (v_of_same before)

  module _ (difference : Boundary → Boundary → Fraction → Fraction)
      (same : (before m : Boundary) → difference before m d ≈ difference before m d') where
    brackets_same : (before : Boundary) (ms : List BoundarySmin) → in_brackets difference before ms d ≈ in_brackets difference before ms d'
    unfolding in_brackets
    brackets_same before [] = ≈_refl (whole 0)
    brackets_same before (m ∷ []) = ⊛-≈ (same before (uppermost m.H)) (≈_refl m.smin)
    brackets_same before (m ∷ n ∷ ms) =
        rw (counted_same m.H) (⊹-≈ (⊛-≈ (same before (counted m.H d')) (≈_refl m.smin)) (brackets_same (counted m.H d') (n ∷ ms)))

    pub partial_same : (is : List Flooding) → partial_A difference is d ≈ partial_A difference is d'
    unfolding partial_A d_A si total
    partial_same [] = ≈_refl (whole 0)
    partial_same (i ∷ is) = ⊹-≈ (⊛-≈ (≈_refl i.pi) (brackets_same none i.boundaries)) (partial_same is)
