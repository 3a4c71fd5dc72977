-- What the regulation sums, in its own letters and in metres: document 002, 2.7.7.3, the contribution of a compartment or group with horizontal
-- subdivision, and 2.5.1, a partial index. Any fractions stand in place of s. Assumes nothing.
use Rattle.std.specs.Prelude.{List, [], ◌∷◌, map}
use Rattle.laws.specs.Fraction.{Fraction, whole, ◌⊹◌, ◌⊝◌, ◌⊛◌, total}
use Rattle.regulation.specs.RegulationIndex.{Boundary, none, uppermost, counted, v_of}

-- a horizontal boundary at the height H over the baseline, with its smin, the least s of damage that extends from that height downwards
pub record BoundarySmin : Type 0 where
  pub H : Fraction
  pub smin : Fraction

-- a compartment or group i, between two penetrations: its pi, and its boundaries from the lowest up, of which the last is the uppermost
pub record Flooding : Type 0 where
  pub pi : Fraction
  pub boundaries : List BoundarySmin

-- v of the boundary m less v of the one before it: 2.7.7.1's vm, held between 0 and 1, or plain, as 2.7.7.3 prints it. 2.7.7.3's legend has its v
-- "in accordance with 2.7.7.1", which is a difference already; here v is 2.7.7.2's, the one reading that gives each smin 2.7.7.1's vm as its factor
unfoldable pub plain : Boundary → Boundary → Fraction → Fraction
plain before m d = v_of m d ⊝ v_of before d

module _ (difference : Boundary → Boundary → Fraction → Fraction) where
  -- 2.7.7.3, in brackets: v1·smin1 + (v2 - v1)·smin2 + .. + (1 - v(m-1))·smin m, at the draught d, from the boundary before on; one that is not
  -- above the waterline adds nothing
  unfoldable pub in_brackets : Boundary → List BoundarySmin → Fraction → Fraction
  in_brackets before [] d = whole 0
  in_brackets before (m ∷ []) d = difference before (uppermost m.H) d ⊛ m.smin
  in_brackets before (m ∷ n ∷ ms) d = difference before (counted m.H d) d ⊛ m.smin ⊹ in_brackets (counted m.H d) (n ∷ ms) d

  -- 2.5.1: s, which "includes the effect of any horizontal subdivision"
  unfoldable pub si : List BoundarySmin → Fraction → Fraction
  si ms d = in_brackets none ms d

  -- 2.7.7.3
  unfoldable pub d_A : Flooding → Fraction → Fraction
  d_A i d = i.pi ⊛ si i.boundaries d

  -- 2.5.1: a partial index, the sum of pi·si
  unfoldable pub partial_A : List Flooding → Fraction → Fraction
  partial_A is d = total (map (λ i. d_A i d) is)
