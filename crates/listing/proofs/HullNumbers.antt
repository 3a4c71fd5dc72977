-- R and the mark as four numbers, and how many numbers the groups' shares are. Assumes nothing.
use Prim.Native.Nat.{ℕ, zero, suc, ◌+◌, ◌*◌, ◌≤◌}
use mathlib.Core.Path.{◌≡◌, refl, ◌∙◌, ap}
use mathlib.Core.List.{List, [], ◌∷◌}
use native.Mathlib.Nat.{mul-le-mul}
use native.Mathlib.Omega.{arith}
use lib.ListN.{length, length-append}
use Rattle.records.specs.declared.Ends.{Ends}
use Rattle.records.specs.declared.Hull.{Hull}
use Rattle.records.specs.declared.Ratio.{Ratio}
use Rattle.numbers.specs.Ratio.{ratio_of}
use Rattle.verdicts.specs.Required.{required_of, mark_of}
use Rattle.rows.specs.Work.{numbers}
use Rattle.listing.specs.Hull.{required_numbers, groups_at, groups_from, group_numbers}
-- checked first, so that a definition that tells other numbers is refused there
use Rattle.listing.proofs.HullValues.{of_a_cargo_ship, of_the_groups}

-- ---- R and the mark

pub length_required : (h : Hull) → length (required_numbers h) ≡ 4
unfolding required_numbers
length_required h = refl

pub four_told : (h : Hull) {r m : Ratio} → r ≡ ratio_of (required_of h) → m ≡ ratio_of (mark_of h) → r.num ∷ r.den ∷ m.num ∷ m.den ∷ [] ≡ required_numbers h
unfolding required_numbers
four_told h e f = rw (e, f) refl

-- ---- how many groups there are

length_numbers : (es : List Ends) → length (numbers es) ≡ 2 * length es
length_numbers [] = refl
length_numbers (e ∷ es) = omega (arith, length_numbers es)

pub length_at : (h : Hull) (a n k : ℕ) → length (groups_at h a n k) ≡ k
unfolding groups_at
length_at h a n zero = refl
length_at h a n (suc k) = ap suc (length_at h a (n + 1) k)

pub length_from : (h : Hull) (a k : ℕ) → 2 * length (groups_from h a k) ≡ k * (k + 1)
unfolding groups_from
length_from h a zero = refl
length_from h a (suc k) = rw length-append (omega (arith, length_at h a 1 (suc k), length_from h (a + 1) k))

pub length_groups : (h : Hull) → length (group_numbers h) ≡ h.zones * (h.zones + 1)
unfolding group_numbers
length_groups h = length_numbers (groups_from h 1 h.zones) ∙ length_from h 1 h.zones

-- 20 zones have 210
pub few_groups : (z : ℕ) → z ≤ 20 → z * (z + 1) ≤ 420
few_groups z l = mul-le-mul {m₂ = 21} l (omega arith)
