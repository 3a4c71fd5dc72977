-- The shares of a sound ship as whole numbers over one denominator: layers that meet add up, and all groups come to the whole. Assumes nothing.
use Prim.Native.Nat.{ℕ, ◌+◌, ◌-◌, ◌*◌, ◌≤◌}
use mathlib.Core.Path.{◌≡◌}
use native.Mathlib.Nat.{le_refl}
use native.Mathlib.Omega.{arith}
use Rattle.laws.specs.Fraction.{whole, Is, ◌≈◌}
use Rattle.laws.proofs.Fraction.{is_nothing, is_shifted, same}
use Rattle.solas.specs.Ship.{Ship, Sound}
use Rattle.solas.specs.Share.{share, row_share}
use Rattle.solas.specs.Count.{added, taken, groups, Group}
use Rattle.solas.proofs.Count.{counted_once, added_adds, taken_adds, groups_same, groups_add}
use Rattle.solas.proofs.Figure.{figure, over, over_positive, share_is, row_is, meets}
use Rattle.solas.proofs.Positive.{taken_not_above, ship_is_one}

-- of the group of n zones from zone a, what the layer from b' to b gives, over `over s`
unfoldable pub gives : Ship → ℕ → ℕ → ℕ → ℕ → ℕ
gives s a n b' b = added (figure s b' b) a n - taken (figure s b' b) a n

module _ (s : Ship) (h : Sound s) (a n : ℕ) (g : Group s a n) where
  pub is_gives : (b' b : ℕ) → b' ≤ b → 2 * b ≤ s.B → Is (row_share s a n b' b) (gives s a n b' b) 0 (over s)
  unfolding gives
  is_gives b' b q p = is_shifted _ 0 (omega (arith, taken_not_above s h b' b a n g)) (row_is s h a n b' b g q p)

  pub is_all : (b : ℕ) → 2 * b ≤ s.B → Is (share s a n b) (gives s a n 0 b) 0 (over s)
  unfolding gives
  is_all b p = is_shifted _ 0 (omega (arith, taken_not_above s h 0 b a n g)) (share_is s h a n b g p)

  -- a group that gives nothing has no share
  pub gives_nothing : (b : ℕ) → 2 * b ≤ s.B → gives s a n 0 b ≡ 0 → share s a n b ≈ whole 0
  gives_nothing b p e = same (over_positive s h) (rw e at (is_all b p)) (is_nothing (over_positive s h))

  pub layers_add : (b₀ b₁ b₂ : ℕ) → b₀ ≤ b₁ → b₁ ≤ b₂ → 2 * b₂ ≤ s.B → gives s a n b₀ b₁ + gives s a n b₁ b₂ ≡ gives s a n b₀ b₂
  unfolding gives
  layers_add b₀ b₁ b₂ p q r =
      let up = added_adds (figure s b₀ b₁) (figure s b₁ b₂) (figure s b₀ b₂) (meets s h b₀ b₁ b₂ p q r) a n in
      let dn = taken_adds (figure s b₀ b₁) (figure s b₁ b₂) (figure s b₀ b₂) (meets s h b₀ b₁ b₂ p q r) a n in
      omega (arith, up, dn, taken_not_above s h b₀ b₁ a n g, taken_not_above s h b₁ b₂ a n g, taken_not_above s h b₀ b₂ a n g)

  pub no_layer : gives s a n 0 0 ≡ 0
  no_layer = omega (arith, layers_add 0 0 0 (le_refl 0) (le_refl 0) (omega arith))

pub all_give : (s : Ship) → Sound s → (b : ℕ) → 2 * b ≡ s.B → groups (λ a n. gives s a n 0 b) s.m ≡ over s
unfolding gives
all_give s h b e =
    let F = figure s 0 b in
    let split = groups_same (added F) (λ a n. taken F a n + (added F a n - taken F a n)) s.m
    (λ a n x y z. let l : taken F a n ≤ added F a n = taken_not_above s h 0 b a n (record { from = x; some = y; fits = z }) in omega arith) in
    omega (arith, split, groups_add (taken F) (λ a n. added F a n - taken F a n) s.m, counted_once F s.m h.zones.some, ship_is_one s h b e)
