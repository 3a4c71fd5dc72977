-- The shares of a sound ship over one denominator: what a row adds and takes away, in whole numbers. Assumes nothing.
use Prim.Native.Nat.{ℕ, zero, suc, ◌+◌, ◌*◌, ◌^◌, ◌≤◌, ◌<◌}
use mathlib.Core.Path.{◌≡◌}
use mathlib.Core.List.{List, [], ◌∷◌}
use native.Mathlib.Omega.{arith}
use Rattle.laws.specs.Fraction.{Is, total}
use Rattle.laws.specs.Lists.{last, Linked}
use Rattle.laws.proofs.Fraction.{is_nothing, is_shifted, is_⊹, is_⊝}
use Rattle.laws.proofs.Rising.{last_rises}
use Rattle.solas.specs.Ship.{Ship, Sound}
use Rattle.solas.specs.Share.{within, share, row_share, layer_shares}
use Rattle.solas.specs.Penetration.{c, d}
use Rattle.solas.specs.General.{Falling, Rising, in_span, law, layer, unit}
use Rattle.solas.specs.Count.{added, taken, Group}
use Rattle.solas.proofs.Count.{added_adds, taken_adds}
use Rattle.solas.proofs.GeneralLayer.{depths_add}
use Rattle.solas.proofs.Depth.{law_falls, layer_rises, common_positive}
use Rattle.solas.proofs.Within.{Q_is}
-- checked first, so that a definition that gives another number is refused there
use Rattle.solas.proofs.Values.{short_1_3, row_2_1}

-- of the zones from a to e, what the layer from b' to b gives, over `over s`
abbrev pub figure : Ship → ℕ → ℕ → ℕ → ℕ → ℕ
figure s b' b a e = in_span (law s.L s.B) (layer s.L s.B b' b) s.L (s.aft a) (s.fwd e)

abbrev pub over : Ship → ℕ
over s = 2 * (5 * s.B ^ 2 * unit (law s.L s.B) * ((law s.L s.B).λx * s.L))

module _ (s : Ship) (h : Sound s) where
  some_length : 0 < s.L
  some_length = omega (arith, h.long)

  pub falls : Falling (law s.L s.B)
  falls = law_falls some_length h.broad

  pub rises : (b' b : ℕ) → b' ≤ b → 2 * b ≤ s.B → Rising (law s.L s.B) (layer s.L s.B b' b)
  rises b' b = layer_rises s.L s.B b' b h.broad

  pub over_positive : 0 < over s
  unfolding layer c d
  over_positive = common_positive some_length h.broad 0 0

  -- Q of the zones from a to e
  pub within_is : (b : ℕ) → 2 * b ≤ s.B → (a e : ℕ) → Is (within s a e b) (figure s 0 b a e) 0 (over s)
  unfolding within layer c d
  within_is b p a e = Q_is some_length h.broad (s.aft a) (s.fwd e) b p

  -- the share of a group at one b
  pub share_is : (a n b : ℕ) → Group s a n → 2 * b ≤ s.B → Is (share s a n b) (added (figure s 0 b) a n) (taken (figure s 0 b) a n) (over s)
  unfolding share added taken
  share_is a zero b g p = absurd (omega (arith, g.some))
  share_is a (suc zero) b g p = within_is b p a a
  share_is a (suc (suc zero)) b g p =
      is_shifted (figure s 0 b a (a + 1)) (figure s 0 b a a + figure s 0 b (a + 1) (a + 1)) (omega arith)
      (is_⊝ (is_⊝ (within_is b p a (a + 1)) (within_is b p a a))
      (within_is b p (a + 1) (a + 1)))
  share_is a (suc (suc (suc k))) b g p =
      is_shifted (figure s 0 b a (a + k + 2) + figure s 0 b (a + 1) (a + k + 1)) (figure s 0 b a (a + k + 1) + figure s 0 b (a + 1) (a + k + 2)) (omega arith)
      (is_⊹ (is_⊝ (is_⊝ (within_is b p a (a + k + 2))
      (within_is b p a (a + k + 1)))
      (within_is b p (a + 1) (a + k + 2)))
      (within_is b p (a + 1) (a + k + 1)))

  -- layers that meet give together what one does
  pub meets : (b₀ b₁ b₂ : ℕ) → b₀ ≤ b₁ → b₁ ≤ b₂ → 2 * b₂ ≤ s.B → (a e : ℕ) → figure s b₀ b₁ a e + figure s b₁ b₂ a e ≡ figure s b₀ b₂ a e
  meets b₀ b₁ b₂ p q r a e = depths_add s.L s.B b₀ b₁ b₂ falls (rises b₀ b₁ p (omega arith)) (rises b₁ b₂ q r) (s.aft a) (s.fwd e)

  -- the share of a row
  pub row_is : (a n b' b : ℕ) → Group s a n → b' ≤ b → 2 * b ≤ s.B → Is (row_share s a n b' b) (added (figure s b' b) a n) (taken (figure s b' b) a n) (over s)
  unfolding row_share
  row_is a n zero b g q p =
      is_shifted (added (figure s 0 b) a n) (taken (figure s 0 b) a n) (omega arith) (is_⊝ (share_is a n b g p) (is_nothing over_positive))
  row_is a n (suc b') b g q p =
      let up = added_adds (figure s 0 (suc b')) (figure s (suc b') b) (figure s 0 b) (meets 0 (suc b') b (omega arith) q p) a n in
      let dn = taken_adds (figure s 0 (suc b')) (figure s (suc b') b) (figure s 0 b) (meets 0 (suc b') b (omega arith) q p) a n in
      is_shifted (added (figure s (suc b') b) a n) (taken (figure s (suc b') b) a n) (omega (arith, up, dn))
      (is_⊝ (share_is a n b g p) (share_is a n (suc b') g (omega arith)))

  -- the shares of a group's layers together
  pub layers_are : (a n : ℕ) → Group s a n → (b' b : ℕ) (bs : List ℕ) → Linked ◌<◌ b' (b ∷ bs) → 2 * last b bs ≤ s.B →
      Is (total (layer_shares s a n b' (b ∷ bs))) (added (figure s b' (last b bs)) a n) (taken (figure s b' (last b bs)) a n) (over s)
  unfolding total layer_shares
  layers_are a n g b' b [] h p =
      is_shifted (added (figure s b' b) a n) (taken (figure s b' b) a n) (omega arith)
      (is_⊹ (row_is a n b' b g (omega (arith, h.0)) p) (is_nothing over_positive))
  layers_are a n g b' b (c ∷ bs) h p =
      let up = added_adds (figure s b' b) (figure s b (last c bs)) (figure s b' (last c bs)) (meets b' b (last c bs) (omega (arith, h.0)) (last_rises b (c ∷ bs) h.1) p) a n in
      let dn = taken_adds (figure s b' b) (figure s b (last c bs)) (figure s b' (last c bs)) (meets b' b (last c bs) (omega (arith, h.0)) (last_rises b (c ∷ bs) h.1) p) a n in
      let q : 2 * b ≤ s.B = omega (arith, last_rises b (c ∷ bs) h.1) in
      is_shifted (added (figure s b' (last c bs)) a n) (taken (figure s b' (last c bs)) a n) (omega (arith, up, dn))
      (is_⊹ (row_is a n b' b g (omega (arith, h.0)) q) (layers_are a n g b c bs h.1 p))
