-- A row's share lies between its ends, which are at most 32 apart; nothing is cut off, as no share is negative and none above one. Assumes nothing.
use Prim.Native.Nat.{ℕ, zero, suc, ◌+◌, ◌-◌, ◌*◌, ◌^◌, ◌≤◌}
use native.Mathlib.Nat.{le_refl, le_trans, min-le_right}
use native.Mathlib.Omega.{arith}
use Rattle.laws.specs.Fraction.{whole}
use Rattle.numbers.specs.Figures.{Between}
use Rattle.solas.specs.Ship.{Ship, Sound}
use Rattle.solas.specs.Share.{within, share, before, row_share}
use Rattle.solas.specs.Count.{added, taken, Group}
use Rattle.solas.proofs.Ship.{ends_within}
use Rattle.solas.proofs.Promises.{no_share_negative, no_share_above_one}
use Rattle.chances.specs.Share.{within_ends, low, high, sums_of, lowest, highest, row_of, row_ends}
use Rattle.chances.specs.Promises.{Row, SharesEnclosed, SharesNear, UpperNotCut, LowerAtMostOne}
use Rattle.penetration.proofs.Enclosure.{Q_between, Q_near}
use Rattle.chances.proofs.Bounds.{Bounds, bounds_of, bounds_zero, bounds_as, bounds_⊹, bounds_⊝, not_cut, not_over, held}

-- ---- one span

module _ (s : Ship) (sound : Sound s) (narrow : s.B ≤ 6000) where
  span_between : (b a e : ℕ) → 1 ≤ b → 2 * b ≤ s.B → 1 ≤ a → a ≤ e → e ≤ s.m → Between (within_ends s b a e) (within s a e b)
  unfolding within_ends within
  span_between zero a e o l p q r = absurd (omega arith)
  span_between (suc b) a e o l p q r =
      Q_between s.L (s.aft a) (s.fwd e) (omega (arith, sound.long)) sound.short (ends_within sound.zones (omega arith) r) s.B (suc b)
      (sound.broad, narrow, l)

  span_near : (b a e : ℕ) → 2 * b ≤ s.B → 1 ≤ e → e ≤ s.m → high s b a e ≤ low s b a e + 4
  unfolding within_ends
  span_near zero a e l p r = omega arith
  span_near (suc b) a e l p r =
      (Q_near s.L (s.aft a) (s.fwd e) (omega (arith, sound.long)) sound.short (ends_within sound.zones p r) s.B (suc b) (sound.broad, narrow, l)).near

  -- ---- a group at one b

  share_bounds : (a n b : ℕ) → Group s a n → 1 ≤ b → 2 * b ≤ s.B →
      Bounds (added (low s b) a n) (taken (high s b) a n) (added (high s b) a n) (taken (low s b) a n) (share s a n b)
  unfolding share added taken
  share_bounds a zero b g o l = absurd (omega (arith, g.some))
  share_bounds a (suc zero) b g o l = bounds_of (span_between b a a o l g.from (le_refl a) (omega (arith, g.fits)))
  share_bounds a (suc (suc zero)) b g o l =
      bounds_as _ _ _ _ (omega arith) (omega arith) (omega arith) (omega arith)
      (bounds_⊝ (bounds_⊝ (bounds_of (span_between b a (a + 1) o l g.from (omega arith) (omega (arith, g.fits))))
      (bounds_of (span_between b a a o l g.from (le_refl a) (omega (arith, g.fits)))))
      (bounds_of (span_between b (a + 1) (a + 1) o l (omega arith) (le_refl (a + 1)) (omega (arith, g.fits)))))
  share_bounds a (suc (suc (suc k))) b g o l =
      bounds_as _ _ _ _ (omega arith) (omega arith) (omega arith) (omega arith)
      (bounds_⊹ (bounds_⊝ (bounds_⊝ (bounds_of (span_between b a (a + k + 2) o l g.from (omega arith) (omega (arith, g.fits))))
      (bounds_of (span_between b a (a + k + 1) o l g.from (omega arith) (omega (arith, g.fits)))))
      (bounds_of (span_between b (a + 1) (a + k + 2) o l (omega arith) (omega arith) (omega (arith, g.fits)))))
      (bounds_of (span_between b (a + 1) (a + k + 1) o l (omega arith) (omega arith) (omega (arith, g.fits)))))

  before_bounds : (a n b : ℕ) → Group s a n → 2 * b ≤ s.B →
      Bounds (added (low s b) a n) (taken (high s b) a n) (added (high s b) a n) (taken (low s b) a n) (before s a n b)
  unfolding added taken within_ends
  before_bounds a n zero g l = nothing n
    where
      nothing : (n : ℕ) → Bounds (added (low s 0) a n) (taken (high s 0) a n) (added (high s 0) a n) (taken (low s 0) a n) (whole 0)
      nothing zero = bounds_zero
      nothing (suc zero) = bounds_zero
      nothing (suc (suc zero)) = bounds_zero
      nothing (suc (suc (suc k))) = bounds_zero
  before_bounds a n (suc b) g l = share_bounds a n (suc b) g (omega arith) l

  row_bounds : (a n b' b : ℕ) → Row s a n b' b →
      Bounds (added (low s b) a n + taken (low s b') a n) (taken (high s b) a n + added (high s b') a n)
      (added (high s b) a n + taken (high s b') a n) (taken (low s b) a n + added (low s b') a n) (row_share s a n b' b)
  unfolding row_share
  row_bounds a n b' b r =
      bounds_⊝ (share_bounds a n b r.group r.some r.deep) (before_bounds a n b' r.group (omega (arith, r.deep, r.rising)))

  -- ---- widths: at most four spans at one b, each four apart

  group_near : (a n b : ℕ) → Group s a n → 2 * b ≤ s.B →
      added (high s b) a n + taken (high s b) a n ≤ added (low s b) a n + taken (low s b) a n + 16
  unfolding added taken
  group_near a zero b g l = omega arith
  group_near a (suc zero) b g l = omega (arith, span_near b a a l g.from (omega (arith, g.fits)))
  group_near a (suc (suc zero)) b g l =
      omega (
        arith,
        span_near b a (a + 1) l (omega arith) (omega (arith, g.fits)),
        span_near b a a l g.from (omega (arith, g.fits)),
        span_near b (a + 1) (a + 1) l (omega arith) (omega (arith, g.fits)),
      )
  group_near a (suc (suc (suc k))) b g l =
      omega (
        arith,
        span_near b a (a + k + 2) l (omega arith) (omega (arith, g.fits)),
        span_near b a (a + k + 1) l (omega arith) (omega (arith, g.fits)),
        span_near b (a + 1) (a + k + 2) l (omega arith) (omega (arith, g.fits)),
        span_near b (a + 1) (a + k + 1) l (omega arith) (omega (arith, g.fits)),
      )

-- ---- the row

pub shares_near : SharesNear
unfolding row_ends row_of lowest highest sums_of
shares_near s a n b' b r =
    let at = group_near s r.sound r.narrow a n b r.group r.deep in
    let bf = group_near s r.sound r.narrow a n b' r.group (omega (arith, r.deep, r.rising)) in
    record { near = le_trans (min-le_right (10 ^ 9) (added (high s b) a n + taken (high s b') a n - (taken (low s b) a n + added (low s b') a n))) (omega arith) }

pub shares_enclosed : SharesEnclosed
unfolding row_ends row_of lowest highest sums_of
shares_enclosed s a n b' b r =
    held (row_bounds s r.sound r.narrow a n b' b r) (no_share_negative s r.sound a n b' b r.group r.rising r.deep)
    (no_share_above_one s r.sound a n b' b r.group r.rising r.deep)

pub upper_not_cut : UpperNotCut
upper_not_cut s a n b' b r = not_cut (row_bounds s r.sound r.narrow a n b' b r) (no_share_negative s r.sound a n b' b r.group r.rising r.deep)

pub lower_at_most_one : LowerAtMostOne
unfolding row_ends row_of lowest highest sums_of
lower_at_most_one s a n b' b r =
    omega (arith, not_over (row_bounds s r.sound r.narrow a n b' b r) (no_share_above_one s r.sound a n b' b r.group r.rising r.deep))
