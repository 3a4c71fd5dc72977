-- Rows given as numbers: which of them have a share, and what is told of some of them with what is told of the rest. Assumes nothing.
use Prim.Native.Nat.{ℕ, suc, ◌+◌, ◌-◌, ◌*◌, ◌/◌, ◌≤◌, ◌<◌, min}
use mathlib.Core.Path.{◌≡◌, refl, ◌∙◌, ap}
use mathlib.Core.Bool.{Bool, true, false, ◌&&◌}
use mathlib.Core.List.{List}
use native.Mathlib.Nat.{min-le_left, min-le_right}
use native.Mathlib.Numerals.{add-one}
use native.Mathlib.Omega.{arith}
use lib.Dec.{leb}
use lib.ListN.{length, set, length-set}
use lib.Seq.{sets}
use borrow.Author.Tests.{leb-true}
use Rattle.laws.proofs.Tests.{both}
use Rattle.records.specs.declared.Ends.{Ends}
use Rattle.records.specs.declared.Hull.{Hull}
use Rattle.solas.specs.Count.{Group}
use Rattle.spans.specs.Hull.{ship_of, Hulled}
use Rattle.chances.specs.Share.{row_ends}
use Rattle.casefile.specs.Limits.{sizes_fit, zones_fit, head_fits}
use Rattle.casefile.proofs.Limits.{head_is}
use Rattle.answers.proofs.ValidCase.{fits_hulled}
use Rattle.probes.specs.Shares.{hull_in, hull_fits, head_with, share_in, share_at, shares_from, rows_told}

pub hull_is : (h : Hull) → hull_fits h ≡ true → Hulled h
hull_is h e = let (s, z) = both (sizes_fit h) (zones_fit h) e in fits_hulled h s z

-- ---- one row

module _ (h : Hull) (a n b' b : ℕ) where
  abbrev test : Bool
  test = head_fits h (head_with a n b) && leb b' b

  pub no_row : test ≡ false → record { lower = 0; upper = 0 } ≡ share_in h a n b' b
  unfolding share_in
  no_row e = rw e refl

  pub has_share : test ≡ true → row_ends (ship_of h) a n b' b ≡ share_in h a n b' b
  unfolding share_in
  has_share e = rw e refl

  pub row_asked : test ≡ true → Group (ship_of h) a n × (2 * b' ≤ h.breadth) × (2 * b ≤ h.breadth)
  row_asked e =
      let (f, l) = both (head_fits h (head_with a n b)) (leb b' b) e in
      let r = head_is h (head_with a n b) f in
      (record { from = r.first; some = r.count; fits = r.within }, omega (arith, leb-true b' b l, r.deepest), omega (arith, r.deepest))

-- ---- the rows in turn

module _ (h : Hull) (rows : List ℕ) (count : ℕ) (first : List ℕ) where
  -- the first i are told, and the others come to what all come to
  pub record Told (out : List ℕ) (i : ℕ) : Type 0 where
    pub within : i ≤ count
    pub long : length out ≡ length first
    pub rest : sets out (2 * i) (shares_from h rows (4 * i) (count - i)) ≡ sets first 0 (shares_from h rows 0 count)

  pub none_told : Told first 0
  none_told =
      let whole : count - 0 ≡ count = omega arith in
      let two : 2 * 0 ≡ 0 = omega arith in
      let four : 4 * 0 ≡ 0 = omega arith in
      record { within = omega arith; long = refl; rest = rw (whole, two, four) refl }

  pub one_told : (out : List ℕ) (i : ℕ) {e : Ends} {now : List ℕ} → Told out i → i < count → e ≡ share_at h rows (4 * i) →
      now ≡ set (set out (2 * i) e.lower) (2 * i + 1) e.upper → Told now (i + 1)
  unfolding shares_from
  one_told out i {e} g l q put =
      let left : count - i ≡ suc (count - (i + 1)) = omega arith in
      let two : 2 * (i + 1) ≡ suc (suc (2 * i)) = omega arith in
      let four : 4 * (i + 1) ≡ 4 * i + 4 = omega arith in
      let rest' : sets out (2 * i) (shares_from h rows (4 * i) (suc (count - (i + 1)))) ≡ sets first 0 (shares_from h rows 0 count) = rw left at g.rest in
      record {
        within = omega arith;
        long = ap length put ∙ length-set (set out (2 * i) e.lower) (2 * i + 1) e.upper ∙ length-set out (2 * i) e.lower ∙ g.long;
        rest = rw (two, four, put, add-one (2 * i), q) rest';
      }

  pub all_told : (out : List ℕ) (i : ℕ) → count ≤ i → Told out i → out ≡ sets first 0 (shares_from h rows 0 count)
  unfolding shares_from
  all_told out i l g = let none : count - i ≡ 0 = omega arith in rw none at g.rest

-- ---- a hull and rows of numbers

module _ (ns rows out : List ℕ) {h : Hull} (e : h ≡ hull_in ns) where
  pub none_asked : hull_fits h ≡ false → (0 ≡ rows_told (hull_in ns) rows out) × (out ≡ sets out 0 (shares_from (hull_in ns) rows 0 0))
  unfolding rows_told shares_from
  none_asked f = (rw (← e, f) refl, refl)

  module _ (fits : hull_fits h ≡ true) {n : ℕ} (q : n ≡ min (length rows / 4) (length out / 2)) where
    pub room : (4 * n ≤ length rows) × (2 * n ≤ length out)
    room =
        (omega (arith, q, min-le_left (length rows / 4) (length out / 2)), omega (arith, q, min-le_right (length rows / 4) (length out / 2)))

    pub rows_asked : {now : List ℕ} → now ≡ sets out 0 (shares_from h rows 0 n) → (n ≡ rows_told (hull_in ns) rows out) × (now ≡ sets out 0 (shares_from (hull_in ns) rows 0 n))
    unfolding rows_told
    rows_asked put = (q ∙ rw (← e, fits) refl, put ∙ ap (λ k. sets out 0 (shares_from k rows 0 n)) e)
