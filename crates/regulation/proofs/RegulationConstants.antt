-- The letters of regulation 7-1 that a ship has for all its spans: document 01's up to 198 m, and not above. Assumes nothing.
use Prim.Native.Nat.{ℕ, ◌≤◌, ◌<◌}
use mathlib.Core.Path.{◌≡◌, refl}
use mathlib.Core.List.{[]}
use native.Mathlib.Omega.{arith}
use lib.Dec.{lit<}
use Rattle.laws.specs.Polynomial.{C}
use Rattle.laws.specs.Fraction.{Fraction, ◌less◌over◌, ◌over◌, whole, Is, ◌≈◌, ◌≺◌, ◌⊹◌, ◌⊝◌, ◌⊛◌, ◌⊘◌}
use Rattle.laws.proofs.Fraction.{is_over, is_less_over, is_written, is_⊘, is_≈, same, below, strictly_below, below_across, strictly_below_across, ≈_sym, ≈_trans}
use Rattle.laws.proofs.FractionTerm.{Term, constant, number, ◌⊹ᵗ◌, ◌⊝ᵗ◌, ◌⊛ᵗ◌, also, agree, quotient_by}
use Rattle.laws.proofs.FractionOrder.{lesser_first, lesser_second, one_root}
use Rattle.regulation.specs.Regulation.{¼, ◌², Jmax, Jkn, pk, lmax, L*, b0, Jm, under√, Jk, b11, b12, b21, b22}
use Rattle.regulation.specs.OfSolas.{UpTo198m, RootsAreThere, ConstantsAre01's, LongerShipsDiffer, LettersReach260m}
-- checked first, so that a definition that gives another number is refused there
use Rattle.regulation.proofs.Examples.{reach}

-- ---- Jm: lmax/Ls is not below 10/33 where Ls is not above 198 m, and below it where Ls is
lmax_is : Is lmax 6000 0 1
unfolding lmax ◌less◌over◌
lmax_is = record { cross = refl }

by_length : {Ls : ℕ} → 0 < Ls → Is (lmax ⊘ whole Ls) 6000 0 Ls
by_length {Ls} p = is_written (is_⊘ p lmax_is (is_over Ls (lit< tt))) (omega arith) (omega arith) (omega arith)

Jm_is_Jmax : (Ls : ℕ) → 0 < Ls → Ls ≤ 19800 → Jm Ls ≡ Jmax
unfolding Jm Jmax
Jm_is_Jmax Ls p h = lesser_first (below_across (is_over 10 (lit< tt)) (by_length p) (lit< tt) p (omega arith))

pub longer_ships_differ : LongerShipsDiffer
unfolding Jm Jmax
longer_ships_differ Ls h =
    let p : 0 < Ls = omega arith in
    let shorter : lmax ⊘ whole Ls ≺ 10 over 33 = strictly_below_across (by_length p) (is_over 10 (lit< tt)) (omega arith) in
    record { the_Jm = rw (lesser_second shorter) (same p (by_length p) (is_over 6000 p)); below_01's = rw (lesser_second shorter) shorter }

-- ---- L*
L*_is : Is L* 26000 0 1
unfolding L* ◌less◌over◌
L*_is = record { cross = refl }

pub letters_reach_260_m : LettersReach260m
letters_reach_260_m Ls =
    record { within = λ h. below (lit< tt) (is_over Ls (lit< tt)) L*_is (omega arith); beyond = λ h. strictly_below L*_is (is_over Ls (lit< tt)) (omega arith) }

-- ---- up to 198 m

closed_root : whole 1 ⊹ (whole 1 ⊝ whole 2 ⊛ pk) ⊛ b0 ⊛ Jmax ⊹ ¼ ⊛ b0 ² ⊛ Jmax ² ≈ whole 1
unfolding Jmax Jkn pk b0 ◌⊹◌ ◌⊝◌ ◌⊛◌ ◌⊘◌ ◌less◌over◌
closed_root = record { cross = refl }

under√_is_1 : (Ls : ℕ) → 0 < Ls → Ls ≤ 19800 → under√ Ls ≈ whole 1
unfolding under√
under√_is_1 Ls p h = rw (Jm_is_Jmax Ls p h) closed_root

pk_is : Is pk 11 0 12
unfolding pk
pk_is = is_over 11 (lit< tt)

pub b0_is : Is b0 11 0 1
unfolding Jmax Jkn pk b0 ◌⊝◌ ◌⊛◌ ◌⊘◌ ◌less◌over◌
b0_is = record { cross = refl }

pub roots_are_there : RootsAreThere
roots_are_there Ls p h =
    record {
      some = p;
      short = h;
      root = record { not_negative = below {d = 1} (lit< tt) (is_over 0 (lit< tt)) (is_over 1 (lit< tt)) (omega arith); square = ≈_trans one (≈_sym (under√_is_1 Ls p h)) };
    }
  where
    one : whole 1 ² ≈ whole 1
    one = agree {ρ = []} (number 1 1 tt ⊛ᵗ number 1 1 tt) (number 1 1 tt) tt

module _ {Ls : ℕ} {√ : Fraction} (u : UpTo198m Ls √) where
  pub Jm_is : Is (Jm Ls) 10 0 33
  unfolding Jmax
  Jm_is = rw (Jm_is_Jmax Ls u.some u.short) (is_over 10 (lit< tt))

  √_is : Is √ 1 0 1
  √_is =
      let one = (roots_are_there Ls u.some u.short).root in
      is_≈ (one_root u.root.not_negative one.not_negative (≈_trans u.root.square (≈_sym one.square))) (is_over 1 (lit< tt))

  pub Jk_is : Is (Jk Ls √) 5 0 33
  unfolding Jk
  Jk_is = also {ρ = []} (quotient_by (constant tt Jm_is) (number 2 1 tt) 2 1 tt tt ⊹ᵗ quotient_by (number 1 1 tt ⊝ᵗ constant tt √_is) (constant tt b0_is) 11 1 tt tt) (C 5) (C 0) (C 33) tt

  abbrev Jmᵗ : Term [] (Jm Ls)
  Jmᵗ = constant tt Jm_is

  abbrev Jkᵗ : Term [] (Jk Ls √)
  Jkᵗ = constant tt Jk_is

  -- 1 - pk
  abbrev rest : Term [] (whole 1 ⊝ pk)
  rest = number 1 1 tt ⊝ᵗ constant tt pk_is

  pub b11_is : Is (b11 Ls √) 0 3267 50
  unfolding b11
  b11_is = also (number 4 1 tt ⊛ᵗ quotient_by rest ((Jmᵗ ⊝ᵗ Jkᵗ) ⊛ᵗ Jkᵗ) 25 1089 tt tt ⊝ᵗ number 2 1 tt ⊛ᵗ quotient_by (constant tt pk_is) (Jkᵗ ⊛ᵗ Jkᵗ) 25 1089 tt tt) (C 0) (C 3267) (C 50) tt

  pub b12_is : Is (b12 Ls √) 11 0 1
  unfolding b12
  b12_is = b0_is

  pub b21_is : Is (b21 Ls √) 0 363 50
  unfolding b21
  b21_is = also ((number 0 1 tt ⊝ᵗ number 2 1 tt) ⊛ᵗ quotient_by rest ((Jmᵗ ⊝ᵗ Jkᵗ) ⊛ᵗ (Jmᵗ ⊝ᵗ Jkᵗ)) 25 1089 tt tt) (C 0) (C 363) (C 50) tt

  pub b22_is : Is (b22 Ls √) 11 0 5
  unfolding b22
  b22_is = also ((number 0 1 tt ⊝ᵗ constant tt b21_is) ⊛ᵗ Jmᵗ) (C 11) (C 0) (C 5) tt

pub constants_are_01's : ConstantsAre01's
constants_are_01's Ls √ u = record {
  not_long = (letters_reach_260_m Ls).within (omega (arith, u.short));
  the_Jm = same (lit< tt) (Jm_is u) (is_over 10 (lit< tt));
  the_under√ = under√_is_1 Ls u.some u.short;
  the_√ = same (lit< tt) (√_is u) (is_over 1 (lit< tt));
  the_Jk = same (lit< tt) (Jk_is u) (is_over 5 (lit< tt));
  the_b0 = same (lit< tt) b0_is (is_over 11 (lit< tt));
  the_b11 = same (lit< tt) (b11_is u) (is_less_over 0 3267 (lit< tt));
  the_b12 = same (lit< tt) (b12_is u) (is_over 11 (lit< tt));
  the_b21 = same (lit< tt) (b21_is u) (is_less_over 0 363 (lit< tt));
  the_b22 = same (lit< tt) (b22_is u) (is_over 11 (lit< tt));
}
