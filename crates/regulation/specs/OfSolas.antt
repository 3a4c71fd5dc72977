-- What "those of SOLAS" means: the letters of regulation 7-1 come to document 01's forms, for every ship of up to 198 m. Numbers like 2.6.2 are
-- document 002's. Assumes nothing.
use Rattle.std.specs.Prelude.{ℕ, ◌+◌, ◌-◌, ◌*◌, ◌≤◌, ◌<◌}
use Rattle.laws.specs.Fraction.{Fraction, ◌less◌over◌, ◌over◌, whole, ◌≈◌, ◌≼◌, ◌≺◌, ◌⊛◌}
use Rattle.solas.specs.Span
use Rattle.solas.specs.Span.{P}
use Rattle.solas.specs.Penetration
use Rattle.solas.specs.Penetration.{Q}
use Rattle.solas.specs.Ship.{Ship, Sound}
use Rattle.solas.specs.Share.{row_share}
use Rattle.regulation.specs.Regulation
use Rattle.regulation.specs.Regulation.{IsRoot, L*, Jm, under√, Jk, b0, b11, b12, b21, b22, p1or2, p, r, pi}

-- a ship of some length up to 198 m (that 01 starts at 80 m is not needed here), and the root √ in its Jk
pub record UpTo198m (Ls : ℕ) (√ : Fraction) : Type 0 where
  pub some : 0 < Ls
  pub short : Ls ≤ 19800
  pub root : IsRoot √ (under√ Ls)

-- 01: "For Ls up to 198 m the regulation's constants become .."
pub record Constants (Ls : ℕ) (√ : Fraction) : Type 0 where
  pub not_long : whole Ls ≼ L*
  pub the_Jm : Jm Ls ≈ 10 over 33
  pub the_under√ : under√ Ls ≈ whole 1
  pub the_√ : √ ≈ whole 1
  pub the_Jk : Jk Ls √ ≈ 5 over 33
  pub the_b0 : b0 ≈ whole 11
  pub the_b11 : b11 Ls √ ≈ 0 less 3267 over 50
  pub the_b12 : b12 Ls √ ≈ whole 11
  pub the_b21 : b21 Ls √ ≈ 0 less 363 over 50
  pub the_b22 : b22 Ls √ ≈ 11 over 5

-- 2.6.2: p1 or p2 is 01's p in its three bands, and p is 01's P, by the ends that the span touches
pub record Spans (Ls : ℕ) (√ : Fraction) (x1 x2 : ℕ) : Type 0 where
  pub inner : p1or2 Ls √ x1 x2 ≈ Span.p Ls (x2 - x1)
  pub outer : p Ls √ x1 x2 ≈ P Ls x1 x2

-- 2.6.3: C, G1, and G by the ends that the span touches
pub record Penetrations (Ls : ℕ) (√ : Fraction) (x1 x2 B b : ℕ) : Type 0 where
  pub the_C : Regulation.C Ls √ x1 x2 B b ≈ Penetration.C B b
  pub the_G1 : Regulation.G1 Ls √ x1 x2 B b ≈ Penetration.G1 B b
  pub the_G : Regulation.G Ls √ x1 x2 B b ≈ Penetration.G Ls B x1 x2 b

-- 01: "this is p·r of the regulation with no division by p"; and p may be divided by
pub record Chances (Ls : ℕ) (√ : Fraction) (x1 x2 B b : ℕ) : Type 0 where
  pub above_0 : whole 0 ≺ p Ls √ x1 x2
  pub the_pr : p Ls √ x1 x2 ⊛ r Ls √ x1 x2 B b ≈ Q Ls B x1 x2 b

-- why 01 stops at 198 m: in a longer ship the longest damage is one of 60 m, which is less than 10/33 of it (Jm as it is written up to 260 m)
pub record Longer (Ls : ℕ) : Type 0 where
  pub the_Jm : Jm Ls ≈ 6000 over Ls
  pub below_01's : Jm Ls ≺ 10 over 33

-- how far the letters reach that specs/Regulation.antt has, those "when Ls ≤ L*": up to 260 m
pub record Reach (Ls : ℕ) : Type 0 where
  pub within : Ls ≤ 26000 → whole Ls ≼ L*
  pub beyond : 26000 < Ls → L* ≺ whole Ls

-- ---- the promises

-- each of these ships has such a root, so that what follows is said of every one
abbrev pub RootsAreThere : Type 0
RootsAreThere = (Ls : ℕ) → 0 < Ls → Ls ≤ 19800 → UpTo198m Ls (whole 1)

abbrev pub ConstantsAre01's : Type 0
ConstantsAre01's = (Ls : ℕ) (√ : Fraction) → UpTo198m Ls √ → Constants Ls √

abbrev pub LongerShipsDiffer : Type 0
LongerShipsDiffer = (Ls : ℕ) → 19800 < Ls → Longer Ls

abbrev pub LettersReach260m : Type 0
LettersReach260m = (Ls : ℕ) → Reach Ls

abbrev pub SpansAre01's : Type 0
SpansAre01's = (Ls : ℕ) (√ : Fraction) → UpTo198m Ls √ → (x1 x2 : ℕ) → x1 ≤ x2 → Spans Ls √ x1 x2

abbrev pub PenetrationsAre01's : Type 0
PenetrationsAre01's = (Ls : ℕ) (√ : Fraction) → UpTo198m Ls √ → (x1 x2 B b : ℕ) → x1 ≤ x2 → 0 < B → 2 * b ≤ B → Penetrations Ls √ x1 x2 B b

abbrev pub ChancesAre01's : Type 0
ChancesAre01's = (Ls : ℕ) (√ : Fraction) → UpTo198m Ls √ → (x1 x2 B b : ℕ) → x1 < x2 → 0 < B → 2 * b ≤ B → Chances Ls √ x1 x2 B b

-- THE RULE, 2.6.1: of any group of n zones from zone a of any sound ship, between any two depths up to B/2, the regulation's pi is 01's share of a row
abbrev pub SharesAreTheRegulation's : Type 0
SharesAreTheRegulation's = (s : Ship) → Sound s → (√ : Fraction) → IsRoot √ (under√ s.L) → (a n b' b : ℕ) → 1 ≤ a → a + n ≤ s.m + 1 → b' < b → 2 * b ≤ s.B →
    pi s √ b' b a n ≈ row_share s a n b' b
