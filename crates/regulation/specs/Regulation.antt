-- Regulation 7-1 in its own letters, as document 002 prints it in 2.6.1 to 2.6.3. Lengths are in centimetres. Assumes nothing.
use Rattle.std.specs.Prelude.{ℕ, zero, suc, ◌+◌, ◌-◌, cond, ◌&&◌, ◌||◌, eqb}
use Rattle.laws.specs.Fraction.{Fraction, ◌over◌, whole, ◌≈◌, ◌≼◌, ◌≼?◌, lesser, ◌⊹◌, ◌⊝◌, ◌⊛◌, ◌⊘◌}
use Rattle.solas.specs.Ship.{Ship}

infix 8 ⊖◌
infix 9 ◌²
infix 9 ◌³
-- ---- the arithmetic of its formulas
abbrev pub ½ : Fraction
½ = 1 over 2

abbrev pub ⅓ : Fraction
⅓ = 1 over 3

abbrev pub ¼ : Fraction
¼ = 1 over 4

abbrev pub ⅙ : Fraction
⅙ = 1 over 6

abbrev pub ⊖◌ : Fraction → Fraction
⊖ f = whole 0 ⊝ f

abbrev pub ◌² : Fraction → Fraction
f ² = f ⊛ f

abbrev pub ◌³ : Fraction → Fraction
f ³ = f ⊛ f ⊛ f

-- r = √f
pub record IsRoot (r f : Fraction) : Type 0 where
  pub not_negative : whole 0 ≼ r
  pub square : r ² ≈ f

-- ---- 2.6.2, what is the same for all ships
-- the greatest damage length, in ship's lengths
unfoldable pub Jmax : Fraction
Jmax = 10 over 33

-- the knuckle in the distribution of damage lengths, and the chance of damage up to it
unfoldable pub Jkn : Fraction
Jkn = 5 over 33

unfoldable pub pk : Fraction
pk = 11 over 12

-- the greatest damage length: 60 m
unfoldable pub lmax : Fraction
lmax = whole 6000

-- the ship's length up to which damage lengths are distributed by it: 260 m
unfoldable pub L* : Fraction
L* = whole 26000

-- the density at a damage length of 0
unfoldable pub b0 : Fraction
b0 = whole 2 ⊛ (pk ⊘ Jkn ⊝ (whole 1 ⊝ pk) ⊘ (Jmax ⊝ Jkn))

module _ (Ls : ℕ) where
  -- ---- 2.6.2, a ship's own letters "when Ls ≤ L*"; longer ships have another Jm, Jk and b12
  unfoldable pub Jm : Fraction
  Jm = lesser Jmax (lmax ⊘ whole Ls)

  -- what stands under the root of Jk
  unfoldable pub under√ : Fraction
  under√ = whole 1 ⊹ (whole 1 ⊝ whole 2 ⊛ pk) ⊛ b0 ⊛ Jm ⊹ ¼ ⊛ b0 ² ⊛ Jm ²

  -- fractions have no roots: √ is one that is handed over, and `IsRoot √ under√` says that it is the right one
  module _ (√ : Fraction) where
    unfoldable pub Jk : Fraction
    Jk = Jm ⊘ whole 2 ⊹ (whole 1 ⊝ √) ⊘ b0

    unfoldable pub b12 : Fraction
    b12 = b0

    unfoldable pub b11 : Fraction
    b11 = whole 4 ⊛ ((whole 1 ⊝ pk) ⊘ ((Jm ⊝ Jk) ⊛ Jk)) ⊝ whole 2 ⊛ (pk ⊘ Jk ²)

    unfoldable pub b21 : Fraction
    b21 = ⊖ whole 2 ⊛ ((whole 1 ⊝ pk) ⊘ (Jm ⊝ Jk) ²)

    unfoldable pub b22 : Fraction
    b22 = ⊖ b21 ⊛ Jm

    -- ---- 2.6.2, a compartment or group from x1 to x2
    module _ (x1 x2 : ℕ) where
      unfoldable pub J : Fraction
      J = (whole x2 ⊝ whole x1) ⊘ whole Ls

      unfoldable pub Jn : Fraction
      Jn = lesser J Jm

      unfoldable pub p1 : Fraction
      p1 = ⅙ ⊛ J ² ⊛ (b11 ⊛ J ⊹ whole 3 ⊛ b12)

      unfoldable pub p2 : Fraction
      p2 =
          ⊖ ⅓ ⊛ b11 ⊛ Jk ³ ⊹ ½ ⊛ (b11 ⊛ J ⊝ b12) ⊛ Jk ² ⊹ b12 ⊛ J ⊛ Jk
          ⊝ ⅓ ⊛ b21 ⊛ (Jn ³ ⊝ Jk ³) ⊹ ½ ⊛ (b21 ⊛ J ⊝ b22) ⊛ (Jn ² ⊝ Jk ²)
          ⊹ b22 ⊛ J ⊛ (Jn ⊝ Jk)

      -- J ≤ Jk: p1; J > Jk: p2
      unfoldable pub p1or2 : Fraction
      p1or2 = cond (J ≼? Jk) p1 p2

      -- of three: for neither limit at a terminal, for the aft one at the aft or the forward one at the forward terminal, for the entire length
      abbrev pub by_ends : Fraction → Fraction → Fraction → Fraction
      by_ends neither one entire = cond (eqb x1 0 && eqb x2 Ls) entire (cond (eqb x1 0 || eqb x2 Ls) one neither)

      -- 2.6.2.1, 2.6.2.2, 2.6.2.3
      unfoldable pub p : Fraction
      p = by_ends p1or2 (½ ⊛ (p1or2 ⊹ J)) (whole 1)

      -- ---- 2.6.3, and a depth b from the shell of a ship of breadth B
      module _ (B b : ℕ) where
        unfoldable pub Jb : Fraction
        Jb = whole b ⊘ (whole 15 ⊛ whole B)

        unfoldable pub C : Fraction
        C = whole 12 ⊛ Jb ⊛ (⊖ whole 45 ⊛ Jb ⊹ whole 4)

        unfoldable pub G1 : Fraction
        G1 = ½ ⊛ b11 ⊛ Jb ² ⊹ b12 ⊛ Jb

        unfoldable pub J0 : Fraction
        J0 = lesser J Jb

        unfoldable pub G2 : Fraction
        G2 = ⊖ ⅓ ⊛ b11 ⊛ J0 ³ ⊹ ½ ⊛ (b11 ⊛ J ⊝ b12) ⊛ J0 ² ⊹ b12 ⊛ J ⊛ J0

        -- 2.6.3.2, 2.6.3.3, 2.6.3.1
        unfoldable pub G : Fraction
        G = by_ends G2 (½ ⊛ (G2 ⊹ G1 ⊛ J)) G1

        unfoldable pub r : Fraction
        r = whole 1 ⊝ (whole 1 ⊝ C) ⊛ (whole 1 ⊝ G ⊘ p)

-- ---- 2.6.1, the zones of a ship; bulkheads are counted from the shell, where k = 0 and b = 0

-- r(x1, x2, b), "where r(x1, x2, b0) = 0"
abbrev pub r_from_shell : ℕ → Fraction → ℕ → ℕ → ℕ → ℕ → Fraction
r_from_shell Ls √ x1 x2 B zero = whole 0
r_from_shell Ls √ x1 x2 B (suc b) = r Ls √ x1 x2 B (suc b)

module _ (s : Ship) (√ : Fraction) (b' b : ℕ) where
  -- p(x1j, x2e)·[r(x1j, x2e, bk) - r(x1j, x2e, bk-1)], where bk = b and bk-1 = b'
  unfoldable pub pr : ℕ → ℕ → Fraction
  pr j e =
      p s.L √ (s.aft j) (s.fwd e)
      ⊛ (r_from_shell s.L √ (s.aft j) (s.fwd e) s.B b ⊝ r_from_shell s.L √ (s.aft j) (s.fwd e) s.B b')

  -- pi of the n zones from zone j: a single zone, two adjacent zones, three or more
  unfoldable pub pi : ℕ → ℕ → Fraction
  pi j zero = whole 0
  pi j (suc zero) = pr j j
  pi j (suc (suc zero)) = pr j (j + 1) ⊝ pr j j ⊝ pr (j + 1) (j + 1)
  pi j (suc (suc (suc k))) =
      let n : ℕ = k + 3 in
      pr j (j + n - 1) ⊝ pr j (j + n - 2) ⊝ pr (j + 1) (j + n - 1) ⊹ pr (j + 1) (j + n - 2)
