-- What the regulation itself says of s, s-min, v, A, dp and R, in its own letters, in metres and degrees: document 002, 2.4.1, 2.5, 2.7.3, 2.7.6.2 and 2.7.7,
-- and document 003, 4.1 and section 10. Assumes nothing.
use Rattle.std.specs.Prelude.{ℕ, suc, cond, ◌↔◌, ℤ, pos, negsuc}
use mathlib.Core.List.{List, Memᴰ}
use Rattle.laws.specs.Fraction.{Fraction, ◌over◌, whole, ◌≈◌, ◌≼◌, ◌≺◌, ◌≼?◌, lesser, ◌⊹◌, ◌⊝◌, ◌⊛◌, ◌⊘◌}

-- ---- the units of document 01, in metres and degrees
abbrev pub millimetres : ℕ → Fraction
millimetres n = n over 1000

abbrev pub centimetres : ℕ → Fraction
centimetres n = n over 100

abbrev pub hundredths : ℕ → Fraction
hundredths n = n over 100

-- millimetres above something, or below it
abbrev pub millimetres_above : ℤ → Fraction
millimetres_above (pos n) = millimetres n
millimetres_above (negsuc n) = whole 0 ⊝ millimetres (suc n)

-- ---- 003, 4.1: the light service draught plus 60% of the difference
unfoldable pub dp : Fraction → Fraction → Fraction
dp ds dl = dl ⊹ (60 over 100) ⊛ (ds ⊝ dl)

-- ---- 002, 2.5.1
unfoldable pub A : Fraction → Fraction → Fraction → Fraction
A As Ap Al = (4 over 10) ⊛ As ⊹ (4 over 10) ⊛ Ap ⊹ (2 over 10) ⊛ Al

-- ---- 003, 10.1.1 and 10.1.2, cargo ships of the length Ls: above 100 m, and up to 100 m
unfoldable pub R₀ : Fraction → Fraction
R₀ Ls = whole 1 ⊝ whole 128 ⊘ (Ls ⊹ whole 152)

unfoldable pub R : Fraction → Fraction
R Ls = cond (Ls ≼? whole 100) (whole 1 ⊝ whole 1 ⊘ (whole 1 ⊹ (Ls ⊘ whole 100) ⊛ (R₀ Ls ⊘ (whole 1 ⊝ R₀ Ls)))) (R₀ Ls)

-- 003, section 10, and 002, 2.4.1: what each partial index must reach
unfoldable pub partial_mark : Fraction → Fraction
partial_mark Ls = (5 over 10) ⊛ R Ls

-- ---- 002, 2.7.7.2: v of a height H over the baseline at the draught d
unfoldable pub v : Fraction → Fraction → Fraction
v H d = cond (H ⊝ d ≼? 78 over 10) ((8 over 10) ⊛ ((H ⊝ d) ⊘ (78 over 10))) ((8 over 10) ⊹ (2 over 10) ⊛ ((H ⊝ d ⊝ (78 over 10)) ⊘ (47 over 10)))

-- what may limit flooding upwards: nothing, under the first; a boundary at a height; the uppermost watertight boundary, at a height
pub data Boundary : Type 0 where
  none : Boundary
  at uppermost : Fraction → Boundary

-- boundaries are counted upwards from the waterline: one that is not above it is none
unfoldable pub counted : Fraction → Fraction → Boundary
counted H d = cond (H ≼? d) none (at H)

unfoldable pub v_of : Boundary → Fraction → Fraction
v_of none d = whole 0
v_of (at H) d = v H d
v_of (uppermost H) d = whole 1

-- taken as no less than zero and no more than 1
unfoldable pub held : Fraction → Fraction
held f = cond (f ≼? whole 0) (whole 0) (cond (f ≼? whole 1) f (whole 1))

-- 2.7.7.1: from the boundary before, m - 1, to the boundary m
unfoldable pub vm : Boundary → Boundary → Fraction → Fraction
vm before m d = held (v_of m d ⊝ v_of before d)

-- ---- 002, 2.7.3

-- what differs there by the type of ship and by the damage
pub record Limits : Type 0 where
  pub θmin : Fraction
  pub θmax : Fraction
  pub TGZmax : Fraction
  pub TRange : Fraction

-- cargo ships; with no cross-flooding their other two factors are unity (2.7.2, 2.7.4)
abbrev pub cargo : Limits
cargo = record { θmin = whole 25; θmax = whole 30; TGZmax = 12 over 100; TRange = whole 16 }

-- what stands under a fourth root: GZmax not to be taken as more than TGZmax, Range not as more than TRange
abbrev pub under_root : Fraction → Fraction → Fraction → Fraction → Fraction
under_root TGZmax TRange GZmax Range = (lesser GZmax TGZmax ⊘ TGZmax) ⊛ (lesser Range TRange ⊘ TRange)

-- an opening through which progressive flooding may take place that is not accounted for: how high its lower edge is, and the final waterline there
pub record Opening : Type 0 where
  pub edge : Fraction
  pub waterline : Fraction

-- numbers among which roots may be found: they hold the fractions, and multiply as these do
pub record Numbers : Type 1 where
  infix 4 ◌≐◌
  infixl 7 ◌·◌
  pub Number : Type 0
  pub ◌≐◌ : Number → Number → Type 0
  pub ◌·◌ : Number → Number → Number
  pub fraction : Fraction → Number
  pub same_refl : (a : Number) → a ≐ a
  pub same_sym : {a b : Number} → a ≐ b → b ≐ a
  pub same_trans : {a b c : Number} → a ≐ b → b ≐ c → a ≐ c
  pub same_product : {a a' b b' : Number} → a ≐ a' → b ≐ b' → a · b ≐ a' · b'
  pub commutes : (a b : Number) → a · b ≐ b · a
  pub associates : (a b c : Number) → a · b · c ≐ a · (b · c)
  pub same_fraction : {f g : Fraction} → f ≈ g → fraction f ≐ fraction g
  pub fraction_product : (f g : Fraction) → fraction (f ⊛ g) ≐ fraction f · fraction g

module _ (N : Numbers) where
  infix 4 ◌≐◌
  infixl 7 ◌·◌
  open N use {Number, ◌≐◌, ◌·◌, fraction}

  abbrev pub square : Number → Number
  square a = a · a

  abbrev pub fourth : Number → Number
  fourth a = square (square a)

  -- s-final is K times the fourth root; a root is known by its power, and its sign is left open
  pub record Final (limits : Limits) (GZmax Range θe : Fraction) (s : Number) : Type 0 where
    pub K : Number
    pub root : Number
    pub upright : θe ≼ limits.θmin → K ≐ fraction (whole 1)
    pub lost : limits.θmax ≼ θe → K ≐ fraction (whole 0)
    pub heeled : limits.θmin ≺ θe → θe ≺ limits.θmax → square K ≐ fraction ((limits.θmax ⊝ θe) ⊘ (limits.θmax ⊝ limits.θmin))
    pub fourth_root : fourth root ≐ fraction (under_root limits.TGZmax limits.TRange GZmax Range)
    pub product : s ≐ K · root

  -- 2.7.6.2: "The factor s_i is to be taken as zero in those cases where the final waterline, taking into account sinkage, heel and trim, immerses .. the lower
  -- edge of openings through which progressive flooding may take place and such flooding is not accounted for in the calculation of factor s_i", of cargo ships (.1)
  -- and of passenger ships (.3); and where it immerses none, the rest of 2.7 has it
  pub record UnlessImmersed (openings : List Opening) (Otherwise : Type 0) (s : Number) : Type 0 where
    pub immersed : (x : Opening) → Memᴰ x openings → x.edge ≺ x.waterline → s ≐ fraction (whole 0)
    pub dry : ((x : Opening) → Memᴰ x openings → x.waterline ≼ x.edge) → Otherwise

  -- s_i of a cargo ship
  abbrev pub Taken : Fraction → Fraction → Fraction → List Opening → Number → Type 0
  Taken GZmax Range θe openings s = UnlessImmersed openings (Final cargo GZmax Range θe s) s

  -- an order among such numbers: what is the same is in it either way, fractions are in it as they are by themselves, and products with numbers that are not
  -- below zero keep it
  pub record Order : Type 1 where
    infix 4 ◌⊑◌
    pub ◌⊑◌ : Number → Number → Type 0
    pub below_same : {a b : Number} → a ≐ b → a ⊑ b
    pub below_trans : {a b c : Number} → a ⊑ b → b ⊑ c → a ⊑ c
    pub below_fraction : {f g : Fraction} → (fraction f ⊑ fraction g) ↔ (f ≼ g)
    pub product_not_negative : {a b : Number} → fraction (whole 0) ⊑ a → fraction (whole 0) ⊑ b → fraction (whole 0) ⊑ a · b
    pub product_keeps : {a b c : Number} → fraction (whole 0) ⊑ c → a ⊑ b → a · c ⊑ b · c

  -- 2.7.7.3: "s_min = the least s-factor for all combinations of damages obtained when the assumed damage extends from the assumed damage height H_m
  -- downwards"; for, by 2.5.6, "if a lesser extent of damage will give a more severe result, such extent is to be assumed". No s-factor is negative.
  pub record Least (O : Order) (factors : List Number) (s : Number) : Type 0 where
    pub not_negative : (x : Number) → Memᴰ x factors → O.◌⊑◌ (fraction (whole 0)) x
    pub one : Number
    pub among : Memᴰ one factors
    pub that : s ≐ one
    pub least : (x : Number) → Memᴰ x factors → O.◌⊑◌ s x
