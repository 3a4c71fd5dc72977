-- Survival is that of the regulation: document 01's s⁴ is the fourth power of whatever 002, 2.7.3, gives for s, and nothing where 2.7.6.2 takes s as zero.
-- Assumes nothing.
use Prim.Native.Nat.{ℕ, suc, ◌+◌, ◌-◌, ◌*◌, ◌^◌, ◌≤◌, ◌<◌, min, zero-le}
use mathlib.Core.List.{List}
use native.Mathlib.Nat.{mul-pos, mul_comm}
use native.Mathlib.Omega.{arith}
use lib.Dec.{lit<, le→leb}
use lib.IntN.{ℤ, pos, negsuc}
use lib.Signed.{le_z_yes}
use mathlib.Core.Path.{refl}
use Rattle.laws.specs.Fraction.{Fraction, ◌less◌over◌, whole, Is, ◌≈◌, ◌≼◌, ◌≺◌, ◌⊝◌, ◌⊛◌, ◌⊘◌}
use Rattle.laws.proofs.Choice.{split}
use Rattle.laws.proofs.Polynomial.{pow_two}
use Rattle.laws.proofs.Fraction.{is_nothing, is_one, is_shifted, is_written, is_recast, is_⊝, is_⊛, is_⊘, same, below, strictly_below, ≈_refl, ≈_sym, ≼_of_≈, ≼_trans}
use Rattle.laws.proofs.FractionCompare.{is_times, is_square, difference_not_below, difference_below}
use Rattle.laws.proofs.FractionOrder.{is_lesser}
use Rattle.solas.specs.Survival.{unless_immersed}
use Rattle.solas.proofs.Survival.{is_s⁴, lost_if_immersed, kept_if_dry, dry_not_below}
use Rattle.regulation.specs.RegulationIndex.{millimetres, hundredths, millimetres_above, Limits, cargo, under_root, Opening, Numbers, square, fourth, Final, UnlessImmersed}
use Rattle.regulation.specs.OfSolasIndex.{Critical, SurvivalIs01's}
use Rattle.regulation.proofs.Units.{is_millimetres, is_hundredths, metres_in_millimetres, degrees_in_hundredths}

-- ---- powers of products
module _ (N : Numbers) where
  infix 4 ◌≐◌
  infixl 7 ◌·◌
  open N use {Number, ◌≐◌, ◌·◌, fraction, same_refl, same_sym, same_trans, same_product, commutes, associates, fraction_product}

  square_product : (a b : Number) → square N (a · b) ≐ square N a · square N b
  square_product a b =
      let inner : b · (a · b) ≐ a · (b · b) = same_trans (commutes b (a · b)) (associates a b b) in
      same_trans (associates a b (a · b)) (same_trans (same_product (same_refl a) inner) (same_sym (associates a a (b · b))))

  pub square_same : {a b : Number} → a ≐ b → square N a ≐ square N b
  square_same p = same_product p p

  pub fourth_same : {a b : Number} → a ≐ b → fourth N a ≐ fourth N b
  fourth_same p = square_same (square_same p)

  pub fourth_product : (a b : Number) → fourth N (a · b) ≐ fourth N a · fourth N b
  fourth_product a b = same_trans (square_same (square_product a b)) (square_product (square N a) (square N b))

  square_fraction : {a : Number} {f : Fraction} → a ≐ fraction f → square N a ≐ fraction (f ⊛ f)
  square_fraction {f = f} p = same_trans (square_same p) (same_sym (fraction_product f f))

  pub fourth_fraction : {a : Number} {f : Fraction} → a ≐ fraction f → fourth N a ≐ fraction (f ⊛ f ⊛ (f ⊛ f))
  fourth_fraction p = square_fraction (square_fraction p)

-- ---- what is under the roots

-- two quotients with one denominator
is_ratio : {f g : Fraction} {a c d : ℕ} → 0 < d → 0 < c → Is f a 0 d → Is g c 0 d → Is (f ⊘ g) a 0 c
is_ratio {f} {g} {a} {c} {d} p q h k = is_recast a 0 c (mul-pos p q) (omega arith) (is_⊘ q h k)

is_product : {f g : Fraction} {a b d e : ℕ} → Is f a 0 d → Is g b 0 e → Is (f ⊛ g) (a * b) 0 (d * e)
is_product {f} {g} {a} {b} {d} {e} h k = is_shifted (a * b) 0 (omega arith) (is_⊛ h k)

pub is_under_root : {TGZmax TRange : Fraction} {G T : ℕ} → 0 < G → 0 < T → Is TGZmax G 0 1000 → Is TRange T 0 100 → (g t : ℕ) →
    Is (under_root TGZmax TRange (millimetres g) (hundredths t)) (min g G * min t T) 0 (G * T)
is_under_root p q h k g t =
    is_product (is_ratio (lit< tt) p (is_lesser (lit< tt) (is_millimetres g) h) h) (is_ratio (lit< tt) q (is_lesser (lit< tt) (is_hundredths t) k) k)

-- ---- 2.7.3's limits in document 01's units: caps of G and T for lever and range, and w from the lesser heel to the greater
pub record InUnits (l : Limits) (G T least w : ℕ) : Type 0 where
  pub lever : Is l.TGZmax G 0 1000
  pub range : Is l.TRange T 0 100
  pub lesser_heel : Is l.θmin least 0 100
  pub greater_heel : Is l.θmax (least + w) 0 100
  pub some_lever : 0 < G
  pub some_range : 0 < T
  pub some_heels : 0 < w

pub cargo_in_units : InUnits cargo 120 1600 2500 500
cargo_in_units = record {
  lever = metres_in_millimetres 12;
  range = degrees_in_hundredths 16;
  lesser_heel = degrees_in_hundredths 25;
  greater_heel = degrees_in_hundredths 30;
  some_lever = lit< tt;
  some_range = lit< tt;
  some_heels = lit< tt;
}

-- any form of s⁴, from a number's square q
power : {l : Limits} {G T least w : ℕ} → InUnits l G T least w → (g t e : ℕ) {q f : Fraction} → Is q (min w (least + w - e)) 0 w →
    Is f (min g G * min t T * min w (least + w - e) ^ 2) 0 (G * T * w ^ 2) → q ⊛ q ⊛ under_root l.TGZmax l.TRange (millimetres g) (hundredths t) ≈ f
power {G = G} {T} {least} {w} u g t e h k =
    let root = is_under_root u.some_lever u.some_range u.lever u.range g t in
    let positive : 0 < G * T * w ^ 2 = mul-pos (mul-pos u.some_lever u.some_range) (rw pow_two (mul-pos u.some_heels u.some_heels)) in
    same positive (is_written (is_product (is_square h) root) (mul_comm (min w (least + w - e) ^ 2) (min g G * min t T)) refl (mul_comm (w ^ 2) (G * T))) k

-- nothing, four times itself
nothing_again : whole 0 ⊛ whole 0 ⊛ (whole 0 ⊛ whole 0) ≈ whole 0
unfolding ◌⊛◌ ◌less◌over◌
nothing_again = record { cross = refl }

module _ (N : Numbers) where
  infix 4 ◌≐◌
  infixl 7 ◌·◌
  open N use {Number, ◌≐◌, ◌·◌, fraction, same_sym, same_trans, same_product, same_fraction, fraction_product}

  -- a's square is n/w
  abbrev Squared : Number → ℕ → ℕ → Type 0
  Squared a n w = (q : Fraction) × (square N a ≐ fraction q) × Is q n 0 w

  module _ {l : Limits} {G T least w : ℕ} (u : InUnits l G T least w) (e : ℕ) where
    is_heel : e ≤ least + w → Is ((l.θmax ⊝ hundredths e) ⊘ (l.θmax ⊝ l.θmin)) (least + w - e) 0 w
    is_heel p =
        let left = is_shifted (least + w - e) 0 (omega arith) (is_⊝ u.greater_heel (is_hundredths e)) in
        let between = is_shifted w 0 (omega arith) (is_⊝ u.greater_heel u.lesser_heel) in
        is_ratio (lit< tt) u.some_heels left between

    -- all three cases of K are one quotient
    K_squared : {GZmax Range : Fraction} {s : Number} (f : Final N l GZmax Range (hundredths e) s) → Squared f.K (min w (least + w - e)) w
    K_squared f = split e least upright (λ p. split (least + w) e lost (heeled p))
      where
        upright : e ≤ least → Squared f.K (min w (least + w - e)) w
        upright p = (
          whole 1 ⊛ whole 1,
          square_fraction N (f.upright (below {d = 100} (lit< tt) (is_hundredths e) u.lesser_heel (omega arith))),
          is_shifted (min w (least + w - e)) 0 (omega arith) (is_times 1 (is_one u.some_heels)),
        )

        lost : least + w ≤ e → Squared f.K (min w (least + w - e)) w
        lost p = (
          whole 0 ⊛ whole 0,
          square_fraction N (f.lost (below {d = 100} (lit< tt) u.greater_heel (is_hundredths e) (omega arith))),
          is_shifted (min w (least + w - e)) 0 (omega arith) (is_times 0 (is_nothing u.some_heels)),
        )

        heeled : least < e → e < least + w → Squared f.K (min w (least + w - e)) w
        heeled p q = (
          (l.θmax ⊝ hundredths e) ⊘ (l.θmax ⊝ l.θmin),
          f.heeled (strictly_below u.lesser_heel (is_hundredths e) (omega arith)) (strictly_below (is_hundredths e) u.greater_heel (omega arith)),
          is_shifted (min w (least + w - e)) 0 (omega arith) (is_heel (omega arith)),
        )

  -- so s-final to the fourth is that form
  pub final_fourth : {l : Limits} {G T least w : ℕ} → InUnits l G T least w → (g t e : ℕ) {s : Number} {f : Fraction} →
      Final N l (millimetres g) (hundredths t) (hundredths e) s → Is f (min g G * min t T * min w (least + w - e) ^ 2) 0 (G * T * w ^ 2) → fourth N s ≐ fraction f
  final_fourth {l} u g t e k h =
      let (q, squared, quotient) = K_squared u e k in
      let parts = same_product (square_fraction N squared) k.fourth_root in
      let together = same_trans (same_sym (fraction_product (q ⊛ q) (under_root l.TGZmax l.TRange (millimetres g) (hundredths t)))) (same_fraction (power u g t e quotient h)) in
      same_trans (fourth_same N k.product) (same_trans (fourth_product N k.K k.root) (same_trans parts together))

  -- nothing to the fourth is nothing
  pub fourth_nothing : {s : Number} → s ≐ fraction (whole 0) → fourth N s ≐ fraction (whole 0)
  fourth_nothing z = same_trans (fourth_fraction N z) (same_fraction nothing_again)

-- ---- an opening's lower edge and the final waterline, by how far the critical one is above it
edge_dry : (x : Opening) {h : Fraction} (n : ℕ) → h ≈ millimetres_above (pos n) → h ≼ x.edge ⊝ x.waterline → x.waterline ≼ x.edge
edge_dry x n e l =
    let positive = below {d = 1000} (lit< tt) (is_nothing (lit< tt)) (is_millimetres n) (omega arith) in
    difference_not_below x.edge x.waterline (≈_refl (x.edge ⊝ x.waterline)) (≼_trans positive (≼_trans (≼_of_≈ (≈_sym e)) l))

edge_immersed : (x : Opening) (n : ℕ) → x.edge ⊝ x.waterline ≈ millimetres_above (negsuc n) → x.edge ≺ x.waterline
edge_immersed x n e =
    difference_below x.edge x.waterline e (strictly_below {d = 1000} (is_⊝ (is_nothing (lit< tt)) (is_millimetres (suc n))) (is_nothing (lit< tt)) (omega arith))

-- s is nothing or what it is otherwise, and so is its fourth power
pub unless_immersed_lem : (N : Numbers) (o : ℤ) {openings : List Opening} {Otherwise : Type 0} {s : N.Number} {f : Fraction} → Critical openings o →
    UnlessImmersed N openings Otherwise s → (Otherwise → N.◌≐◌ (fourth N s) (N.fraction f)) → N.◌≐◌ (fourth N s) (N.fraction (unless_immersed o f))
unless_immersed_lem N (pos n) {f = f} c k h =
    rw (kept_if_dry (pos n) f ((dry_not_below (pos n)).1 (le_z_yes (le→leb 0 n zero-le)))) (h (k.dry (λ x m. edge_dry x n c.height (c.lowest x m))))
unless_immersed_lem N (negsuc n) {f = f} c k h =
    rw (lost_if_immersed (negsuc n) f refl) (fourth_nothing N (k.immersed c.one c.among (edge_immersed c.one n c.height)))

pub survival_is_01's : SurvivalIs01's
survival_is_01's N g t e o openings s c k = unless_immersed_lem N o c k (λ f. final_fourth N cargo_in_units g t e f (is_s⁴ g t e))
