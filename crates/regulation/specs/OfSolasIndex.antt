-- What "those of SOLAS" means for dp, A, R, v, s and s-min: the regulation's formulas come to document 01's forms; and where the two part. Assumes nothing.
use Rattle.std.specs.Prelude.{ℕ, ◌-◌, ◌%◌, ◌≤◌, ◌<◌, ◌≡◌, ℤ}
use mathlib.Core.List.{List, [], ◌∷◌, Memᴰ}
use Rattle.laws.specs.Fraction.{Fraction, ◌over◌, whole, ◌≈◌, ◌≼◌, ◌≺◌, lesser, ◌⊝◌}
use Rattle.solas.specs.Height.{v_at, row_v, top}
use Rattle.solas.specs.Survival.{s⁴, unless_immersed}
use Rattle.solas.specs.Index.{dp, attained, R, partial_mark}
use Rattle.regulation.specs.RegulationIndex as regulation
use Rattle.regulation.specs.RegulationIndex.{millimetres, centimetres, hundredths, millimetres_above, Opening, counted, uppermost, v_of, vm, Numbers, fourth, Taken, Order, Least}

-- ---- draughts and indices
abbrev pub DraughtIs01's : Type 0
DraughtIs01's = (ds dl : ℕ) → dl ≤ ds → (ds - dl) % 5 ≡ 0 → regulation.dp (millimetres ds) (millimetres dl) ≈ millimetres (dp ds dl)

abbrev pub AttainedIs01's : Type 0
AttainedIs01's = (As Ap Al : Fraction) → regulation.A As Ap Al ≈ attained As Ap Al

abbrev pub RequiredIs01's : Type 0
RequiredIs01's = (L : ℕ) → regulation.R (centimetres L) ≈ R L

abbrev pub PartialMarkIs01's : Type 0
PartialMarkIs01's = (L : ℕ) → regulation.partial_mark (centimetres L) ≈ partial_mark L

-- ---- heights, up to 12.5 m above the draught: v; and the v of a row
abbrev pub HeightIs01's : Type 0
HeightIs01's = (H d : ℕ) → d ≤ H → H ≤ top d → regulation.v (millimetres H) (millimetres d) ≈ v_at H d over 916500

-- the regulation's vm of a row at H over the row at H' (0 where there is none), each with a boundary of its own
abbrev pub vm_of_row : ℕ → ℕ → ℕ → Fraction
vm_of_row H' H d = vm (counted (millimetres H') (millimetres d)) (counted (millimetres H) (millimetres d)) (millimetres d)

abbrev pub RowIs01's : Type 0
RowIs01's = (H' H d : ℕ) → H' ≤ H → H ≤ top d → vm_of_row H' H d ≈ row_v H' H d over 916500

-- the last row of a layer, which document 01 closes at the top of the deepest draught: the uppermost boundary
abbrev pub LastRowIs01's : Type 0
LastRowIs01's = (ds d H' H : ℕ) → d ≤ ds → top ds ≤ H → vm (counted (millimetres H') (millimetres d)) (uppermost (millimetres H)) (millimetres d) ≈ row_v H' H d over 916500

-- ---- where the two part, in three places

-- above 12.5 m: the regulation's v rises on, document 01's is 1
pub record Parted (H d : ℕ) : Type 0 where
  pub uncapped : whole 1 ≺ regulation.v (millimetres H) (millimetres d)
  pub rising : (K : ℕ) → H < K → regulation.v (millimetres H) (millimetres d) ≺ regulation.v (millimetres K) (millimetres d)
  pub capped : v_at H d ≡ 916500

abbrev pub PartedAbove : Type 0
PartedAbove = (H d : ℕ) → top d < H → Parted H d

-- at the uppermost boundary: the regulation's v is 1 at any height, document 01's only where it is entered 12.5 m above the draught or higher
pub record Uppermost (H d : ℕ) : Type 0 where
  pub any_height : v_of (uppermost (millimetres H)) (millimetres d) ≈ whole 1
  pub too_low : H < top d → v_at H d < 916500
  pub high : top d ≤ H → v_of (uppermost (millimetres H)) (millimetres d) ≈ v_at H d over 916500

abbrev pub UppermostParts : Type 0
UppermostParts = (H d : ℕ) → Uppermost H d

-- in a row below its layer's last that ends above 12.5 m, as one may at a lighter draught: document 01 gives it less than the regulation does;
-- but where the row under it does not reach above the draught, both give it all of v
pub record RowParted (H' H d : ℕ) : Type 0 where
  pub less : d < H' → row_v H' H d over 916500 ≺ vm_of_row H' H d
  pub alone : H' ≤ d → vm_of_row H' H d ≈ row_v H' H d over 916500

abbrev pub RowsPartAbove : Type 0
RowsPartAbove = (H' H d : ℕ) → H' < H → top d < H → RowParted H' H d

-- ---- survival, of a lever g, a range t and a heel e, with openings of which the critical one is o above the final waterline, among whatever numbers its
-- roots are found

-- no opening comes lower than that one
pub record Critical (openings : List Opening) (o : ℤ) : Type 0 where
  pub one : Opening
  pub among : Memᴰ one openings
  pub height : one.edge ⊝ one.waterline ≈ millimetres_above o
  pub lowest : (x : Opening) → Memᴰ x openings → one.edge ⊝ one.waterline ≼ x.edge ⊝ x.waterline

abbrev pub SurvivalIs01's : Type 1
SurvivalIs01's = (N : Numbers) (g t e : ℕ) (o : ℤ) (openings : List Opening) (s : N.Number) → Critical openings o →
    Taken N (millimetres g) (hundredths t) (hundredths e) openings s → N.◌≐◌ (fourth N s) (N.fraction (unless_immersed o (s⁴ g t e)))

-- ---- s-min, of two damages at one draught: document 02's "Smaller damage, worse result"

-- s is the factor of one of them, by its lever, range, heel and critical opening
pub record FactorOf (N : Numbers) (g t e : ℕ) (o : ℤ) (s : N.Number) : Type 0 where
  pub openings : List Opening
  pub critical : Critical openings o
  pub taken : Taken N (millimetres g) (hundredths t) (hundredths e) openings s

-- the least of the two has the lesser of both s⁴
abbrev pub LeastIs01's : Type 1
LeastIs01's = (N : Numbers) (O : Order N) (g t e : ℕ) (o : ℤ) (g' t' e' : ℕ) (o' : ℤ) (s₁ s₂ s : N.Number) → FactorOf N g t e o s₁ → FactorOf N g' t' e' o' s₂ →
    Least N O (s₁ ∷ s₂ ∷ []) s → N.◌≐◌ (fourth N s) (N.fraction (lesser (unless_immersed o (s⁴ g t e)) (unless_immersed o' (s⁴ g' t' e'))))
