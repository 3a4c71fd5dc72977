-- The rule of the table of bands: its coefficients are small, and in each band its row is p, not negative and not above one. Assumes nothing.
use mathlib.Core.Path.{◌≡◌, refl}
use mathlib.Core.Bool.{Bool, true, false, cond}
use mathlib.Core.List.{List, [], ◌∷◌}
use Prim.Native.Nat.{ℕ, zero, suc, ◌+◌, ◌*◌, ◌^◌, ◌≤◌, ◌<◌}
use native.Mathlib.Nat.{mul-le-mul, mul-le-mul_left, mul-pos, le_of_lt}
use native.Mathlib.Omega.{arith}
use borrow.Author.Tests.{leb-true, leb-false, eqb-true, eqb-false}
use lib.Dec.{leb, leb→le, eqb}
use lib.IntN.{ℤ}
use lib.ListN.{get_or}
use lib.Signed.{mag}
use Rattle.laws.specs.Fraction.{Fraction, ◌less◌over◌}
use Rattle.laws.proofs.Fraction.{is_less_over, is_shifted, is_written}
use Rattle.laws.proofs.Table.{every_below, every_entry, every_number}
use Rattle.solas.specs.Span.{p}
use Rattle.laws.proofs.Polynomial.{pow_two, cube}
use Rattle.bands.specs.declared.Ratio.{Ratio}
use Rattle.bands.specs.Bands.{bands, band_of, entry, counted, valued, quotient_of, Small, Within, Ready, Chance}
-- checked first, so that a definition that gives another number is refused there
use Rattle.bands.proofs.Values.{by_band}

-- ---- the table, tested entry by entry

abbrev pub row : ℕ → List ℤ
row k = get_or bands k []

abbrev smalls : List ℤ → Bool
smalls r = every_below (λ i. leb (mag (entry r i)) 40000) 5

pub rows_small : (k : ℕ) → k < 3 → Small (row k)
rows_small k h = record { small = λ i g. leb→le _ _ (every_number (λ i. leb (mag (entry (row k) i)) 40000) 5 (every_entry smalls [] bands tt k h) i g) }

pub band_below : (L x : ℕ) → band_of L x < 3
unfolding band_of
band_below L x = chosen (leb (33 * x) (5 * L)) (leb (33 * x) (10 * L))
  where
    chosen : (s t : Bool) → cond s 0 (cond t 1 2) < 3
    chosen true t = omega arith
    chosen false true = omega arith
    chosen false false = omega arith

-- ---- at which numbers a band's row is worked out, and on what scale

abbrev pub powers : ℕ → ℕ → List ℕ
powers L x = L * L * L ∷ L * L * x ∷ L * (x * x) ∷ x * x * x ∷ []

abbrev pub firsts : ℕ → ℕ → List ℕ
firsts L x = L ∷ x ∷ 0 ∷ 0 ∷ []

pub cube_within : {a b c : ℕ} → a ≤ 19800 → b ≤ 19800 → c ≤ 19800 → a * b * c ≤ 19800 ^ 3
cube_within ha hb hc = mul-le-mul (mul-le-mul ha hb) hc

module _ (L x : ℕ) (hL : L ≤ 19800) (hx : x ≤ 19800) where
  pub powers_within : Within (powers L x)
  powers_within = record { within = each }
    where
      each : (i : ℕ) → i < 4 → get_or (powers L x) i 0 ≤ 10 ^ 13
      each zero h = omega (arith, cube_within hL hL hL)
      each (suc zero) h = omega (arith, cube_within hL hL hx)
      each (suc (suc zero)) h = omega (arith, cube_within hL hx hx)
      each (suc (suc (suc zero))) h = omega (arith, cube_within hx hx hx)
      each (suc (suc (suc (suc i)))) h = absurd (omega arith)

  pub firsts_within : Within (firsts L x)
  firsts_within = record { within = each }
    where
      each : (i : ℕ) → i < 4 → get_or (firsts L x) i 0 ≤ 10 ^ 13
      each zero h = omega arith
      each (suc zero) h = omega arith
      each (suc (suc zero)) h = omega arith
      each (suc (suc (suc zero))) h = omega arith
      each (suc (suc (suc (suc i)))) h = absurd (omega arith)

-- ---- band by band

-- p as 01 prints it
abbrev shortest : ℕ → ℕ → Fraction
shortest L x = (550 * x ^ 2 * L) less (1089 * x ^ 3) over (100 * L ^ 3)

abbrev middle : ℕ → ℕ → Fraction
middle L x = (19800 * x * L ^ 2 + 32670 * x ^ 2 * L) less (1000 * L ^ 3 + 35937 * x ^ 3) over (29700 * L ^ 3)

abbrev longest : ℕ → ℕ → Fraction
longest L x = (297 * x) less (20 * L) over (297 * L)

-- the row k at the numbers w, on that scale, is f
pub record Band (L k : ℕ) (w : List ℕ) (scale : ℕ) (f : Fraction) : Type 0 where
  pub ready : Ready (row k) w scale L
  pub chance : Chance f L (quotient_of (row k) w scale L)

-- how the row k is worked out for a span of length x
abbrev pub Chosen : ℕ → ℕ → ℕ → Fraction → Type 0
Chosen L x k f = (k ≡ 2 → Band L k (firsts L x) 1 f) × ((k ≡ 2 → ⊥) → Band L k (powers L x) (L * L) f)

module _ (L x : ℕ) (some : 1 ≤ L) (short : L ≤ 19800) (hx : x ≤ L) where
  cubed : L * L * L ≤ 19800 ^ 3
  cubed = cube_within short short short

  room : 0 < L * L * L
  room = mul-pos (mul-pos some some) some

  -- 33x ≤ 5L
  first : 33 * x ≤ 5 * L → Band L 0 (powers L x) (L * L) (shortest L x)
  unfolding valued counted quotient_of
  first h =
      let falls = mul-le-mul_left (x * x) h in
      let low = mul-le-mul_left L (mul-le-mul h h) in
      record {
        ready = record {
          coefficients = rows_small 0 (omega arith);
          numbers = powers_within L x short (omega arith);
          not_negative = omega arith;
          scaled = mul-le-mul short short;
          short = short;
        };
        chance = record {
          value = rw (pow_two x, cube x, cube L) (is_written (is_shifted _ 0 (omega arith) (is_less_over (550 * (x * x) * L) (1089 * (x * x * x)) (omega (arith, room)))) refl refl (omega arith));
          positive = omega (arith, room);
          at_most_one = omega arith;
          centimetre = refl;
          narrow = omega (arith, cubed);
        };
      }

  -- 5L < 33x ≤ 10L
  second : 5 * L < 33 * x → 33 * x ≤ 10 * L →
      Band L 1 (powers L x) (L * L) (middle L x)
  unfolding valued counted quotient_of
  second g h =
      let rises = mul-le-mul_left (L * L) (le_of_lt g) in
      let falls = mul-le-mul_left (x * x) h in
      let low = mul-le-mul_left L (mul-le-mul h h) in
      let low' = mul-le-mul_left (L * L) h in
      record {
        ready = record {
          coefficients = rows_small 1 (omega arith);
          numbers = powers_within L x short (omega arith);
          not_negative = omega arith;
          scaled = mul-le-mul short short;
          short = short;
        };
        chance = record {
          value = rw (pow_two x, pow_two L, cube x, cube L)
              (is_written (is_shifted _ 0 (omega arith) (is_less_over (19800 * x * (L * L) + 32670 * (x * x) * L) (1000 * (L * L * L) + 35937 * (x * x * x)) (omega (arith, room)))) refl refl (omega arith));
          positive = omega (arith, room);
          at_most_one = omega arith;
          centimetre = refl;
          narrow = omega (arith, cubed);
        };
      }

  -- 10L < 33x: the row stands over L³, and its value is L²(297x - 20L)
  third : 10 * L < 33 * x → Band L 2 (firsts L x) 1 (longest L x)
  unfolding valued counted quotient_of
  third h =
      record {
        ready = record {
          coefficients = rows_small 2 (omega arith);
          numbers = firsts_within L x short (omega arith);
          not_negative = omega arith;
          scaled = omega arith;
          short = short;
        };
        chance = record {
          value = is_written (is_shifted _ 0 (omega arith) (is_less_over (297 * x) (20 * L) (omega arith))) refl refl (omega arith);
          positive = omega arith;
          at_most_one = omega arith;
          centimetre = refl;
          narrow = omega arith;
        };
      }

  -- p is the row of the band that x is in
  pub in_band : (k : ℕ) → k ≡ band_of L x → Chosen L x k (p L x)
  unfolding band_of p
  in_band k q = rw q (chosen (leb (33 * x) (5 * L)) (leb (33 * x) (10 * L)) refl refl)
    where
      chosen : (u v : Bool) → leb (33 * x) (5 * L) ≡ u → leb (33 * x) (10 * L) ≡ v →
          Chosen L x (cond u 0 (cond v 1 2)) (cond u (shortest L x) (cond v (middle L x) (longest L x)))
      chosen true v d e = (λ z. absurd (omega arith), λ z. first (leb-true _ _ d))
      chosen false true d e = (λ z. absurd (omega arith), λ z. second (leb-false _ _ d) (leb-true _ _ e))
      chosen false false d e = (λ z. third (leb-false _ _ e), λ z. absurd (z refl))

  -- so there is a ratio that p is
  pub ratio_of_lem : (r : Ratio) × Chance (p L x) L r
  ratio_of_lem = chosen (eqb (band_of L x) 2) refl
    where
      chosen : (u : Bool) → eqb (band_of L x) 2 ≡ u → (r : Ratio) × Chance (p L x) L r
      chosen true e = (quotient_of (row (band_of L x)) (firsts L x) 1 L, ((in_band (band_of L x) refl).0 (eqb-true _ _ e)).chance)
      chosen false e = (quotient_of (row (band_of L x)) (powers L x) (L * L) L, ((in_band (band_of L x) refl).1 (eqb-false _ _ e)).chance)
