-- Figures made of others: what sums, differences, parts, halves and mixtures enclose, how far their ends lie apart, and that none is above one. Assumes nothing.
use mathlib.Core.Path.{◌≡◌, ◌∙◌}
use Prim.Native.Nat.{ℕ, ◌+◌, ◌-◌, ◌*◌, ◌/◌, ◌^◌, ◌≤◌, ◌<◌}
use native.Mathlib.Nat.{le_trans, mul_comm, mul-sub, mul-pos, mul-le-mul_left, mul-le-mul_right, div-mul-le_self}
use native.Mathlib.Omega.{arith}
use Rattle.laws.specs.Fraction.{Fraction, Is, ◌over◌, whole, ◌≼◌, ◌⊹◌, ◌⊝◌, ◌⊛◌}
use Rattle.laws.specs.Rounding.{ceil}
use Rattle.laws.proofs.Fraction.{is_over, is_widened, is_⊹, is_⊝, is_⊛, is_shifted, numerators_below}
use Rattle.laws.proofs.Rounding.{ceil_least, ceil_lower, floor_rises, floor_not_above_ceil, ends_apart}
use Rattle.records.specs.declared.Ends.{Ends}
use Rattle.numbers.specs.Figures.{halves_of, portion_of}
use Rattle.numbers.proofs.Figures.{portion_encloses, portion_near, portion_ordered, portion_upper_at_most, halves_enclose, halves_near, halves_ordered, halves_upper_at_most}
use Rattle.solas.specs.Span.{half}
use Rattle.solas.proofs.Within.{is_half}
use Rattle.laws.proofs.FractionRing.{is_mixed}
use Rattle.spans.specs.Rounded.{Probable, Near}
use Rattle.spans.proofs.Rounded.{Enclosed}
use Rattle.penetration.specs.Figures.{plus, minus}
use Rattle.penetration.specs.Penetration.{mixed}
-- checked first, so that a definition that gives another number is refused there
use Rattle.penetration.proofs.Values.{opposite}

-- two fractions over one denominator
module _ {f f' : Fraction} {n n' d d' : ℕ} (h : Is f n 0 d) (k : Is f' n' 0 d') where
  left_over : Is f (d' * n) 0 (d' * d)
  left_over = is_shifted (d' * n) 0 (omega arith) (is_widened d' h)

  right_over : Is f' (d * n') 0 (d' * d)
  right_over = let e : d * d' ≡ d' * d = omega arith in rw e at (is_shifted (d * n') 0 (omega arith) (is_widened d k))

-- ---- sums

pub enclosed_plus : {g g' : Ends} {f f' : Fraction} → Enclosed g f → Enclosed g' f' → Enclosed (plus g g') (f ⊹ f')
unfolding plus
enclosed_plus h k = record {
  n = k.d * h.n + h.d * k.n;
  d = k.d * h.d;
  some = mul-pos k.some h.some;
  is = is_⊹ (left_over h.is k.is) (right_over h.is k.is);
  held = record {
    low = omega (arith, mul-le-mul_left k.d h.held.low, mul-le-mul_left h.d k.held.low);
    high = omega (arith, mul-le-mul_left k.d h.held.high, mul-le-mul_left h.d k.held.high);
  };
}

pub near_plus : {g g' : Ends} {w w' : ℕ} → Near w g → Near w' g' → Near (w + w') (plus g g')
unfolding plus
near_plus h k = record { near = omega (arith, h.near, k.near) }

-- ---- differences

-- the upper end of what is subtracted for the lower end, and the other way round
lower_minus : (l u D n m : ℕ) → l * D ≤ n → m ≤ u * D → (l - u) * D ≤ n - m
lower_minus l u D n m h k = let e : (l - u) * D ≡ D * l - D * u = mul_comm (l - u) D ∙ mul-sub D l u in rw e (omega arith)

upper_minus : (u l D n m : ℕ) → n ≤ u * D → l * D ≤ m → n - m ≤ (u - l) * D
upper_minus u l D n m h k = let e : (u - l) * D ≡ D * u - D * l = mul_comm (u - l) D ∙ mul-sub D u l in rw e (omega arith)

pub enclosed_minus : {g g' : Ends} {f f' : Fraction} → f' ≼ f → Enclosed g f → Enclosed g' f' → Enclosed (minus g g') (f ⊝ f')
unfolding minus
enclosed_minus {g} {g'} l h k =
    let a = k.d * h.n in
    let b = h.d * k.n in
    let e : b ≤ a = omega (arith, numerators_below l (right_over h.is k.is) (left_over h.is k.is)) in
    record {
      n = a - b;
      d = k.d * h.d;
      some = mul-pos k.some h.some;
      is = is_shifted (a - b) 0 (omega arith) (is_⊝ (left_over h.is k.is) (right_over h.is k.is));
      held = record {
        low = omega (arith, lower_minus g.lower g'.upper (k.d * h.d) (10 ^ 9 * a) (10 ^ 9 * b) (omega (arith, mul-le-mul_left k.d h.held.low)) (omega (arith, mul-le-mul_left h.d k.held.high)));
        high = omega (arith, upper_minus g.upper g'.lower (k.d * h.d) (10 ^ 9 * a) (10 ^ 9 * b) (omega (arith, mul-le-mul_left k.d h.held.high)) (omega (arith, mul-le-mul_left h.d k.held.low)));
      };
    }

pub near_minus : {g g' : Ends} {w w' : ℕ} → Near w g → Near w' g' → Near (w + w') (minus g g')
unfolding minus
near_minus h k = record { near = omega (arith, h.near, k.near) }

pub probable_minus : {f g : Ends} → Probable f → Probable g → Probable (minus f g)
unfolding minus
probable_minus h k = record { ordered = omega (arith, h.ordered, k.ordered); at_most_one = omega (arith, h.at_most_one) }

-- ---- parts

pub enclosed_portion : (x L : ℕ) {g : Ends} {f : Fraction} → 0 < L → Enclosed g f → Enclosed (portion_of x g L) ((x over L) ⊛ f)
enclosed_portion x L {g} p h = record {
  n = x * h.n;
  d = L * h.d;
  some = mul-pos p h.some;
  is = is_shifted (x * h.n) 0 (omega arith) (is_⊛ (is_over x p) h.is);
  held = let e : x * (10 ^ 9 * h.n) ≡ 10 ^ 9 * (x * h.n) = omega arith in rw e at (portion_encloses x g p h.held);
}

pub near_portion : (x L : ℕ) {g : Ends} {w : ℕ} → 0 < L → x ≤ L → Near w g → Near (w + 1) (portion_of x g L)
near_portion x L {g} {w} p h k = record { near = portion_near x g p w h k.near }

pub probable_portion : (x L : ℕ) {g : Ends} → 0 < L → x ≤ L → Probable g → Probable (portion_of x g L)
probable_portion x L {g} p h k = record { ordered = portion_ordered x g p k.ordered; at_most_one = le_trans (portion_upper_at_most x g p h) k.at_most_one }

-- ---- halves

pub enclosed_half : {g : Ends} {f : Fraction} → Enclosed g f → Enclosed (halves_of g) (half f)
enclosed_half {g} h =
    record { n = h.n; d = 2 * h.d; some = omega (arith, h.some); is = is_half h.is; held = halves_enclose g h.held }

pub near_half : {g : Ends} {w : ℕ} → Near w g → Near (w / 2 + 1) (halves_of g)
near_half {g} {w} h = record { near = halves_near g w h.near }

pub probable_half : {g : Ends} → Probable g → Probable (halves_of g)
probable_half {g} h = record { ordered = halves_ordered g h.ordered; at_most_one = le_trans (halves_upper_at_most g) h.at_most_one }

pub probable_halves : {f g : Ends} → Probable f → Probable g → Probable (halves_of (plus f g))
unfolding plus halves_of ceil
probable_halves h k = record { ordered = omega (arith, h.ordered, k.ordered); at_most_one = omega (arith, h.at_most_one, k.at_most_one) }

-- ---- mixtures: c/d of the one, and the rest of the other

mixed_low : (q d c r a b D E n m : ℕ) → q * d ≤ a * c + b * r → a * D ≤ n → b * E ≤ m → q * (E * D * d) ≤ E * n * c + D * m * r
mixed_low q d c r a b D E n m h k l = omega (arith, mul-le-mul_left (D * E) h, mul-le-mul_left (c * E) k, mul-le-mul_left (r * D) l)

mixed_high : (q d c r a b D E n m : ℕ) → a * c + b * r ≤ q * d → n ≤ a * D → m ≤ b * E → E * n * c + D * m * r ≤ q * (E * D * d)
mixed_high q d c r a b D E n m h k l = omega (arith, mul-le-mul_left (D * E) h, mul-le-mul_left (c * E) k, mul-le-mul_left (r * D) l)

module _ {c d : ℕ} (p : 0 < d) (l : c ≤ d) where
  pub enclosed_mixed : {f g : Ends} {P C G : Fraction} → Is C c 0 d → Enclosed f P → Enclosed g G → Enclosed (mixed c d f g) (P ⊛ C ⊹ G ⊛ (whole 1 ⊝ C))
  unfolding mixed
  enclosed_mixed {f} {g} e h k =
      let D = h.d in
      let E = k.d in
      let r = d - c in
      record {
        n = E * h.n * c + D * k.n * r;
        d = E * D * d;
        some = mul-pos (mul-pos k.some h.some) p;
        is = is_mixed p (left_over h.is k.is) (right_over h.is k.is) e l;
        held = record {
          low = omega (arith, mixed_low ((f.lower * c + g.lower * r) / d) d c r f.lower g.lower D E (10 ^ 9 * h.n) (10 ^ 9 * k.n) (div-mul-le_self (f.lower * c + g.lower * r) d) h.held.low k.held.low);
          high = omega (arith, mixed_high (ceil (f.upper * c + g.upper * r) d) d c r f.upper g.upper D E (10 ^ 9 * h.n) (10 ^ 9 * k.n) (ceil_lower (f.upper * c + g.upper * r) d p) h.held.high k.held.high);
        };
      }

  pub near_mixed : {f g : Ends} {w : ℕ} → Near w f → Near w g → Near (w + 1) (mixed c d f g)
  unfolding mixed
  near_mixed {f} {g} {w} h k =
      let a : f.upper * c ≤ f.lower * c + w * c = omega (arith, mul-le-mul_right c h.near) in
      let b : g.upper * (d - c) ≤ g.lower * (d - c) + w * (d - c) = omega (arith, mul-le-mul_right (d - c) k.near) in
      let e : w * d ≡ w * c + w * (d - c) = parts w in
      record { near = ends_apart (f.upper * c + g.upper * (d - c)) (f.lower * c + g.lower * (d - c)) w d p (omega arith) }
    where
      parts : (w : ℕ) → w * d ≡ w * c + w * (d - c)
      parts w = omega (arith, mul-sub w d c, mul-le-mul_left w l)

  pub probable_mixed : {f g : Ends} → Probable f → Probable g → Probable (mixed c d f g)
  unfolding mixed
  probable_mixed {f} {g} h k =
      let a : f.lower * c ≤ f.upper * c = mul-le-mul_right c h.ordered in
      let b : g.lower * (d - c) ≤ g.upper * (d - c) = mul-le-mul_right (d - c) k.ordered in
      let m : f.upper * c ≤ 10 ^ 9 * c = mul-le-mul_right c h.at_most_one in
      let n : g.upper * (d - c) ≤ 10 ^ 9 * (d - c) = mul-le-mul_right (d - c) k.at_most_one in
      record {
        ordered = le_trans (floor_rises d (omega arith)) (floor_not_above_ceil (f.upper * c + g.upper * (d - c)) d);
        at_most_one = (ceil_least (f.upper * c + g.upper * (d - c)) d (10 ^ 9) p).1 (omega arith);
      }
