-- Document 01's inner p is, in each of its three bands, the general law whose damage lengths end at 10L with the knuckle at 5L, where a span of x
-- is 33x. Assumes nothing.
use Prim.Native.Nat.{ℕ, ◌+◌, ◌-◌, ◌*◌, ◌^◌, ◌≤◌, ◌<◌}
use mathlib.Core.Path.{◌≡◌, refl}
use mathlib.Core.Bool.{true}
use mathlib.Core.List.{[], ◌∷◌}
use native.Mathlib.Nat.{add-sub_cancel_left, le_dest, le_refl, le-add_right, le_of_lt, mul-pos, mul-le-mul_left, one-le-pow}
use native.Mathlib.Omega.{arith}
use borrow.Author.Tests.{leb-true}
use lib.Dec.{leb}
use Rattle.laws.specs.Fraction.{◌less◌over◌, Is}
use Rattle.laws.specs.Span.{e3}
use Rattle.laws.proofs.Fraction.{is_crossed}
use Rattle.laws.proofs.FractionOrder.{is_chosen}
use Rattle.laws.proofs.SpanParts.{e3_below, e3_above}
use Rattle.laws.proofs.Polynomial.{Expr, C, ◌:+◌, ◌:*◌, ◌:^◌, ◌:=◌, ◌⊲◌, eq, ◌⊢◌, poly1, poly3, poly4, poly7, poly9}
use Rattle.solas.specs.Span.{p}
use Rattle.solas.specs.General.{Law, fall, between, mass, beyond, unit, law}
use Rattle.solas.proofs.GeneralLayer.{beyond_nothing}
use Rattle.solas.proofs.Cut.{peak, mass_sum, between_below, between_above}
-- checked first, so that a definition that gives another number is refused there
use Rattle.solas.proofs.Values.{p_1500}

-- one, on the scale of a ship of length L: 36W²κ²·λL
abbrev pub full : Law → ℕ → ℕ
full l L = unit l * (l.λx * L)

-- inner p on that scale, for a span of length X
abbrev pub inner : Law → ℕ → ℕ
inner l X = l.W * between l 0 l.κ X + beyond l X

-- ---- a law whose knuckle halves its damage lengths, as document 01's does
abbrev pub even : ℕ → ℕ → Law
even K n = record { κ = K; W = K; λx = n }

pub even_fall : (K n : ℕ) → fall (even K n) ≡ 9 * K
even_fall K n = omega arith

pub even_peak : (K n : ℕ) → peak (even K n) ≡ 10 * K ^ 2
even_peak K n = let e : 11 * K - K ≡ 10 * K = omega arith in rw e (poly1 (λ K. [] ⊢ K :* (C 10 :* K) := C 10 :* K :^ 2) tt K)

-- inner p in closed form, for a span that is shorter than the knuckle, and one that is longer
module _ (K n : ℕ) where
  pub inner_below : {X : ℕ} → X ≤ K → inner (even K n) X + 9 * K ^ 2 * X ^ 3 ≡ 30 * K ^ 3 * X ^ 2
  inner_below {X} h =
      rw (beyond_nothing (even K n) X h)
      (poly3 (λ K X T. (K ⊲ T :+ C 9 :* K :* X :^ 3 := C 3 :* (C 10 :* K :^ 2) :* X :^ 2) ∷ [] ⊢
      K :* T :+ C 0 :+ C 9 :* K :^ 2 :* X :^ 3 := C 30 :* K :^ 3 :* X :^ 2) tt
      K X (between (even K n) 0 K X) (rw (even_fall K n, even_peak K n) at (between_below (even K n) (le_refl K) h)))

  past : (t : ℕ) → between (even K n) 0 K (K + t) + 12 * K ^ 4 ≡ 33 * K ^ 3 * (K + t)
  past t =
      poly4 (λ K X T m. (C 1 ⊲ T :+ C 3 :* (C 10 :* K :^ 2) :* K :^ 2 := m :* X :+ C 2 :* (C 9 :* K) :* K :^ 3) ∷
      (X ⊲ m :+ C 3 :* (C 9 :* K) :* K :^ 2 := C 6 :* (C 10 :* K :^ 2) :* K) ∷ [] ⊢ T :+ C 12 :* K :^ 4 := C 33 :* K :^ 3 :* X) tt
      K (K + t) (between (even K n) 0 K (K + t)) (mass (even K n) 0 K)
      (rw (even_fall K n, even_peak K n) at (between_above (even K n) (le_refl K) (le-add_right K t)))
      (rw (even_fall K n, even_peak K n) at (mass_sum (even K n) (le_refl K)))

  pub inner_near : {X : ℕ} → K ≤ X → X ≤ 2 * K → inner (even K n) X + (8 * K ^ 5 + K ^ 2 * X ^ 3) ≡ 24 * K ^ 4 * X + 6 * K ^ 3 * X ^ 2
  unfolding beyond
  inner_near {X} h k =
      let (t, e) = le_dest h in
      let s : t ≤ K = omega arith in
      rw (← e, add-sub_cancel_left K t)
      (poly4 (λ K t T E. (K ⊲ T :+ C 12 :* K :^ 4 := C 33 :* K :^ 3 :* (K :+ t)) ∷ (K :^ 2 ⊲ E :+ t :^ 3 := C 3 :* K :* t :^ 2) ∷ [] ⊢
      K :* T :+ K :^ 2 :* E :+ (C 8 :* K :^ 5 :+ K :^ 2 :* (K :+ t) :^ 3) := C 24 :* K :^ 4 :* (K :+ t) :+ C 6 :* K :^ 3 :* (K :+ t) :^ 2) tt
      K t (between (even K n) 0 K (K + t)) (e3 K t) (past t) (e3_below s))

  pub inner_far : {X : ℕ} → 2 * K ≤ X → inner (even K n) X + 16 * K ^ 5 ≡ 36 * K ^ 4 * X
  unfolding beyond
  inner_far {X} h =
      let k : K ≤ X = omega arith in
      let (t, e) = le_dest k in
      let s : K ≤ t = omega arith in
      rw (← e, add-sub_cancel_left K t)
      (poly4 (λ K t T E. (K ⊲ T :+ C 12 :* K :^ 4 := C 33 :* K :^ 3 :* (K :+ t)) ∷ (K :^ 2 ⊲ E :+ K :^ 3 := C 3 :* K :^ 2 :* t) ∷ [] ⊢
      K :* T :+ K :^ 2 :* E :+ C 16 :* K :^ 5 := C 36 :* K :^ 4 :* (K :+ t)) tt
      K t (between (even K n) 0 K (K + t)) (e3 K t) (past t) (e3_above s))

-- ---- each band by its coefficients, where lengths are M times as fine

-- the knuckle, the length of a span, and what p is over, as they are quoted
abbrev pub knuckle : Expr → Expr → Expr
knuckle M L = M :* (C 5 :* L)

abbrev pub span : Expr → Expr → Expr
span M x = M :* C 33 :* x

abbrev pub scale : Expr → Expr → Expr
scale M L = C 36 :* knuckle M L :^ 2 :* knuckle M L :^ 2 :* span M L

abbrev fine : ℕ → ℕ → Law
fine M L = even (M * (5 * L)) (M * 33)

-- what each coefficient is of the divisor
module _ (M : ℕ) {L : ℕ} (positive : 0 < L) (x : ℕ) where
  short : (a b d : ℕ) → leb 1 d ≡ true → 2 * a ≡ 11 * d → 100 * b ≡ 1089 * d → 33 * x ≤ 5 * L →
      Is ((a * x ^ 2 * L) less (b * x ^ 3) over (d * L ^ 3)) (inner (fine M L) (M * 33 * x)) 0 (full (fine M L) L)
  short a b d q ea eb h =
      let k : M * 33 * x ≤ M * (5 * L) = omega (arith, mul-le-mul_left M h) in
      is_crossed _ _ _ _ _ (mul-pos (leb-true 1 d q) (one-le-pow 3 L positive))
      (poly7 (λ M L x N a b d. eq (C 0) (d :* L :^ 3) (N :+ C 9 :* knuckle M L :^ 2 :* span M x :^ 3) (C 30 :* knuckle M L :^ 3 :* span M x :^ 2) ∷
      (C 2970 :* knuckle M L :^ 3 :* M :^ 2 :* L :^ 3 :* x :^ 2 ⊲ C 2 :* a := C 11 :* d) ∷
      eq (C 0) (C 297 :* knuckle M L :^ 2 :* M :^ 3 :* L :^ 3 :* x :^ 3) (C 100 :* b) (C 1089 :* d) ∷ [] ⊢
      a :* x :^ 2 :* L :* scale M L := N :* (d :* L :^ 3) :+ b :* x :^ 3 :* scale M L) tt
      M L x (inner (fine M L) (M * 33 * x)) a b d (inner_below (M * (5 * L)) (M * 33) k) ea eb)

  middle : (a b c e d : ℕ) → leb 1 d ≡ true → 3 * a ≡ 2 * d → 10 * b ≡ 11 * d → 297 * c ≡ 10 * d → 100 * e ≡ 121 * d → 5 * L ≤ 33 * x → 33 * x ≤ 10 * L →
      Is ((a * x * L ^ 2 + b * x ^ 2 * L) less (c * L ^ 3 + e * x ^ 3) over (d * L ^ 3)) (inner (fine M L) (M * 33 * x)) 0 (full (fine M L) L)
  middle a b c e d q ea eb ec ee g h =
      let j : M * (5 * L) ≤ M * 33 * x = omega (arith, mul-le-mul_left M g) in
      let k : M * 33 * x ≤ 2 * (M * (5 * L)) = omega (arith, mul-le-mul_left M h) in
      is_crossed _ _ _ _ _ (mul-pos (leb-true 1 d q) (one-le-pow 3 L positive))
      (poly9 (λ M L x N a b c e d. eq (C 0) (d :* L :^ 3) (N :+ (C 8 :* knuckle M L :^ 5 :+ knuckle M L :^ 2 :* span M x :^ 3))
      (C 24 :* knuckle M L :^ 4 :* span M x :+ C 6 :* knuckle M L :^ 3 :* span M x :^ 2) ∷
      (C 396 :* knuckle M L :^ 4 :* M :* L :^ 3 :* x ⊲ C 3 :* a := C 2 :* d) ∷ (C 594 :* knuckle M L :^ 3 :* M :^ 2 :* L :^ 3 :* x :^ 2 ⊲ C 10 :* b := C 11 :* d) ∷
      eq (C 0) (C 4 :* knuckle M L :^ 4 :* M :* L :^ 4) (C 297 :* c) (C 10 :* d) ∷
      eq (C 0) (C 297 :* knuckle M L :^ 2 :* M :^ 3 :* L :^ 3 :* x :^ 3) (C 100 :* e) (C 121 :* d) ∷ [] ⊢
      (a :* x :* L :^ 2 :+ b :* x :^ 2 :* L) :* scale M L := N :* (d :* L :^ 3) :+ (c :* L :^ 3 :+ e :* x :^ 3) :* scale M L) tt
      M L x (inner (fine M L) (M * 33 * x)) a b c e d (inner_near (M * (5 * L)) (M * 33) j k) ea eb ec ee)

  long : (a c d : ℕ) → leb 1 d ≡ true → a ≡ d → 297 * c ≡ 20 * d → 10 * L ≤ 33 * x →
      Is ((a * x) less (c * L) over (d * L)) (inner (fine M L) (M * 33 * x)) 0 (full (fine M L) L)
  long a c d q ea ec h =
      let k : 2 * (M * (5 * L)) ≤ M * 33 * x = omega (arith, mul-le-mul_left M h) in
      is_crossed _ _ _ _ _ (mul-pos (leb-true 1 d q) positive)
      (poly7 (λ M L x N a c d. eq (C 0) (d :* L) (N :+ C 16 :* knuckle M L :^ 5) (C 36 :* knuckle M L :^ 4 :* span M x) ∷
      (C 1188 :* knuckle M L :^ 4 :* M :* L :* x ⊲ a := d) ∷ eq (C 0) (C 4 :* knuckle M L :^ 4 :* M :* L :^ 2) (C 297 :* c) (C 20 :* d) ∷ [] ⊢
      a :* x :* scale M L := N :* (d :* L) :+ c :* L :* scale M L) tt
      M L x (inner (fine M L) (M * 33 * x)) a c d (inner_far (M * (5 * L)) (M * 33) k) ea ec)

-- inner p, by the coefficients that document 01 has
pub p_is : {L : ℕ} → 0 < L → (B x : ℕ) → Is (p L x) (inner (law L B) ((law L B).λx * x)) 0 (full (law L B) L)
unfolding p law
p_is {L} h B x =
    is_chosen (33 * x) (5 * L) (short (15 * B) h x _ _ _ refl refl refl)
    (λ k. is_chosen (33 * x) (10 * L) (middle (15 * B) h x _ _ _ _ _ refl refl refl refl refl (le_of_lt k)) (λ j. long (15 * B) h x _ _ _ refl refl refl (le_of_lt j)))
