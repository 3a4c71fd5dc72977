-- What damage lengths up to a cut give to a span, and their mass, in closed form on either side of the cut. Assumes nothing.
use Prim.Native.Nat.{ℕ, ◌+◌, ◌-◌, ◌*◌, ◌^◌, ◌≤◌}
use mathlib.Core.Path.{◌≡◌}
use mathlib.Core.List.{[], ◌∷◌}
use native.Mathlib.Nat.{sub-zero, sub-add_cancel, le_trans, le_of_eq, mul_comm, mul-le-mul}
use native.Mathlib.Omega.{arith}
use Rattle.laws.specs.Span.{e2, e3}
use Rattle.laws.proofs.SpanParts.{e2_below, e2_above, e3_below, e3_above}
use Rattle.laws.proofs.Polynomial.{C, ◌:+◌, ◌:*◌, ◌:^◌, ◌:=◌, ◌⊲◌, eq, ◌⊢◌, poly4, poly6, poly8}
use Rattle.solas.specs.General.{Law, fall, density, between, mass}

-- ---- the density, its mass, and what it gives up to a cut
abbrev pub peak : Law → ℕ
peak l = l.κ * (11 * l.W - l.κ)

module _ (l : Law) {T : ℕ} (h : T ≤ l.κ) where
  pub density_sum : density l T + fall l * T ≡ peak l
  density_sum =
      let s : fall l ≤ 11 * l.W - l.κ = omega arith in
      sub-add_cancel (le_trans (mul-le-mul s h) (le_of_eq (mul_comm (11 * l.W - l.κ) l.κ)))

  pub mass_sum : mass l 0 T + 3 * fall l * T ^ 2 ≡ 6 * peak l * T
  unfolding mass
  mass_sum =
      rw (sub-zero T)
      (poly4 (λ φ S A T. (C 6 :* T ⊲ φ :+ S :* T := A) ∷ [] ⊢ C 6 :* T :* φ :+ C 3 :* T :^ 2 :* S :+ C 3 :* S :* T :^ 2 := C 6 :* A :* T) tt
      (density l T) (fall l) (peak l) T density_sum)

  pub between_below : {X : ℕ} → X ≤ T → between l 0 T X + fall l * X ^ 3 ≡ 3 * peak l * X ^ 2
  unfolding between
  between_below {X} k =
      rw (sub-zero T, sub-zero X, e2_below k)
      (poly6 (λ φ S A T X E. (C 3 :* X :^ 2 ⊲ φ :+ S :* T := A) ∷ (S ⊲ E :+ X :^ 3 := C 3 :* T :* X :^ 2) ∷ [] ⊢
      C 3 :* φ :* X :^ 2 :+ S :* E :+ S :* X :^ 3 := C 3 :* A :* X :^ 2) tt
      (density l T) (fall l) (peak l) T X (e3 T X) density_sum (e3_below k))

  pub between_above : {X : ℕ} → T ≤ X → between l 0 T X + 3 * peak l * T ^ 2 ≡ mass l 0 T * X + 2 * fall l * T ^ 3
  unfolding between
  between_above {X} k =
      rw (sub-zero T, sub-zero X)
      (poly8 (λ φ S A m T X D E. eq (C 6 :* T :* X) (C 3 :* T :^ 2) (φ :+ S :* T) A ∷ eq (C 0) X (m :+ C 3 :* S :* T :^ 2) (C 6 :* A :* T) ∷
      (C 3 :* φ ⊲ D :+ T :^ 2 := C 2 :* T :* X) ∷ (S ⊲ E :+ T :^ 3 := C 3 :* T :^ 2 :* X) ∷ [] ⊢
      C 3 :* φ :* D :+ S :* E :+ C 3 :* A :* T :^ 2 := m :* X :+ C 2 :* S :* T :^ 3) tt
      (density l T) (fall l) (peak l) (mass l 0 T) T X (e2 T X) (e3 T X) density_sum mass_sum (e2_above k) (e3_above k))
