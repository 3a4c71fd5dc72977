-- What a closure gives at the three draughts, one by one: by the draught's number, or by what an array has there. Assumes nothing.
use Prim.Native.Nat.{ℕ}
use mathlib.Core.List.{List, [], ◌∷◌}
use mathlib.Core.Path.{◌≡◌, refl, subst}
use native.Mathlib.Omega.{arith}
use lib.ListN.{length, get_or}
use denote.Param.Members.{Mut}
use Rattle.std.specs.Array.{IsFromFnResult, IsMapOf}
use Rattle.std.specs.Fn.{Called}

three : {B : Type 0} {a b c a' b' c' : B} (ys : List B) → length ys ≡ 3 → get_or ys 0 a ≡ a → get_or ys 1 b ≡ b → get_or ys 2 c ≡ c → a ≡ a' → b ≡ b' → c ≡ c' → ys ≡ a' ∷ b' ∷ c' ∷ []
three (x ∷ y ∷ z ∷ []) long p q r e f g = rw (p, q, r, e, f, g) refl
three [] long p q r e f g = absurd (omega arith)
three (x ∷ []) long p q r e f g = absurd (omega arith)
three (x ∷ y ∷ []) long p q r e f g = absurd (omega arith)
three (x ∷ y ∷ z ∷ w ∷ ys) long p q r e f g = absurd (omega arith)

-- each call gives v of what it takes, and leaves the closure as it was
module _ {F A B : Type 0} (g : Mut F (A × Unit {0}) B) (v : A → B) {f : F} (step : (x : A) (y : B) (q : F) → Called g f (x, tt) y q → (y ≡ v x) × (q ≡ f)) where
  next : {p q : F} {x : A} {y : B} → p ≡ f → Called g p (x, tt) y q → (y ≡ v x) × (q ≡ f)
  next {p} {q} {x} {y} e k = step x y q (subst (λ p. Called g p (x, tt) y q) e k)

  pub three_mapped : (d : A) (xs : List A) (ys : List B) → IsMapOf g f xs ys 3 → ys ≡ v (get_or xs 0 d) ∷ v (get_or xs 1 d) ∷ v (get_or xs 2 d) ∷ []
  three_mapped d xs ys made =
      let a = made.each in
      let b = a.6 in
      let c = b.6 in
      let one = next refl a.5 in
      let two = next one.1 b.5 in
      three ys made.long a.4.0 b.4.0 c.4.0 (rw (a.3.1 d) one.0) (rw (b.3.1 d) two.0) (rw (c.3.1 d) (next two.1 c.5).0)

module _ {F B : Type 0} (g : Mut F (ℕ × Unit {0}) B) (v : ℕ → B) {f : F} (step : (j : ℕ) (y : B) (q : F) → Called g f (j, tt) y q → (y ≡ v j) × (q ≡ f)) where
  pub three_made : (ys : List B) → IsFromFnResult g f ys 3 → ys ≡ v 0 ∷ v 1 ∷ v 2 ∷ []
  three_made ys made =
      let a = made.each in
      let b = a.4 in
      let c = b.4 in
      let one = next g v step refl a.3 in
      let two = next g v step one.1 b.3 in
      three ys made.long a.2.0 b.2.0 c.2.0 one.0 two.0 (next g v step two.1 c.3).0
