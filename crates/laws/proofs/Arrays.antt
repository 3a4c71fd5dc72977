-- What `map` and `from_fn` give of an array of three, where each call gives the value of one function and keeps the closure as it needs to be. Assumes nothing.
use Prim.Native.Nat.{ℕ, ◌<◌}
use mathlib.Core.Path.{◌≡◌, ap, sym, ◌∙◌}
use mathlib.Core.List.{List, [], ◌∷◌}
use lib.Dec.{lit<}
use lib.ListN.{length, get_or}
use native.Mathlib.Omega.{arith}
use Rattle.std.specs.Array.{IsMapOf, IsFromFnResult}
use Rattle.std.specs.Fn.{Called, Mut}
use Rattle.laws.proofs.Lists.{three_same}

three_places : {A : Type 0} (xs : List A) (d : A) {a b c : A} → length xs ≡ 3 → get_or xs 0 d ≡ a → get_or xs 1 d ≡ b → get_or xs 2 d ≡ c → xs ≡ (a ∷ b ∷ c ∷ [])
three_places [] d e p q r = absurd (omega arith)
three_places (x ∷ []) d e p q r = absurd (omega arith)
three_places (x ∷ y ∷ []) d e p q r = absurd (omega arith)
three_places (x ∷ y ∷ z ∷ []) d e p q r = three_same p q r
three_places (x ∷ y ∷ z ∷ w ∷ xs) d e p q r = absurd (omega arith)

module _ {F A B : Type 0} {g : Mut F (A × Unit {0}) B} (Keeps : F → Type 0) (h : A → B)
    (call : (p : F) (x : A) (y : B) (q : F) → Keeps p → Called g p (x, tt) y q → (y ≡ h x) × Keeps q) where
  pub three_mapped : {f : F} (xs : List A) (ys : List B) (d : A) → Keeps f → IsMapOf g f xs ys 3 → ys ≡ (h (get_or xs 0 d) ∷ h (get_or xs 1 d) ∷ h (get_or xs 2 d) ∷ [])
  three_mapped {f} xs ys d k m =
      let (p, x, y, xi, yi, c, more) = m.each in
      let (p', x', y', xi', yi', c', last) = more in
      let (p'', x'', y'', xi'', yi'', c'', none) = last in
      let (e, k') = call f x y p k c in
      let (e', k'') = call p x' y' p' k' c' in
      let (e'', k''') = call p' x'' y'' p'' k'' c'' in
      three_places ys (h d) m.long (yi.1 (h d) ∙ e ∙ ap h (sym (xi.1 d))) (yi'.1 (h d) ∙ e' ∙ ap h (sym (xi'.1 d))) (yi''.1 (h d) ∙ e'' ∙ ap h (sym (xi''.1 d)))

module _ {F B : Type 0} {g : Mut F (ℕ × Unit {0}) B} (Keeps : F → Type 0) (h : ℕ → B)
    (call : (p : F) (i : ℕ) (y : B) (q : F) → i < 3 → Keeps p → Called g p (i, tt) y q → (y ≡ h i) × Keeps q) where
  pub three_made : {f : F} (ys : List B) → Keeps f → IsFromFnResult g f ys 3 → ys ≡ (h 0 ∷ h 1 ∷ h 2 ∷ [])
  three_made {f} ys k m =
      let (p, y, yi, c, more) = m.each in
      let (p', y', yi', c', last) = more in
      let (p'', y'', yi'', c'', none) = last in
      let (e, k') = call f 0 y p (lit< tt) k c in
      let (e', k'') = call p 1 y' p' (lit< tt) k' c' in
      let (e'', k''') = call p' 2 y'' p'' (lit< tt) k'' c'' in
      three_places ys (h 0) m.long (yi.1 (h 0) ∙ e) (yi'.1 (h 0) ∙ e') (yi''.1 (h 0) ∙ e'')
