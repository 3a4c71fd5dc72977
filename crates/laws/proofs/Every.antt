-- What holds of every element of a list: of its last, of its parts, of two lists joined, of two things at once, and where nothing is asked. Assumes nothing.
use Prim.Native.Nat.{ℕ, zero, suc}
use mathlib.Core.List.{List, [], ◌∷◌, ◌++◌}
use lib.ListN.{take, drop}
use Rattle.laws.specs.Lists.{Every, last, Linked}

module _ {A : Type 0} where
  -- ---- where nothing is asked
  pub every_one : (xs : List A) → Every (λ x. Unit {0}) xs
  every_one [] = tt
  every_one (x ∷ xs) = (tt, every_one xs)

  pub linked_any : (a : A) (xs : List A) → Linked (λ x y. Unit {0}) a xs
  linked_any a [] = tt
  linked_any a (x ∷ xs) = (tt, linked_any x xs)

  -- ---- of every element, and so of the last
  pub every_map : (P Q : A → Type 0) → ((x : A) → P x → Q x) → (xs : List A) → Every P xs → Every Q xs
  every_map P Q f [] e = tt
  every_map P Q f (x ∷ xs) e = (f x e.0, every_map P Q f xs e.1)

  pub every_both : (P Q : A → Type 0) (xs : List A) → Every P xs → Every Q xs → Every (λ x. P x × Q x) xs
  every_both P Q [] p q = tt
  every_both P Q (x ∷ xs) p q = ((p.0, q.0), every_both P Q xs p.1 q.1)

  module _ (P : A → Type 0) where
    pub last_has : (x : A) (xs : List A) → P x → Every P xs → P (last x xs)
    last_has x [] p e = p
    last_has x (y ∷ xs) p e = last_has y xs e.0 e.1

    -- ---- a list in two parts
    pub every_parts : (xs ys : List A) → Every P (xs ++ ys) → Every P xs × Every P ys
    every_parts [] ys e = (tt, e)
    every_parts (x ∷ xs) ys e = let (l, r) = every_parts xs ys e.1 in ((e.0, l), r)

    pub every_joined : (xs ys : List A) → Every P xs → Every P ys → Every P (xs ++ ys)
    every_joined [] ys l r = r
    every_joined (x ∷ xs) ys l r = (l.0, every_joined xs ys l.1 r)

    pub every_taken : (n : ℕ) (xs : List A) → Every P xs → Every P (take n xs)
    every_taken zero xs e = tt
    every_taken (suc n) [] e = tt
    every_taken (suc n) (x ∷ xs) e = (e.0, every_taken n xs e.1)

    pub every_dropped : (n : ℕ) (xs : List A) → Every P xs → Every P (drop n xs)
    every_dropped zero xs e = e
    every_dropped (suc n) [] e = tt
    every_dropped (suc n) (x ∷ xs) e = every_dropped n xs e.1
