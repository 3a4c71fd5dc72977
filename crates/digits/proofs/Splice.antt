-- Texts that are written over a list: the list keeps its length, texts at neighbouring places join, and the rest stays. Assumes nothing.
use Prim.Native.Nat.{ℕ, suc, ◌+◌, ◌≤◌, ◌<◌}
use mathlib.Core.Path.{◌≡◌, refl, sym, ◌∙◌, ap}
use mathlib.Core.List.{List, [], ◌∷◌, ◌++◌}
use native.Mathlib.Nat.{zero-add, add-zero, add-suc, suc-add}
use native.Mathlib.Omega.{arith}
use lib.ListN.{length, take, drop, set}
use lib.Seq.{sets, sets-eq, length-sets, set_comm}
use Rattle.laws.proofs.Lists.{sets_append}
use Rattle.digits.specs.Splice.{splice}

module _ {A : Type 0} where
  pub length_splice : (at : ℕ) (text xs : List A) → length (splice at text xs) ≡ length xs
  unfolding splice
  length_splice at text xs = length-sets xs at text

  pub splice_none : (at : ℕ) (xs : List A) → splice at [] xs ≡ xs
  unfolding splice
  splice_none at xs = refl

  pub splice_join : (at : ℕ) (text more xs : List A) → splice (at + length text) more (splice at text xs) ≡ splice at (text ++ more) xs
  unfolding splice
  splice_join at text more xs = sym (sets_append xs at text more)

  -- where the text fits
  pub splice_parts : (at : ℕ) (text xs : List A) → at + length text ≤ length xs → splice at text xs ≡ take at xs ++ text ++ drop (at + length text) xs
  unfolding splice
  splice_parts at text xs h = sets-eq text xs at h

  pub splice_front : (text xs : List A) → length text ≤ length xs → splice 0 text xs ≡ text ++ drop (length text) xs
  splice_front text xs h = splice_parts 0 text xs (omega arith) ∙ ap (λ n. text ++ drop n xs) (zero-add (length text))

  -- two writes, one after the other: the second begins where the first ends
  pub splice_then : (at next : ℕ) (text more xs ys zs : List A) →
      next ≡ at + length text → ys ≡ splice at text xs → zs ≡ splice next more ys → zs ≡ splice at (text ++ more) xs
  splice_then at next text more xs ys zs e p q = q ∙ rw (p, e) (splice_join at text more xs)

  -- ---- the other way round: the second ends where the first begins

  set_before : (l : List A) (i k : ℕ) (a : A) (ws : List A) → i < k → set (sets l k ws) i a ≡ sets (set l i a) k ws
  set_before l i k a [] h = refl
  set_before l i k a (w ∷ ws) h =
      set_before (set l k w) i (suc k) a ws (omega arith) ∙ ap (λ m. sets m (suc k) ws) (set_comm l k i w a (λ e. omega arith))

  sets_before : (at : ℕ) (text more xs : List A) → sets (sets xs (at + length text) more) at text ≡ sets xs at (text ++ more)
  sets_before at [] more xs = rw (add-zero at) refl
  sets_before at (t ∷ text) more xs =
      ap (λ l. sets l (suc at) text) (set_before xs at (at + suc (length text)) t more (omega arith))
      ∙ rw (add-suc at (length text), ← suc-add at (length text)) (sets_before (suc at) text more (set xs at t))

  pub splice_before : (at next : ℕ) (text more xs ys zs : List A) →
      next ≡ at + length text → ys ≡ splice next more xs → zs ≡ splice at text ys → zs ≡ splice at (text ++ more) xs
  unfolding splice
  splice_before at next text more xs ys zs e p q = q ∙ rw (p, e) (sets_before at text more xs)
