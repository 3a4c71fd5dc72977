-- A list that is written piece by piece, each as long as the others: after some of them, with what is left, it comes to what the whole comes to, and what
-- is written is those so far. Assumes nothing.
use Prim.Native.Nat.{ℕ, zero, suc, ◌+◌, ◌*◌, ◌≤◌}
use mathlib.Core.Path.{◌≡◌, refl, sym, ◌∙◌, ap}
use mathlib.Core.List.{List, [], ◌++◌}
use native.Mathlib.Omega.{arith}
use native.Mathlib.Nat.{zero-add}
use native.Mathlib.Numerals.{add-one}
use lib.ListN.{length, drop, length-append}
use lib.Seq.{sets, sets-eq, length-sets}
use Rattle.laws.proofs.Lists.{sets_append}

module _ {A : Type 0} (width from : ℕ) (first whole : List A) where
  -- i pieces are written over what was there first; the rest is still to come
  pub record Put (now rest : List A) (i : ℕ) : Type 0 where
    pub long : length now ≡ length first
    pub written : sets now (from + width * i) rest ≡ sets first from whole

  pub put_none : Put first whole 0
  put_none = record { long = refl; written = ap (λ p. sets first p whole) (omega arith) }

  pub put_more : (piece : List A) {now next rest : List A} {i : ℕ} → Put now (piece ++ rest) i → length piece ≡ width → next ≡ sets now (from + width * i) piece → Put next rest (i + 1)
  put_more piece {now} {next} {rest} {i} p l e =
      let place : from + width * (i + 1) ≡ from + width * i + length piece = omega (arith, l) in
      record {
        long = ap length e ∙ length-sets now (from + width * i) piece ∙ p.long;
        written = rw (e, place) (sym (sets_append now (from + width * i) piece rest)) ∙ p.written;
      }

  pub put_all : {now : List A} {i : ℕ} → Put now [] i → now ≡ sets first from whole
  put_all p = p.written

-- all of it from the front on, where there is room for n
pub put_in_front : {A : Type 0} (first whole : List A) {now : List A} {n : ℕ} → now ≡ sets first 0 whole → length whole ≡ n → n ≤ length first → now ≡ whole ++ drop n first
put_in_front first whole e l room = e ∙ sets-eq whole first 0 (omega (arith, l)) ∙ ap (λ k. whole ++ drop k first) (zero-add (length whole) ∙ l)

-- ---- those so far

-- the first j pieces
unfoldable pub pieces_below : {A : Type 0} → (ℕ → List A) → ℕ → List A
pieces_below piece zero = []
pieces_below piece (suc j) = pieces_below piece j ++ piece j

module _ {A : Type 0} (piece : ℕ → List A) (width : ℕ) (each : (j : ℕ) → length (piece j) ≡ width) where
  length_below : (j : ℕ) → length (pieces_below piece j) ≡ width * j
  unfolding pieces_below
  length_below zero = omega arith
  length_below (suc j) = rw length-append (omega (arith, length_below j, each j))

  pub piece_more : (xs : List A) (from j next : ℕ) {ys zs : List A} → next ≡ from + width * j → ys ≡ sets xs from (pieces_below piece j) → zs ≡ sets ys next (piece j) →
      zs ≡ sets xs from (pieces_below piece (j + 1))
  unfolding pieces_below
  piece_more xs from j next e p q =
      let place : next ≡ from + length (pieces_below piece j) = omega (arith, e, length_below j) in
      q ∙ rw (p, place, add-one j) (sym (sets_append xs from (pieces_below piece j) (piece j)))
