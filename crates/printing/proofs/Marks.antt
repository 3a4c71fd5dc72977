-- Marks and their byte, there and back; and a row's three, as they are written. Assumes nothing.
use Prim.Native.Nat.{ℕ, ◌+◌, ◌*◌, ◌<◌}
use mathlib.Core.Path.{◌≡◌, refl, ◌∙◌, ap}
use mathlib.Core.Bool.{Bool, true, false, cond}
use mathlib.Core.List.{List, [], ◌∷◌, ◌++◌}
use native.Mathlib.Omega.{arith}
use lib.Dec.{lit<}
use lib.ListN.{length, length-append}
use Rattle.std.specs.Int.{from_bool}
use Rattle.laws.specs.Bytes.{bytes}
use Rattle.laws.proofs.Bytes.{length_bytes}
use Rattle.laws.proofs.Pieces.{pieces_below, piece_more}
use Rattle.records.specs.declared.Marks.{Marks}
use Rattle.records.specs.declared.Survival.{Survival}
use Rattle.hexadecimal.specs.Hex.{hex}
use Rattle.hexadecimal.proofs.Pairs.{length_hex}
use Rattle.digits.specs.Splice.{splice}
use Rattle.digits.proofs.Fields.{three_fields}
use Rattle.printing.specs.Marks.{mark_byte, marks_at, marks_field}
use Rattle.printing.specs.ReadBack.{marks_by}
-- checked first, so that a definition that marks otherwise is refused there
use Rattle.printing.proofs.Examples.{refusal_length}

-- ---- one byte

weighed : (marked : Bool) (n : ℕ) → from_bool marked * n ≡ cond marked n 0
weighed true n = omega arith
weighed false n = omega arith

alone : (marked : Bool) → from_bool marked ≡ cond marked 1 0
alone true = refl
alone false = refl

pub added_up : (m : Marks) {l r h o : ℕ} → l ≡ from_bool m.lever → r ≡ from_bool m.range → h ≡ from_bool m.heel → o ≡ from_bool m.opening → l + r * 2 + h * 4 + o * 8 ≡ mark_byte m
unfolding mark_byte
added_up m p q s t = rw (p, q, s, t, weighed m.range 2, weighed m.heel 4, weighed m.opening 8, alone m.lever) refl

by_name : (lever range heel opening : Bool) →
    let m : Marks = record { lever = lever; range = range; heel = heel; opening = opening } in (mark_byte m < 16) × (marks_by (mark_byte m) ≡ m)
unfolding mark_byte marks_by
by_name true true true true = (lit< tt, refl)
by_name true true true false = (lit< tt, refl)
by_name true true false true = (lit< tt, refl)
by_name true true false false = (lit< tt, refl)
by_name true false true true = (lit< tt, refl)
by_name true false true false = (lit< tt, refl)
by_name true false false true = (lit< tt, refl)
by_name true false false false = (lit< tt, refl)
by_name false true true true = (lit< tt, refl)
by_name false true true false = (lit< tt, refl)
by_name false true false true = (lit< tt, refl)
by_name false true false false = (lit< tt, refl)
by_name false false true true = (lit< tt, refl)
by_name false false true false = (lit< tt, refl)
by_name false false false true = (lit< tt, refl)
by_name false false false false = (lit< tt, refl)

-- one digit holds it
one_digit : (m : Marks) → mark_byte m < 16
one_digit m = (by_name m.lever m.range m.heel m.opening).0

-- from the byte each mark by its name
pub marks_by_byte : (m : Marks) → marks_by (mark_byte m) ≡ m
marks_by_byte m = (by_name m.lever m.range m.heel m.opening).1

-- ---- three

pub length_marks : (ss : List Survival) → length (marks_field ss) ≡ 3
unfolding marks_field
length_marks ss = simp (length-append, length_bytes) refl

one_byte : (m : Marks) → bytes 1 (mark_byte m) ≡ mark_byte m ∷ []
unfolding bytes
one_byte m = ap (λ b. b ∷ []) (omega (arith, one_digit m))

pub marks_field_bytes : (ss : List Survival) → marks_field ss ≡ mark_byte (marks_at ss 0) ∷ mark_byte (marks_at ss 1) ∷ mark_byte (marks_at ss 2) ∷ []
unfolding marks_field
marks_field_bytes ss = rw (one_byte (marks_at ss 0), one_byte (marks_at ss 1), one_byte (marks_at ss 2)) refl

-- as they are written, draught by draught
abbrev pub mark_digits : List Survival → ℕ → List ℕ
mark_digits ss j = hex (bytes 1 (mark_byte (marks_at ss j)))

module _ (ss : List Survival) (at : ℕ) (xs : List ℕ) where
  pub one_mark_more : (j : ℕ) {n : ℕ} {ys zs : List ℕ} → n ≡ mark_byte (marks_at ss j) → ys ≡ splice at (pieces_below (mark_digits ss) j) xs →
      zs ≡ splice (at + 2 * j) (hex (bytes 1 n)) ys → zs ≡ splice at (pieces_below (mark_digits ss) (j + 1)) xs
  unfolding splice
  one_mark_more j e p q =
      piece_more (mark_digits ss) 2 (λ k. length_hex (bytes 1 (mark_byte (marks_at ss k))) ∙ ap (λ n. n * 2) (length_bytes 1 (mark_byte (marks_at ss k)))) xs at j (at + 2 * j) refl p
      (rw e at q)

  pub all_marks : {j : ℕ} {ys : List ℕ} → j ≡ 3 → ys ≡ splice at (pieces_below (mark_digits ss) j) xs → ys ≡ splice at (hex (marks_field ss)) xs
  unfolding marks_field
  all_marks e p = three_fields at (λ k. bytes 1 (mark_byte (marks_at ss k))) xs e p
