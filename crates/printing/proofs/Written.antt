-- A text written in front of a lent buffer, where there is room for it, and where there is not. Assumes nothing.
use Prim.Native.Nat.{ℕ, ◌≤◌, ◌<◌}
use mathlib.Core.Path.{◌≡◌, refl, sym, ◌∙◌, ap}
use mathlib.Core.Bool.{Bool, true, false, cond}
use mathlib.Core.List.{List, ◌++◌}
use native.Mathlib.Omega.{arith}
use lib.Dec.{leb}
use lib.ListN.{length, drop}
use borrow.Author.Tests.{le-leb, lt-leb}
use Rattle.std.specs.Prelude.{Some, None}
use Rattle.std.specs.Option.{unwrap_or}
use Rattle.digits.specs.Splice.{splice}
use Rattle.digits.proofs.Splice.{splice_front}
use Rattle.printing.specs.Written.{length_in, count_in, written_in}

module _ {A : Type 0} (text buffer : List A) where
  pub written_in_lem : length text ≤ length buffer → {n : ℕ} {after : List A} →
      n ≡ length text → after ≡ splice 0 text buffer → (Some n ≡ length_in text buffer) × (after ≡ written_in text buffer)
  unfolding length_in written_in
  written_in_lem h e p = (rw (le-leb (length text) (length buffer) h) (ap Some e), rw (le-leb (length text) (length buffer) h) (p ∙ splice_front text buffer h))

  pub not_written : length buffer < length text → (None ≡ length_in text buffer) × (buffer ≡ written_in text buffer)
  unfolding length_in written_in
  not_written h = (rw (lt-leb (length text) (length buffer) h) refl, rw (lt-leb (length text) (length buffer) h) refl)

  -- as a number
  pub counted : unwrap_or (length_in text buffer) 0 ≡ count_in text buffer
  unfolding length_in count_in
  counted = by (leb (length text) (length buffer))
    where
      by : (t : Bool) → unwrap_or (cond t (Some (length text)) None) 0 ≡ cond t (length text) 0
      by true = refl
      by false = refl

-- the same of a text whose length is known
module _ {A : Type 0} (text buffer : List A) {n : ℕ} (long : length text ≡ n) where
  pub too_little : length buffer < n → (None ≡ length_in text buffer) × (buffer ≡ written_in text buffer)
  too_little l = not_written text buffer (omega (arith, long))

  pub enough : n ≤ length buffer → {after : List A} → after ≡ splice 0 text buffer → (Some n ≡ length_in text buffer) × (after ≡ written_in text buffer)
  enough l e = written_in_lem text buffer (omega (arith, long)) (sym long) e

  pub in_front : n ≤ length buffer → {after : List A} → after ≡ text ++ drop n buffer → (Some n ≡ length_in text buffer) × (after ≡ written_in text buffer)
  unfolding length_in written_in
  in_front l e =
      let t : leb (length text) (length buffer) ≡ true = le-leb (length text) (length buffer) (omega (arith, long)) in
      (rw t (ap Some (sym long)), rw (t, long) e)
