-- The buffer after a place of it was lent and a line's bytes were written to its front. Assumes nothing.
use Prim.Native.Nat.{ℕ, ◌+◌, ◌*◌, ◌≤◌}
use mathlib.Core.Path.{◌≡◌, refl, ◌∙◌, ap}
use mathlib.Core.List.{List}
use native.Mathlib.Omega.{arith}
use lib.ListN.{length, take}
use lib.Seq.{sets, length-sets, length-take-le, take_at, drop_at}
use borrow.Rule.Slice.PartMut.{mid_of, post_of, put_mid, same_len_mid, take_put}
use Rattle.laws.proofs.Lists.{length_part}
use Rattle.hexadecimal.specs.Hex.{bytes_of}
use Rattle.casefile.specs.Kept.{place_width}
use Rattle.casefile.proofs.Kept.{Placed}

module _ (was : List ℕ) (i : ℕ) (text part : List ℕ) (a n : ℕ) (e : a ≡ place_width * i) (k : n ≡ place_width) (room : place_width * i + place_width ≤ length was) (w : part ≡ sets (mid_of a n was) 0 (bytes_of text)) where
  as_long : length part ≡ length (mid_of a n was)
  as_long = ap length w ∙ length-sets (mid_of a n was) 0 (bytes_of text)

  wide : length part ≡ place_width
  wide = as_long ∙ rw (e, k) (length_part (place_width * i) place_width was room)

  pub placed : Placed (put_mid a n was part) was i text
  placed =
      record {
        long = same_len_mid a n was part as_long;
        before = rw (← e) (take_put a n was part (omega arith));
        here =
            let front : length (take a was) ≡ a = length-take-le a was (omega arith) in
            rw (← e, drop_at (take a was) _ a front, take_at part (post_of a n was) place_width wide) (w ∙ rw k refl);
      }
