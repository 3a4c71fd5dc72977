-- A frame after the hull, by its kind and its length: which are wrong, and where the fields of a right one stand. Assumes nothing.
use Prim.Native.Nat.{ℕ, ◌+◌, ◌-◌, ◌*◌, ◌≤◌, ◌<◌}
use mathlib.Core.Path.{◌≡◌, refl}
use mathlib.Core.Bool.{true, false, not, ◌||◌, or-true}
use mathlib.Core.List.{List}
use native.Mathlib.Omega.{arith}
use lib.ListN.{length, take, drop, length-drop}
use borrow.Author.Tests.{eq-eqb, ne_eqb}
use Rattle.laws.proofs.Lists.{rest_of}
use Rattle.casefile.specs.Layout.{kind_of, is_end, takes, frame_length, result_length, result_count, flooding_length, flooding_count}
use Rattle.casefile.specs.Table.{wrong_frame}
use Rattle.casefile.specs.Kept.{place_width}
use Rattle.casefile.proofs.RowKinds.{RowKind, row_bytes_count}
use Rattle.casefile.proofs.Kept.{longest_frame}

-- the frame has kind k and stands after a hull of a kind
module _ (hull : ℕ) (bs : List ℕ) (k : ℕ) (e : k ≡ kind_of bs) where
  pub wrong_length : (length bs ≡ frame_length k → ⊥) → wrong_frame hull bs ≡ true
  unfolding wrong_frame
  wrong_length f = rw (← e, ne_eqb (length bs) (frame_length k) f) (or-true (not (takes hull k || is_end k)))

  pub wrong_kind : takes hull k ≡ false → (k ≡ 15 → ⊥) → wrong_frame hull bs ≡ true
  unfolding wrong_frame
  wrong_kind t f = rw (← e, t, ne_eqb k 15 f) refl

  module _ (n : length bs ≡ frame_length k) where
    pub right_row : takes hull k ≡ true → wrong_frame hull bs ≡ false
    unfolding wrong_frame
    right_row t = rw (← e, t, eq-eqb (length bs) (frame_length k) n) refl

    pub right_end : k ≡ 15 → wrong_frame hull bs ≡ false
    unfolding wrong_frame
    right_end f = rw (← e, eq-eqb (length bs) (frame_length k) n, eq-eqb k 15 f, or-true (takes hull k)) refl

-- the fields after the kind byte, as the part that the code takes
abbrev pub part : List ℕ → List ℕ
part bs = take (length bs - 1) (drop 1 bs)

-- a row's results go in after a, n, b and H, and what a passenger ship's row tells besides after them
pub results_go_in : (bs : List ℕ) (k : ℕ) → length bs ≡ frame_length k → RowKind k → 6 + result_count k * result_length k + flooding_count k * flooding_length ≤ length (part bs)
results_go_in bs k n r = rw (rest_of bs 1, length-drop 1 bs) (omega (arith, n, row_bytes_count r))

pub frame_too_long : (hull : ℕ) (bs : List ℕ) → place_width < length bs → wrong_frame hull bs ≡ true
frame_too_long hull bs l = wrong_length hull bs (kind_of bs) refl (λ f. omega (arith, longest_frame (kind_of bs)))
