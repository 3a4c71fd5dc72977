-- What `from_fn` gives of an array of any length, where each call gives the value of one function and keeps the closure as it needs to be. Assumes nothing.
use Prim.Native.Nat.{ℕ, zero, suc, ◌+◌, ◌<◌}
use mathlib.Core.Path.{◌≡◌, sym, ◌∙◌, subst}
use mathlib.Core.List.{List}
use lib.ListN.{length, get_or}
use native.Mathlib.Omega.{arith}
use lib.Seq.{ext_get_or}
use Rattle.std.specs.Array.{IsFromFnResult, IsFromFnResultFrom}
use Rattle.std.specs.Fn.{Called, Mut}
use Rattle.laws.specs.Lists.{tabulate}
use Rattle.laws.proofs.Lists.{length_tabulate, get_d_tabulate}

module _ {F B : Type 0} {g : Mut F (ℕ × Unit {0}) B} (N : ℕ) (Keeps : F → Type 0) (h : ℕ → B)
    (call : (p : F) (i : ℕ) (y : B) (q : F) → i < N → Keeps p → Called g p (i, tt) y q → (y ≡ h i) × Keeps q) where
  each_made : (ys : List B) (n : ℕ) (f : F) (i : ℕ) → i + n ≡ N → Keeps f → IsFromFnResultFrom g f ys i n → (k : ℕ) → k < n → get_or ys (i + k) (h 0) ≡ h (i + k)
  each_made ys zero f i e k m j l = absurd (omega arith)
  each_made ys (suc n) f i e k m zero l =
      let (q, y, at, c, more) = m in
      let here : i + zero ≡ i = omega arith in
      rw here (at.1 (h 0) ∙ (call f i y q (omega arith) k c).0)
  each_made ys (suc n) f i e k m (suc j) l =
      let (q, y, at, c, more) = m in
      let next : i + suc j ≡ i + 1 + j = omega arith in
      rw next (each_made ys n q (i + 1) (omega arith) (call f i y q (omega arith) k c).1 more j (omega arith))

  pub all_made : {f : F} (ys : List B) → Keeps f → IsFromFnResult g f ys N → ys ≡ tabulate h N
  all_made {f} ys k m =
      ext_get_or (h 0) ys (tabulate h N) (m.long ∙ sym (length_tabulate h N))
      (λ i l.
      let below : i < N = omega (arith, m.long, l) in
      let here : 0 + i ≡ i = omega arith in
      subst (λ z. get_or ys z (h 0) ≡ h z) here (each_made ys N f 0 (omega arith) k m.each i below) ∙ sym (get_d_tabulate h N i (h 0) below))
