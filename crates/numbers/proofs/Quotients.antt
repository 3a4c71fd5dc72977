-- Quotients rounded up: by the rest that the machine's quotient leaves, and from a number near them. Assumes nothing.
use mathlib.Core.Path.{◌≡◌, refl, sym, ap, ◌∙◌}
use mathlib.Core.Bool.{cond}
use Prim.Native.Nat.{ℕ, zero, suc, ◌+◌, ◌-◌, ◌*◌, ◌/◌, ◌%◌, ◌≤◌, ◌<◌}
use native.Mathlib.Nat.{div-add-mod', mod-lt}
use native.Mathlib.Omega.{arith}
use borrow.Author.Tests.{le-ltb, lt-ltb}
use Rattle.std.specs.Prelude.{nat_lt, map, sum}
use Rattle.std.specs.Int.{div_ceil}
use Rattle.std.specs.List.{range_with_len}
use Rattle.laws.specs.Rounding.{ceil}
use Rattle.laws.proofs.Choice.{split}
use Rattle.laws.proofs.Rounding.{ceil_exact, ceil_least, ceil_past, above_ceil}

-- n is w times d and a rest
module _ {n d r : ℕ} (w : ℕ) (number : w * d + r ≡ n) (small : r < d) where
  pub exact_up : r ≡ 0 → w ≡ ceil n d
  exact_up e = sym (ceil_exact w d (omega arith) (omega arith))

  pub more_up : (r ≡ 0 → ⊥) → w + 1 ≡ ceil n d
  more_up e =
      let hd : 0 < d = omega arith in
      let least = (ceil_least n d (w + 1) hd).1 (omega arith) in
      let above = (above_ceil n d w hd).1 (omega arith) in
      omega arith

-- the library's quotient rounded up
pub rounded_up : (n d : ℕ) → 0 < d → div_ceil n d ≡ ceil n d
rounded_up n d hd =
    let number : n / d * d + n % d ≡ n = div-add-mod' n d in
    let small : n % d < d = mod-lt n hd in
    split (n % d) 0 (λ h. omega (arith, exact_up (n / d) number small (omega arith))) (λ h. omega (arith, more_up (n / d) number small (λ z. absurd (omega arith))))

-- ---- a quotient rounded up from a number near it: each multiple of d from 0 on that the rest lies beyond is one more

beyond_multiple : (n d k : ℕ) → 0 < d → nat_lt (k * d) n ≡ nat_lt k (ceil n d)
beyond_multiple n d k hd =
    split (ceil n d) k (λ h. le-ltb _ _ ((ceil_least n d k hd).0 h) ∙ sym (le-ltb _ _ h)) (λ h. lt-ltb _ _ ((above_ceil n d k hd).0 h) ∙ sym (lt-ltb _ _ h))

counted : (t : ℕ) → t ≤ 4 → sum (map (λ k. cond (nat_lt k t) 1 0) (range_with_len 0 4)) ≡ t
counted zero h = refl
counted (suc zero) h = refl
counted (suc (suc zero)) h = refl
counted (suc (suc (suc zero))) h = refl
counted (suc (suc (suc (suc zero)))) h = refl
counted (suc (suc (suc (suc (suc t))))) h = absurd (omega arith)

pub up_near : (low n d : ℕ) → 0 < d → low * d ≤ n → n - low * d ≤ 4 * d
    → low + sum (map (λ k. cond (nat_lt (k * d) (n - low * d)) 1 0) (range_with_len 0 4)) ≡ ceil n d
up_near low n d hd h k =
    let m = n - low * d in
    let whole : n ≡ low * d + m = omega arith in
    let up : ceil n d ≡ low + ceil m d = ap (λ x. ceil x d) whole ∙ ceil_past low m d hd in
    let t = counted (ceil m d) ((ceil_least m d 4 hd).1 k) in
    let beyond = beyond_multiple m d in
    rw (beyond 0 hd, beyond 1 hd, beyond 2 hd, beyond 3 hd) (omega (arith, up, t))
