-- A group's sums, put together from the Q of its spans, and where there is no penetration. Assumes nothing.
use mathlib.Core.Path.{◌≡◌, refl, sym, ap, ◌∙◌}
use Prim.Native.Nat.{ℕ, zero, suc, ◌+◌, ◌-◌, ◌*◌, ◌^◌, ◌≤◌}
use native.Mathlib.Omega.{arith}
use Rattle.records.specs.declared.Ends.{Ends}
use Rattle.solas.specs.Ship.{Ship}
use Rattle.solas.specs.Count.{added, taken}
use Rattle.layers.specs.declared.Layer.{Layer}
use Rattle.chances.specs.declared.Sums.{Sums}
use Rattle.spans.specs.Rounded.{Probable}
use Rattle.layers.specs.Layer.{layer_of}
use Rattle.penetration.specs.Figures.{plus}
use Rattle.groups.specs.Layered.{Layered}
use Rattle.chances.specs.Share.{within_ends, sums_of, nothing, Few}
use Rattle.chances.proofs.Ends.{few_none}

-- ---- one chance on a side, or two

few : {q t : Ends} → q.lower ≤ q.upper → q.upper ≤ 2 * 10 ^ 9 → t.lower ≤ t.upper → t.upper ≤ 2 * 10 ^ 9 → Few (record { added = q; taken = t })
few a b c d = record { added_order = a; added_few = b; taken_order = c; taken_few = d }

record Two (q : Ends) : Type 0 where
  order : q.lower ≤ q.upper
  most : q.upper ≤ 2 * 10 ^ 9

two_of : {q f g : Ends} → Probable f → Probable g → q ≡ plus f g → Two q
unfolding plus
two_of h k e = rw e (record { order = omega (arith, h.ordered, k.ordered); most = omega (arith, h.at_most_one, k.at_most_one) })

-- ---- the sums of the group of n zones from zone a, whose last is zone a + n - 1

module _ (s : Ship) (b a : ℕ) where
  pub one_zone : {q : Ends} → (q ≡ within_ends s b a (a + 1 - 1)) × Probable q →
      (record { added = q; taken = record { lower = 0; upper = 0 } } ≡ sums_of s b a 1) × Few (record { added = q; taken = record { lower = 0; upper = 0 } })
  unfolding sums_of added taken
  one_zone e =
      let i : a + 1 - 1 ≡ a = omega arith in
      (rw (e.0, i), few e.1.ordered (omega (arith, e.1.at_most_one)) (omega arith) (omega arith))

  module _ {n : ℕ} {all first last t : Ends} (e : (all ≡ within_ends s b a (a + n - 1)) × Probable all) (f : (first ≡ within_ends s b a (a + n - 1 - 1)) × Probable first)
      (g : (last ≡ within_ends s b (a + 1) (a + n - 1)) × Probable last) (h : t ≡ plus first last) where
    two_zones_are : n ≡ 2 → record { added = all; taken = t } ≡ sums_of s b a n
    unfolding sums_of added taken plus
    two_zones_are i =
        let v : a + 2 - 1 ≡ a + 1 = omega arith in
        let u : a + 1 - 1 ≡ a = omega arith in
        rw (h, e.0, f.0, g.0, i, v, u)

    pub two_zones : n ≡ 2 → (record { added = all; taken = t } ≡ sums_of s b a n) × Few (record { added = all; taken = t })
    two_zones i =
        let two = two_of f.1 g.1 h in
        (two_zones_are i, few e.1.ordered (omega (arith, e.1.at_most_one)) two.order two.most)

    module _ {middle q : Ends} (j : (middle ≡ within_ends s b (a + 1) (a + n - 1 - 1)) × Probable middle) (k : q ≡ plus all middle) where
      more_zones_are : (m : ℕ) → n ≡ suc (suc (suc m)) → record { added = q; taken = t } ≡ sums_of s b a n
      unfolding sums_of added taken plus
      more_zones_are m i =
          let v : a + suc (suc (suc m)) - 1 ≡ a + m + 2 = omega arith in
          let u : a + m + 2 - 1 ≡ a + m + 1 = omega arith in
          rw (k, h, e.0, f.0, g.0, j.0, i, v, u)

      pub more_zones : 3 ≤ n → (record { added = q; taken = t } ≡ sums_of s b a n) × Few (record { added = q; taken = t })
      more_zones l =
          let two = two_of f.1 g.1 h in
          let both = two_of e.1 j.1 k in
          (more_zones_are (n - 3) (omega (arith, l)), few both.order both.most two.order two.most)

-- ---- no penetration

pub no_sums : (s : Ship) (a n : ℕ) → nothing ≡ sums_of s 0 a n
unfolding sums_of added taken within_ends
no_sums s a zero = refl
no_sums s a (suc zero) = refl
no_sums s a (suc (suc zero)) = refl
no_sums s a (suc (suc (suc n))) = refl

pub none_at : (s : Ship) (b a n : ℕ) → b ≡ 0 → (nothing ≡ sums_of s b a n) × Few nothing
none_at s b a n z = (rw z (no_sums s a n), few_none)

-- ---- a layer

depth_is : (B b : ℕ) {y : Layer} → y ≡ layer_of B b → y.depth ≡ b
unfolding layer_of
depth_is B b e = ap (λ z. z.depth) e

pub layered : (B b : ℕ) {y : Layer} → 2 * b ≤ B → y ≡ layer_of B b → Layered B y
layered B b l f = let g = depth_is B b f in record { deep = rw g l; layer = f ∙ sym (ap (layer_of B) g) }

pub at_layer : (s : Ship) (B b a n : ℕ) {y : Layer} {q : Sums} → y ≡ layer_of B b → q ≡ sums_of s y.depth a n → q ≡ sums_of s b a n
at_layer s B b a n e f = f ∙ ap (λ z. sums_of s z a n) (depth_is B b e)
