-- s-min is that of the regulation: the least of two s has the lesser of both s⁴, because fourth powers of numbers that are not below zero are in order as these
-- are. Assumes nothing.
use mathlib.Core.List.Memᴰ
use mathlib.Core.List.{[], ◌∷◌}
use mathlib.Core.Logic.{⊎_elim}
use mathlib.Core.Path.{◌≡◌, refl}
use Rattle.laws.specs.Fraction.{Fraction, whole, ◌≈◌, ◌≼◌, lesser}
use Rattle.laws.proofs.Fraction.{≈_refl}
use Rattle.laws.proofs.FractionCompare.{≈_of_both}
use Rattle.laws.proofs.FractionOrder.{ordered, lesser_first, lesser_second}
use Rattle.regulation.specs.RegulationIndex.{Numbers, square, fourth, Order, Least}
use Rattle.regulation.specs.OfSolasIndex.{LeastIs01's}
use Rattle.regulation.proofs.RegulationSurvival.{fourth_same, survival_is_01's}

-- of two fractions the second is the lesser where it is not above the first
second_lesser : {f g : Fraction} → g ≼ f → g ≈ lesser f g
second_lesser {f} {g} l = ordered f g (λ m. rw (lesser_first m) (≈_of_both l m)) (λ m. rw (lesser_second m) (≈_refl g))

module _ (N : Numbers) (O : Order N) where
  infix 4 ◌≐◌
  infix 4 ◌⊑◌
  infixl 7 ◌·◌
  open N use {Number, ◌≐◌, ◌·◌, fraction, same_sym, same_trans, commutes, same_fraction}
  open O use {◌⊑◌, below_same, below_trans, below_fraction, product_not_negative, product_keeps}

  abbrev NotNegative : Number → Type 0
  NotNegative a = fraction (whole 0) ⊑ a

  -- ---- products of numbers that are not below zero
  pub product_below : {a a' b b' : Number} → NotNegative a → a ⊑ a' → NotNegative b → b ⊑ b' → a · b ⊑ a' · b'
  product_below {a} {a'} {b} {b'} p l q m =
      let turned : b · a' ⊑ b' · a' = product_keeps (below_trans p l) m in
      below_trans (product_keeps q l) (below_trans (below_same (commutes a' b)) (below_trans turned (below_same (commutes b' a'))))

  pub square_below : {a b : Number} → NotNegative a → a ⊑ b → square N a ⊑ square N b
  square_below p l = product_below p l p l

  pub fourth_below : {a b : Number} → NotNegative a → a ⊑ b → fourth N a ⊑ fourth N b
  fourth_below p l = square_below (product_not_negative p p) (square_below p l)

  -- ---- the least of two, by their fourth powers
  module _ {f g : Fraction} {s₁ s₂ s : Number} (p : fourth N s₁ ≐ fraction f) (q : fourth N s₂ ≐ fraction g) (h : Least N O (s₁ ∷ s₂ ∷ []) s) where
    not_negative : NotNegative s
    not_negative = below_trans (h.not_negative h.one h.among) (below_same (same_sym h.that))

    below_first : fourth N s ⊑ fraction f
    below_first = below_trans (fourth_below not_negative (h.least s₁ (Memᴰ.head refl))) (below_same p)

    below_second : fourth N s ⊑ fraction g
    below_second = below_trans (fourth_below not_negative (h.least s₂ (Memᴰ.tail (Memᴰ.head refl)))) (below_same q)

    pub least_fourth : fourth N s ≐ fraction (lesser f g)
    least_fourth = ⊎_elim first (λ m. ⊎_elim second (λ n. absurd (Memᴰ.not-nil n)) (Memᴰ.cases_cons m)) (Memᴰ.cases_cons h.among)
      where
        first : h.one ≡ s₁ → fourth N s ≐ fraction (lesser f g)
        first e =
            let is : fourth N s ≐ fraction f = same_trans (fourth_same N (rw e at h.that)) p in
            let l : f ≼ g = below_fraction.0 (below_trans (below_same (same_sym is)) below_second) in
            rw (lesser_first l) is

        second : h.one ≡ s₂ → fourth N s ≐ fraction (lesser f g)
        second e =
            let is : fourth N s ≐ fraction g = same_trans (fourth_same N (rw e at h.that)) q in
            let l : g ≼ f = below_fraction.0 (below_trans (below_same (same_sym is)) below_first) in
            same_trans is (same_fraction (second_lesser l))

pub least_is_01's : LeastIs01's
least_is_01's N O g t e o g' t' e' o' s₁ s₂ s a b h =
    least_fourth N O
    (survival_is_01's N g t e o a.openings s₁ a.critical a.taken)
    (survival_is_01's N g' t' e' o' b.openings s₂ b.critical b.taken) h
