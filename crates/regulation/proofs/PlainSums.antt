-- The same of a layer's sum with the differences of v as 2.7.7.3 prints them, not held: document 01's where no height but the last is more than
-- 12.5 m above the draught, and elsewhere not below it for fractions that do not rise. Assumes nothing.
use Prim.Native.Nat.{ℕ, ◌-◌, ◌≤◌, ◌<◌}
use mathlib.Core.Path.{◌≡◌}
use mathlib.Core.List.{List, [], ◌∷◌}
use native.Mathlib.Omega.{arith}
use lib.Dec.{lit<}
use lib.ListN.{length}
use Rattle.laws.specs.Lists.{last, Linked}
use Rattle.laws.specs.Fraction.{Fraction, ◌over◌, whole, ◌≈◌, ◌≼◌, ◌⊹◌, ◌⊝◌, ◌⊛◌}
use Rattle.laws.proofs.Choice.{split}
use Rattle.laws.proofs.Fraction.{is_nothing, is_shifted, is_⊝, same, below, ≈_refl, ≈_sym, ≈_trans, ⊹-≈, ⊝-≈, ⊛-≈, ≼_of_≈, ≼_trans, ⊹-≼}
use Rattle.laws.proofs.FractionTerm.{number, parts, first, second, third, fourth, ◌⊹ᵗ◌, ◌⊝ᵗ◌, ◌⊛ᵗ◌, agree}
use Rattle.laws.proofs.Every.{every_one}
use Rattle.laws.proofs.FractionRing.{⊹_nothing, ⊛_comm}
use Rattle.laws.proofs.FractionCompare.{⊛_keeps}
use Rattle.solas.specs.Height.{v_at, row_v, top}
use Rattle.solas.specs.Layers.{rows_v}
use Rattle.solas.proofs.Height.{v_at_rises, v_at_at_most, v_at_full, v_at_top, v_at_waterline}
use Rattle.regulation.specs.RegulationIndex.{millimetres, uppermost, counted, v_of}
use Rattle.regulation.specs.RegulationSums.{plain, in_brackets, si}
use Rattle.regulation.specs.OfSolasSums.{boundaries, v_sum, NoneRises, PlainLayerSumsAre01's, PlainLayerSumsNotAbove}
use Rattle.regulation.proofs.RegulationHeights.{in_parts, is_v_high, is_uppermost, is_counted, not_above_none, above_counts}
use Rattle.regulation.proofs.RegulationSums.{sameness, layer_sums}

-- document 01's v of a height, and the regulation's
abbrev w : ℕ → ℕ → Fraction
w H d = v_at H d over 916500

abbrev u : ℕ → ℕ → Fraction
u H d = v_of (counted (millimetres H) (millimetres d)) (millimetres d)

abbrev one : ℕ → ℕ → Fraction
one H d = v_of (uppermost (millimetres H)) (millimetres d)

is_row_lem : (H' H d : ℕ) → H' ≤ H → row_v H' H d over 916500 ≈ w H d ⊝ w H' d
unfolding row_v
is_row_lem H' H d up =
    same (lit< tt) (in_parts (v_at H d - v_at H' d))
    (is_shifted (v_at H d - v_at H' d) 0 (omega (arith, v_at_rises {H' = H'} {H = H} d up)) (is_⊝ (in_parts (v_at H d)) (in_parts (v_at H' d))))

is_last : (ds d H' H : ℕ) → d ≤ ds → top ds ≤ H → row_v H' H d over 916500 ≈ one H d ⊝ w H' d
unfolding row_v
is_last ds d H' H afloat t =
    same (lit< tt) (in_parts (v_at H d - v_at H' d))
    (is_shifted (v_at H d - v_at H' d) 0 (omega (arith, v_at_top {ds = ds} {H = H} {d = d} t afloat, v_at_at_most H' d))
    (is_⊝ (is_uppermost H d) (in_parts (v_at H' d))))

low_same : (H d : ℕ) → H ≤ top d → u H d ≈ w H d
low_same H d k = same (lit< tt) (is_counted H d k) (in_parts (v_at H d))

-- ---- where no height but the last is so high
pub plain_layer_sums_are_01's : PlainLayerSumsAre01's
unfolding plain
plain_layer_sums_are_01's ds d Hs xs l k =
    ≈_sym
    (layer_sums plain sameness ds d (λ H. H ≤ top d) (λ x. Unit {0})
    (λ H' H x up k' k n. ⊛-≈ (≈_trans (is_row_lem H' H d (omega arith)) (⊝-≈ (≈_sym (low_same H d k)) (≈_sym (low_same H' d k')))) (≈_refl x))
    (λ H' H x t k n. ⊛-≈ (≈_trans (is_last ds d H' H l.afloat t) (⊝-≈ (≈_refl (one H d)) (≈_sym (low_same H' d k)))) (≈_refl x)) Hs xs l k
    (every_one xs))

-- ---- elsewhere: what the regulation's v of a height has more than document 01's
abbrev more : ℕ → ℕ → Fraction
more H d = u H d ⊝ w H d

more_not_negative : (H d : ℕ) → whole 0 ≼ more H d
unfolding v_of
more_not_negative H d =
    split H (top d) (λ low. below (lit< tt) (is_nothing (lit< tt)) (is_⊝ (is_counted H d low) (in_parts (v_at H d))) (omega arith))
    (λ high. rw (above_counts {H = H} {d = d} (omega arith), v_at_full {H = H} d (omega arith))
    (below (lit< tt) (is_nothing (lit< tt)) (is_⊝ (is_v_high H d (omega arith)) (in_parts 916500)) (omega arith)))

-- ---- sums of differences, times x
past : (a b c x : Fraction) → (a ⊝ b) ⊛ x ≈ (a ⊝ c) ⊛ x ⊹ (c ⊝ b) ⊛ x
past a b c x = agree {ρ = parts (a ∷ b ∷ c ∷ x ∷ [])} ((first ⊝ᵗ second) ⊛ᵗ fourth) ((first ⊝ᵗ third) ⊛ᵗ fourth ⊹ᵗ (third ⊝ᵗ second) ⊛ᵗ fourth) tt

swapped : (a b c : Fraction) → a ⊹ (b ⊹ c) ≈ c ⊹ a ⊹ b
swapped a b c = agree {ρ = parts (a ∷ b ∷ c ∷ [])} (first ⊹ᵗ (second ⊹ᵗ third)) (third ⊹ᵗ first ⊹ᵗ second) tt

crossed : (a b c : Fraction) → a ⊹ c ⊹ b ≈ a ⊹ b ⊹ c
crossed a b c = agree {ρ = parts (a ∷ b ∷ c ∷ [])} (first ⊹ᵗ third ⊹ᵗ second) (first ⊹ᵗ second ⊹ᵗ third) tt

nothing_more : (b x : Fraction) → b ⊹ (whole 0 ⊝ (0 over 916500)) ⊛ x ≈ b
nothing_more b x = agree {ρ = parts (b ∷ x ∷ [])} (first ⊹ᵗ (number 0 1 tt ⊝ᵗ number 0 916500 tt) ⊛ᵗ second) first tt

module _ (ds d : ℕ) (afloat : d ≤ ds) where
  -- one row more, where those above it come to v in document 01 and to b in the regulation
  step : (H' H : ℕ) (x y b : Fraction) {f v : Fraction} → f ≈ w H d ⊝ w H' d → y ≼ x → v ≼ b ⊹ more H d ⊛ y →
      f ⊛ x ⊹ v ≼ (u H d ⊝ u H' d) ⊛ x ⊹ b ⊹ more H' d ⊛ x
  step H' H x y b {f} {v} e l ih =
      let m = more H d in
      let falls : m ⊛ y ≼ m ⊛ x = ≼_trans (≼_of_≈ (⊛_comm m y)) (≼_trans (⊛_keeps (more_not_negative H d) l) (≼_of_≈ (⊛_comm x m))) in
      let rest : v ≼ b ⊹ m ⊛ x = ≼_trans ih (⊹-≼ (≼_of_≈ (≈_refl b)) falls) in
      let all = ≈_trans (≈_sym (past (u H d) (w H' d) (w H d) x)) (past (u H d) (w H' d) (u H' d) x) in
      ≼_trans (⊹-≼ (≼_of_≈ (⊛-≈ e (≈_refl x))) rest)
      (≼_of_≈ (≈_trans (swapped ((w H d ⊝ w H' d) ⊛ x) b (m ⊛ x)) (≈_trans (⊹-≈ all (≈_refl b)) (crossed ((u H d ⊝ u H' d) ⊛ x) b (more H' d ⊛ x)))))

  -- from the row below at H' on: not above, with what is more at H' made up for
  from : (H' H : ℕ) (Hs : List ℕ) (x : Fraction) (xs : List Fraction) → Linked ◌<◌ H' (H ∷ Hs) → top ds ≤ last H Hs →
      length (x ∷ xs) ≡ length (H ∷ Hs) → NoneRises (x ∷ xs) →
      v_sum (rows_v H' (H ∷ Hs) d) (x ∷ xs) ≼ in_brackets plain (counted (millimetres H') (millimetres d)) (boundaries (H ∷ Hs) (x ∷ xs))
      (millimetres d) ⊹ more H' d ⊛ x
  unfolding in_brackets plain
  from H' H [] x [] up t e n =
      ≼_of_≈ (≈_trans (⊹_nothing _) (≈_trans (⊛-≈ (is_last ds d H' H afloat t) (≈_refl x)) (past (one H d) (w H' d) (u H' d) x)))
  from H' H [] x (y ∷ xs) up t e n = absurd (omega (arith, e))
  from H' H (G ∷ Hs) x [] up t e n = absurd (omega (arith, e))
  from H' H (G ∷ Hs) x (y ∷ xs) up t e n =
      step H' H x y (in_brackets plain (counted (millimetres H) (millimetres d)) (boundaries (G ∷ Hs) (y ∷ xs)) (millimetres d))
      (is_row_lem H' H d (omega (arith, up.0))) n.0 (from H G Hs y xs up.1 t (omega (arith, e)) n.1)

pub plain_layer_sums_not_above : PlainLayerSumsNotAbove
unfolding si v_of
plain_layer_sums_not_above ds d [] xs l n = absurd (omega (arith, l.complete.closed))
plain_layer_sums_not_above ds d (H ∷ Hs) [] l n = absurd (omega (arith, l.one_each))
plain_layer_sums_not_above ds d (H ∷ Hs) (x ∷ xs) l n =
    ≼_trans (rw (not_above_none {H = 0} {d = d} (omega arith), v_at_waterline {H = 0} {d = d} (omega arith)) at
    (from ds d l.afloat 0 H Hs x xs l.complete.rising l.complete.closed l.one_each n))
    (≼_of_≈ (nothing_more (si plain (boundaries (H ∷ Hs) (x ∷ xs)) (millimetres d)) x))
