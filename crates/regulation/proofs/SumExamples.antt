-- Sums over layers of three heights, by the regulation's letters and by document 01's: where the two are the same, and where a height below the
-- last is more than 12.5 m above the draught. Assumes nothing.
use Prim.Native.Nat.{ℕ}
use mathlib.Core.Path.{refl}
use mathlib.Core.List.{List, [], ◌∷◌}
use Rattle.laws.specs.Fraction.{Fraction, ◌less◌over◌, ◌over◌, ◌≈◌, ◌≼?◌, ◌⊹◌, ◌⊝◌, ◌⊛◌, ◌⊘◌, total}
use Rattle.solas.specs.Height.{v, v_at, row_v}
use Rattle.solas.specs.Layers.{layer_v}
use Rattle.regulation.specs.RegulationIndex as regulation
use Rattle.regulation.specs.RegulationIndex.{millimetres, counted, v_of, held, vm}
use Rattle.regulation.specs.RegulationSums.{Flooding, plain, in_brackets, si, d_A, partial_A}
use Rattle.regulation.specs.OfSolasSums.{boundaries, v_sum}

-- in place of s
abbrev xs : List Fraction
xs = (1 over 2) ∷ (1 over 4) ∷ (1 over 8) ∷ []

-- at a draught of 6 m: the first height is below it, the second 7.8 m above, the third 12.5 m above; 0·1/2 + 0.8·1/4 + (1 - 0.8)·1/8
abbrev decks : List ℕ
decks = 5000 ∷ 13800 ∷ 18500 ∷ []

pub decked : (si vm (boundaries decks xs) (millimetres 6000) ≈ 9 over 40) × (si plain (boundaries decks xs) (millimetres 6000) ≈ 9 over 40)
    × (v_sum (layer_v decks 6000) xs ≈ 9 over 40)
unfolding si in_brackets vm plain held v_of counted regulation.v row_v v_at v ◌≼?◌ ◌⊹◌ ◌⊝◌ ◌⊛◌ ◌⊘◌ ◌less◌over◌
decked = (record { cross = refl }, record { cross = refl }, record { cross = refl })

-- at a draught of 2 m: the second height is 14.85 m above it, where the regulation's v is 1.1; 0.8·1/2 + (1.1 - 0.8)·1/4 + 0·1/8, the last with
-- (1 - 1.1)·1/8 where it is plain, but in document 01 0.8·1/2 + 0.2·1/4 + 0·1/8
abbrev high : List ℕ
high = 9800 ∷ 16850 ∷ 18500 ∷ []

pub parted : (si vm (boundaries high xs) (millimetres 2000) ≈ 19 over 40) × (si plain (boundaries high xs) (millimetres 2000) ≈ 37 over 80)
    × (v_sum (layer_v high 2000) xs ≈ 9 over 20)
unfolding si in_brackets vm plain held v_of counted regulation.v row_v v_at v ◌≼?◌ ◌⊹◌ ◌⊝◌ ◌⊛◌ ◌⊘◌ ◌less◌over◌
parted = (record { cross = refl }, record { cross = refl }, record { cross = refl })

-- a partial index of two groups: 1/3·9/40 + 1/5·1/2
abbrev two : List Flooding
two = record { pi = 1 over 3; boundaries = boundaries decks xs } ∷ record { pi = 1 over 5; boundaries = boundaries (18500 ∷ []) xs } ∷ []

pub two_groups : partial_A vm two (millimetres 6000) ≈ 7 over 40
unfolding partial_A d_A total si in_brackets vm held v_of counted regulation.v ◌≼?◌ ◌⊹◌ ◌⊝◌ ◌⊛◌ ◌⊘◌ ◌less◌over◌
two_groups = record { cross = refl }
