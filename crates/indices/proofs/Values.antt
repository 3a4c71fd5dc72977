-- Document 01, "One file in full": its partial indices and A, and what an uneven row and a passenger ship's add, as the definitions of this crate give them. Assumes
-- nothing.
use Prim.Native.Nat.{ℕ}
use mathlib.Core.List.{List, [], ◌∷◌}
use mathlib.Core.Path.{◌≡◌, refl}
use lib.IntN.{ℤ, pos}
use Rattle.laws.specs.Fraction.{◌≼?◌, lesser, ◌less◌over◌, ◌⊛◌}
use Rattle.laws.specs.Rounding.{ceil}
use Rattle.roots.specs.Root.{with_digits, root_down, root_up}
use Rattle.records.specs.declared.Ends.{Ends}
use Rattle.records.specs.declared.Finding.{Finding}
use Rattle.records.specs.declared.Flooding.{Flooding}
use Rattle.records.specs.declared.Survival.{Survival}
use Rattle.records.specs.Results as results
use Rattle.solas.specs.Height.{v, v_at, row_v}
use Rattle.solas.specs.Index.{dp, draughts}
use Rattle.solas.specs.Survival.{k, s⁴, unless_immersed}
use Rattle.solas.specs.Passengers.{k_of_passengers, final⁴, intermediate⁴, s_mom, together⁴}
use Rattle.numbers.specs.Ratio.{ratio_of}
use Rattle.heights.specs.Height.{row_vs}
use Rattle.survival.specs.Marks.{unmarked}
use Rattle.survival.specs.Survival.{factor_of, scaled_of, rounded_of, survival_of, counts_at, passenger_survival, survival_at, survivals_of}
use Rattle.indices.specs.Index.{adds_of, trio, row_adds, partials, attained_of}

abbrev found : ℕ → ℕ → ℕ → ℤ → Finding
found lever range heel opening = record { lever = lever; range = range; heel = heel; opening = opening; given = 0 }

abbrev given : ℕ → Finding
given s = record { lever = 0; range = 0; heel = 0; opening = pos 0; given = s }

-- a displacement and a heeling moment, with an intermediate stage that takes nothing and no ro-ro space
abbrev flooding : ℕ → ℕ → Flooding
flooding displacement moment = record { displacement = displacement; moment = moment; lever = 50; range = 700; heel = 0; roro = 0 }

abbrev survived : ℕ → ℕ → Survival
survived bottom top = record { bottom = bottom; top = top; marks = unmarked }

abbrev ends : ℕ → ℕ → Ends
ends lower upper = record { lower = lower; upper = upper }

-- its three rows reach from the baseline to 18,500, the top at each draught
abbrev vs : List ℕ
vs = row_vs 0 18500 (draughts 6000 4000)

abbrev file : List Ends
file =
    partials
    (row_adds (ends 0x072648b6 0x072648b7) vs (survivals_of 2 (results.found (found 30 400 0 (pos 0) ∷ found 30 400 0 (pos 0) ∷ found 30 400 0 (pos 0) ∷ [])))
    ∷ row_adds (ends 0x03e36aea 0x03e36aec) vs (survivals_of 3 (results.found (given 0 ∷ given 0 ∷ given 0 ∷ [])))
    ∷ row_adds (ends 0x3091165e 0x3091165f) vs (survivals_of 3 (results.found (given 10000 ∷ given 10000 ∷ given 10000 ∷ [])))
    ∷ [])

abbrev printed : Ends
printed = ends 0x34243ab9 0x34243abb

pub one_file : (file ≡ trio printed printed printed) × (attained_of file ≡ printed)
unfolding row_vs row_v v_at v dp survivals_of survival_at counts_at survival_of factor_of unless_immersed s⁴ k ratio_of scaled_of rounded_of root_down root_up with_digits ceil ◌⊛◌ ◌less◌over◌ adds_of row_adds partials attained_of
one_file = (refl, refl)

-- a row whose share and survival have two ends, and which adds something else at each draught
pub uneven_row :
    row_adds (ends 100000 200000) (916500 ∷ 458250 ∷ 0 ∷ []) (survived 7071 7072 ∷ survived 5000 5000 ∷ survived 10000 10000 ∷ [])
    ≡ trio (ends 70710 141440) (ends 25000 50000) (ends 0 0)
unfolding adds_of row_adds ceil
uneven_row = refl

-- a passenger ship's row: the moments are all but borne, and then by half
pub passenger_row :
    row_adds (ends 100000 200000) (916500 ∷ 458250 ∷ 0 ∷ []) (survivals_of 7 (record {
      findings = found 5000 9000 0 (pos 0) ∷ found 120 1600 0 (pos 0) ∷ found 120 1600 0 (pos 0) ∷ [];
      floodings = flooding 299999 1488000 ∷ flooding 1000 160 ∷ flooding 1000 80 ∷ [];
    }))
    ≡ trio (ends 99990 200000) (ends 25000 50000) (ends 0 0)
unfolding survivals_of survival_at passenger_survival unless_immersed together⁴ lesser ◌≼?◌ final⁴ k_of_passengers intermediate⁴ s_mom ratio_of scaled_of rounded_of root_down root_up with_digits ceil ◌⊛◌ ◌less◌over◌ adds_of row_adds
passenger_row = refl
