-- A passenger ship's survival from numbers that a host gives. Assumes nothing.
use Rattle.std.specs.Prelude.{ℕ, Bool, cond, ◌&&◌, leb, ℤ}
use Rattle.records.specs.declared.Finding.{Finding}
use Rattle.records.specs.declared.Flooding.{Flooding}
use Rattle.records.specs.declared.Survival.{Survival}
use Rattle.survival.specs.Survival.{no_survival, passenger_survival}
use Rattle.casefile.specs.Limits.{between}

abbrev pub final_of : ℕ → ℕ → ℕ → ℤ → Finding
final_of lever range heel opening = record { lever = lever; range = range; heel = heel; opening = opening; given = 0 }

abbrev pub flooding_of : ℕ → ℕ → ℕ → ℕ → ℕ → ℕ → Flooding
flooding_of displacement moment lever range heel roro =
    record { displacement = displacement; moment = moment; lever = lever; range = range; heel = heel; roro = roro }

-- lever, displacement and moment keep the limits of a case file
unfoldable pub loads : ℕ → ℕ → ℕ → Bool
loads lever displacement moment = leb lever 5000 && between 1 300000 displacement && between 1 2000000 moment

-- nothing is told of others
unfoldable pub survival_told : Finding → Flooding → Survival
survival_told f w = cond (loads f.lever w.displacement w.moment) (passenger_survival f w) no_survival
