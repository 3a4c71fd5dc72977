-- The numbers with which a passenger ship's survival is worked out: what the ro-ro mark decides, and what s-final⁴ is above the line. Assumes nothing.
use Rattle.std.specs.Prelude.{ℕ, ◌-◌, ◌*◌, ◌^◌, min, cond, List, eqb, get_or}
use Rattle.records.specs.declared.Finding.{Finding}
use Rattle.records.specs.declared.Flooding.{Flooding}
use Rattle.survival.specs.Survival.{nothing, still, Loaded}
use Rattle.passengers.specs.declared.Caps.{Caps}

-- the caps of lever and range; 10⁴ times `below` is what s-final⁴ is divided by, both caps and 800²; and one part of that is `parts` 168ths of 10⁻¹⁶
unfoldable pub caps_of : ℕ → Caps
caps_of roro = cond (eqb roro 1) (record { lever = 200; range = 2000; below = 25600000; parts = 6562500 }) (record { lever = 120; range = 1600; below = 12288000; parts = 13671875 })

-- what s-final⁴ of a lever g, a range t and a heel e is above the line
abbrev pub fourth_in : Caps → ℕ → ℕ → ℕ → ℕ
fourth_in c g t e = min g c.lever * min t c.range * min 800 (1500 - e) ^ 2

-- the loads of a row keep to their limits at each draught
abbrev pub Loads : List Finding → List Flooding → Type 0
Loads fs ws = (i : ℕ) → Loaded (get_or fs i nothing) (get_or ws i still)
