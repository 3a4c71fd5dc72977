-- Document 02, "Passenger ships": s-final times s-mom, where s-mom is "(lever - 0.04 m) times displacement over the heeling moment, between 0 and 1", and its two
-- roundings. Assumes nothing.
use Rattle.std.specs.Prelude.{ℕ, ◌+◌, ◌*◌, ◌^◌, ◌≤◌, ◌<◌}
use Rattle.records.specs.declared.Rounded.{Rounded}
use Rattle.moments.specs.declared.FinalStage.{FinalStage}

-- the fourth root of n/d, rounded down and up
pub record Rooted (n d bottom top : ℕ) : Type 0 where
  -- "the greatest whole s with s⁴ not above" it
  pub within : bottom ^ 4 * d ≤ n
  pub greatest : (s : ℕ) → s ^ 4 * d ≤ n → s ≤ bottom
  -- "the least not below"
  pub reaches : n ≤ top ^ 4 * d
  pub least : (s : ℕ) → n ≤ s ^ 4 * d → top ≤ s

-- what is asked of the ends of s-final in ten-thousandths and of the numbers of a final stage: its s⁴ is fourth/(10⁴·caps); s-mom is
-- righting/(1000·heeling), with righting the lever's millimetres above 40 times the displacement and heeling the heeling moment, and is at most one
pub record Held (ends : Rounded) (stage : FinalStage) : Type 0 where
  pub rooted : Rooted (10 ^ 12 * stage.fourth) stage.caps ends.bottom ends.top
  pub at_most_one : ends.top ≤ 10 ^ 4
  pub caps_positive : 0 < stage.caps
  pub caps_small : stage.caps ≤ 25600000
  pub heeling_positive : 0 < stage.heeling
  pub heeling_small : stage.heeling ≤ 2000000
  pub moment_at_most_one : stage.righting ≤ 1000 * stage.heeling

-- the survival lies between `low` and the next number but one, and the numbers are such as 64 bits hold
pub record Beside (low : ℕ) (stage : FinalStage) : Type 0 where
  pub above : low ^ 4 * (stage.caps * stage.heeling ^ 4) < stage.fourth * stage.righting ^ 4
  pub below : stage.fourth * stage.righting ^ 4 < (low + 2) ^ 4 * (stage.caps * stage.heeling ^ 4)
  pub low_small : low < 10 ^ 4
  pub caps_positive : 0 < stage.caps
  pub caps_small : stage.caps ≤ 25600000
  pub heeling_positive : 0 < stage.heeling
  pub heeling_small : stage.heeling ≤ 2000000
  pub righting_small : stage.righting < 2 ^ 32
