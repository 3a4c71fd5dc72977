-- Records from parts of a frame's bytes, as the code takes them. Assumes nothing.
use Prim.Native.Nat.{ℕ, ◌+◌, ◌-◌, ◌≤◌}
use mathlib.Core.List.{List}
use native.Mathlib.Omega.{arith}
use lib.ListN.{length, take, drop, length-drop}
use Rattle.laws.proofs.Lists.{rest_of}

-- what stands from a place on stands in the part from there to the end
pub part_long : (f : List ℕ) (at n : ℕ) → at + n ≤ length f → n ≤ length (take (length f - at) (drop at f))
part_long f at n h = rw (rest_of f at, length-drop at f) (omega arith)
