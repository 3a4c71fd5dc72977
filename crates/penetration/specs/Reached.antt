-- A span of a ship that damage reaches down to a layer: what G of it is worked out from. Assumes nothing.
use Rattle.std.specs.Prelude.{ℕ, ◌-◌, ◌*◌, ◌≤◌, ◌≡◌}
use Rattle.records.specs.declared.Ends.{Ends}
use Rattle.layers.specs.declared.Layer.{Layer}
use Rattle.layers.specs.Layer.{layer_of}
use Rattle.spans.specs.Span.{p_ends}

-- p's ends of a span of a ship, and a layer of the same ship down to at most half of its breadth
pub record Reached (L B aft fwd : ℕ) (p : Ends) (y : Layer) : Type 0 where
  pub long : 1 ≤ L
  pub short : L ≤ 19800
  pub broad : 1 ≤ B
  pub narrow : B ≤ 6000
  pub rising : aft ≤ fwd
  pub within : fwd ≤ L
  pub deep : 2 * y.depth ≤ B
  pub inner : p ≡ p_ends L (fwd - aft)
  pub layer : y ≡ layer_of B y.depth
