-- A layer of a ship, down to at most half its breadth. Assumes nothing.
use Rattle.std.specs.Prelude.{ℕ, ◌*◌, ◌≤◌, ◌≡◌}
use Rattle.layers.specs.declared.Layer.{Layer}
use Rattle.layers.specs.Layer.{layer_of}

pub record Layered (B : ℕ) (y : Layer) : Type 0 where
  pub deep : 2 * y.depth ≤ B
  pub layer : y ≡ layer_of B y.depth
