-- v on both sides of its bend at 7.8 m, above the draught and over the baseline: the definitions that this crate's contracts cite, computed. Assumes nothing.
use mathlib.Core.Path.{◌≡◌, refl}
use Rattle.solas.specs.Height.{v, v_at}

pub heights : (v 7800 ≡ 733200) × (v 7801 ≡ 733239) × (v_at 13801 6000 ≡ 733239)
unfolding v v_at
heights = (refl, refl, refl)
