-- Document 01's table of proved values: C, G1, v and R as solas has them, the others by computation from the definitions. Assumes nothing.
use Prim.Native.Nat.{ℕ}
use mathlib.Core.Path.{refl, ap}
use native.Mathlib.Omega.{arith}
use lib.Dec.{lit<}
use Rattle.laws.specs.Fraction.{◌less◌over◌, whole, ◌≈◌, ◌⊹◌, ◌⊝◌, ◌⊛◌}
use Rattle.laws.specs.Rounding.{ceil}
use Rattle.laws.proofs.Fraction.{is_nothing, is_shifted, same}
use Rattle.roots.specs.Root.{with_digits, root_down, root_up}
use Rattle.solas.specs.Span.{touch, p, P}
use Rattle.solas.specs.Penetration.{C, G1, G3, G, Q}
use Rattle.solas.specs.Share.{within, share, row_share}
use Rattle.solas.specs.Survival.{k, s⁴, unless_immersed}
use Rattle.solas.proofs.Values as values
use Rattle.solas.proofs.Survival.{is_s⁴, s⁴_not_negative, s⁴_at_most_one}
use Rattle.numbers.specs.Ratio.{ratio_of}
use Rattle.survival.specs.Survival.{factor_of, scaled_of, rounded_of, survival_of}
use Rattle.survival.proofs.Bounds.{ends_same}
use Rattle.promises.specs.Values.{gives, ProvedValues}

-- at a heel of 30 degrees nothing survives, whatever the lever and the range
none : (g t : ℕ) → s⁴ g t 3000 ≈ whole 0
none g t = same (lit< tt) (is_shifted 0 0 (omega arith) (is_s⁴ g t 3000)) (is_nothing (lit< tt))

heeled : (g t : ℕ) → gives g t 3000 0 0
unfolding survival_of factor_of unless_immersed scaled_of rounded_of ratio_of root_down root_up with_digits ceil ◌less◌over◌
heeled g t =
    let same = ends_same (none g t) (s⁴_not_negative g t 3000, s⁴_at_most_one g t 3000) in
    (ap (λ r. r.bottom) same, ap (λ r. r.top) same)

pub proved_values : ProvedValues
unfolding p P Q G touch C G1 G3 within share row_share survival_of factor_of unless_immersed s⁴ k ratio_of scaled_of rounded_of root_down root_up with_digits ceil ◌⊹◌ ◌⊝◌ ◌⊛◌ ◌less◌over◌
proved_values = record {
  p_1500 = record { cross = refl };
  p_3000 = record { cross = refl };
  first_share = record { cross = refl };
  second_share = record { cross = refl };
  third_share = record { cross = refl };
  C_160 = values.C_160;
  G1_160 = values.G1_160;
  C_800 = values.C_800;
  v_7800 = values.v_7800;
  v_7801 = values.v_7801;
  R_8000 = values.R_8000;
  R_10000 = values.R_10000;
  s_30_400_0 = (refl, refl);
  s_60_800_0 = (refl, refl);
  s_120_1600_2995 = (refl, refl);
  s_at_3000 = heeled;
  s_immersed = λ n g t e. (refl, refl);
}
