-- What a wide number is: the value of its limbs, which are the digits of a number in base 2³², the least first. Assumes nothing.
use Rattle.std.specs.Prelude.{◌≡◌, List, [], ◌∷◌, ℕ, ◌+◌, ◌*◌, ◌^◌, ◌<◌, length, get_or}
use Rattle.wide.specs.declared.Place.{Place}
use Rattle.wide.specs.declared.Sum.{Sum}

unfoldable pub value : List ℕ → ℕ
value [] = 0
value (limb ∷ rest) = limb + 2 ^ 32 * value rest

-- what six limbs cannot write any more
unfoldable pub limit : ℕ
limit = 2 ^ 192

pub record Limbs (w : List ℕ) : Type 0 where
  pub six : length w ≡ 6
  pub small : (i : ℕ) → get_or w i 0 < 2 ^ 32

-- w is a wide number, and its value is n
pub record Writes (w : List ℕ) (n : ℕ) : Type 0 where
  pub limbs : Limbs w
  pub number : value w ≡ n

-- n as a limb and what is carried to the next
pub record Placed (n : ℕ) (p : Place) : Type 0 where
  pub limb_small : p.limb < 2 ^ 32
  pub carry_small : p.carry < 2 ^ 32
  pub whole : p.limb + 2 ^ 32 * p.carry ≡ n

-- n as six limbs and what is carried out of the last
pub record Carried (n : ℕ) (s : Sum) : Type 0 where
  pub limbs : Limbs s.limbs
  pub carry_small : s.carry < 2 ^ 32
  pub whole : value s.limbs + limit * s.carry ≡ n
