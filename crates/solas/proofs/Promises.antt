-- What is promised of shares, proved. Assumes nothing.
use Prim.Native.Nat.{ℕ, ◌*◌, ◌≤◌}
use native.Mathlib.Nat.{le_of_eq}
use native.Mathlib.Omega.{arith}
use Rattle.laws.specs.Fraction.{Is}
use Rattle.laws.specs.Lists.{last}
use Rattle.laws.proofs.Fraction.{is_nothing, is_one, is_≈, same, below}
use Rattle.solas.specs.Ship.{Ship, Sound}
use Rattle.solas.specs.Share.{within, share}
use Rattle.solas.specs.Count.{added, taken, Group}
use Rattle.solas.specs.Promises.{NoShareNegative, NoShareAboveOne, TotalIsTheShip, TotalAtMostOne, TotalIsOne, LayersClose, MiddleLost, MiddleMissed, ZoneGained, ZoneTooMuch}
use Rattle.solas.proofs.Figure.{figure, over, over_positive, within_is, share_is, row_is, layers_are}
use Rattle.solas.proofs.Positive.{taken_not_above, added_not_above, ship_not_above, ship_is_one, span_above}
use Rattle.solas.proofs.Total as total

pub no_share_negative : NoShareNegative
no_share_negative s h a n b' b g q p = below (over_positive s h) (is_nothing (over_positive s h)) (row_is s h a n b' b g q p) (omega (arith, taken_not_above s h b' b a n g))

pub no_share_above_one : NoShareAboveOne
no_share_above_one s h a n b' b g q p = below (over_positive s h) (row_is s h a n b' b g q p) (is_one (over_positive s h)) (omega (arith, added_not_above s h b' b q p a n g))

-- ---- the total
module _ (s : Ship) (h : Sound s) (b : ℕ) (p : 2 * b ≤ s.B) where
  zones : (a e : ℕ) → 1 ≤ a → a ≤ e → e ≤ s.m → Is (within s a e b) (figure s 0 b a e) 0 (over s)
  zones a e x y z = within_is s h b p a e

  shares : (a n : ℕ) → Group s a n → Is (share s a n b) (added (figure s 0 b) a n) (taken (figure s 0 b) a n) (over s)
  shares a n g = share_is s h a n b g p

pub total_is_the_ship : TotalIsTheShip
total_is_the_ship s h b p = total.total_is_the_ship s h.zones b (figure s 0 b) (over s) (over_positive s h) (zones s h b p) (shares s h b p)

pub total_at_most_one : TotalAtMostOne
total_at_most_one s h b p =
    below (over_positive s h) (is_≈ (total_is_the_ship s h b p) (within_is s h b p 1 s.m)) (is_one (over_positive s h)) (omega (arith, ship_not_above s h 0 b (omega arith) p))

pub total_is_one : TotalIsOne
total_is_one s h b e =
    same (over_positive s h) (rw (ship_is_one s h b e) at (is_≈ (total_is_the_ship s h b (le_of_eq e)) (within_is s h b (le_of_eq e) 1 s.m))) (is_one (over_positive s h))

-- ---- layers
pub layers_close : LayersClose
layers_close s h a n g b bs l e = same (over_positive s h) (layers_are s h a n g 0 b bs l (le_of_eq e)) (share_is s h a n (last b bs) g (le_of_eq e))

-- ---- two slips
pub middle_lost : MiddleLost
middle_lost s h b p = total.middle_lost s h.zones b (figure s 0 b) (over s) (over_positive s h) (zones s h b p) (shares s h b p)

pub middle_missed : MiddleMissed
middle_missed s h q b e =
    total.middle_missed s h.zones b (figure s 0 b) (over s) (over_positive s h) (zones s h b (le_of_eq e)) (shares s h b (le_of_eq e)) (ship_is_one s h b e) (span_above s h b e) (omega arith)

pub zone_gained : ZoneGained
zone_gained s h b p = total.zone_gained s h.zones b (figure s 0 b) (over s) (over_positive s h) (zones s h b p) (shares s h b p)

pub zone_too_much : ZoneTooMuch
zone_too_much s h q b e =
    total.zone_too_much s h.zones b (figure s 0 b) (over s) (over_positive s h) (zones s h b (le_of_eq e)) (shares s h b (le_of_eq e)) (ship_is_one s h b e) (span_above s h b e) (omega arith)
