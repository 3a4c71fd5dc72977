-- One layer of a valid case: its heights are complete, its share is the regulation's pi and not negative, and so keeps the order of what it is
-- multiplied with. Assumes nothing.
use Prim.Native.Nat.{ℕ, ◌*◌, ◌≤◌}
use mathlib.Core.Path.{◌≡◌, sym, ◌∙◌}
use mathlib.Core.List.{List}
use native.Mathlib.Omega.{arith}
use lib.ListN.{length, length-map}
use Rattle.laws.specs.Fraction.{Fraction, whole, ◌≈◌, ◌≼◌, ◌⊛◌}
use Rattle.laws.proofs.Fraction.{≈_refl, ≈_sym, ≈_trans, ⊛-≈, ≼_of_≈, ≼_trans}
use Rattle.laws.proofs.FractionRing.{⊛_comm}
use Rattle.laws.proofs.FractionCompare.{⊛_keeps}
use Rattle.laws.proofs.Tests.{holds}
use Rattle.records.specs.declared.Hull.{Hull}
use Rattle.records.specs.declared.RowHead.{RowHead}
use Rattle.solas.specs.Ship.{Ship}
use Rattle.solas.specs.Share.{row_share}
use Rattle.solas.specs.Layers.{Complete}
use Rattle.solas.proofs.Promises.{no_share_negative}
use Rattle.regulation.specs.Regulation.{IsRoot, under√, pi}
use Rattle.regulation.specs.OfSolasSums.{LayerAt}
use Rattle.regulation.proofs.RegulationShares.{shares_are_the_regulation's}
use Rattle.spans.specs.Hull.{ship_of}
use Rattle.casefile.specs.Record.{Row, Case}
use Rattle.casefile.specs.Limits.{row_fits}
use Rattle.casefile.specs.Valid.{Valid}
use Rattle.casefile.specs.Groups.{layer_rows, layer_head}
use Rattle.casefile.proofs.Limits.{Head, row_is}
use Rattle.promises.specs.Sums.{LayerAfter, heights}
use Rattle.promises.proofs.Chances as chances
use Rattle.promises.proofs.LayerSums.{Sits}
use Rattle.promises.proofs.CutLists.{heights_rise, heights_end}

module _ (c : Case) (v : Valid c) (√ : Fraction) (root : IsRoot √ (under√ c.hull.length)) where
  abbrev h : Hull
  h = c.hull

  abbrev s : Ship
  s = ship_of h

  module _ (K : Row → Type 0) (l : LayerAfter) (y : Sits h K l) where
    abbrev k : RowHead
    k = layer_head l.layer

    abbrev Hs : List ℕ
    Hs = heights (layer_rows l.layer)

    head : Head h k
    head = (row_is h l.layer.lowest (holds (row_fits h l.layer.lowest) y.rows.0.0.limits)).0

    complete : Complete h.deepest Hs
    complete = record {
      rising = (omega (arith, head.lowest), heights_rise l.layer.lowest l.layer.above y.fits.rises);
      closed = omega (arith, heights_end l.layer.lowest l.layer.above, y.fits.ends);
    }

    pub at_draught : (d : ℕ) → d ≤ h.deepest → (ys : List Fraction) → length ys ≡ length (layer_rows l.layer) → LayerAt h.deepest d Hs ys
    at_draught d afloat ys n = record { complete = complete; afloat = afloat; one_each = n ∙ sym (length-map (layer_rows l.layer) _) }

    deep : 2 * k.depth ≤ h.breadth
    deep = omega (arith, head.deepest)

    share_is : pi s √ l.before k.depth k.first k.count ≈ row_share s k.first k.count l.before k.depth
    share_is =
        shares_are_the_regulation's s (chances.sound c v) √ root k.first k.count l.before k.depth head.first head.within
        y.deeper deep

    share_not_negative : whole 0 ≼ row_share s k.first k.count l.before k.depth
    share_not_negative =
        no_share_negative s (chances.sound c v) k.first k.count l.before k.depth
        (record { from = head.first; some = head.count; fits = head.within }) (omega (arith, y.deeper)) deep

    pub share_times : {f g : Fraction} → f ≈ g →
        row_share s k.first k.count l.before k.depth ⊛ f ≈ pi s √ l.before k.depth k.first k.count ⊛ g
    share_times e = ⊛-≈ (≈_sym share_is) e

    pub share_times_below : {f g : Fraction} → f ≼ g →
        row_share s k.first k.count l.before k.depth ⊛ f ≼ pi s √ l.before k.depth k.first k.count ⊛ g
    share_times_below {f} {g} e =
        let a = row_share s k.first k.count l.before k.depth in
        ≼_trans (≼_of_≈ (⊛_comm a f)) (≼_trans (⊛_keeps share_not_negative e) (≼_of_≈ (≈_trans (⊛_comm g a) (share_times (≈_refl g)))))
