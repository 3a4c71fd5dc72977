-- What is said of the numbers that a host gets, of four rows on the printed file's hull, worked out. Assumes nothing.
use Prim.Native.Nat.{ℕ}
use mathlib.Core.Path.{refl}
use mathlib.Core.List.{List, [], ◌∷◌}
use lib.Dec.{lit<}
use Rattle.laws.specs.Fraction.{Fraction, ◌over◌, whole, ◌less◌over◌, ◌≼◌, ◌⊹◌, ◌⊝◌, ◌⊛◌, ◌≼?◌}
use Rattle.laws.specs.Rounding.{ceil}
use Rattle.roots.specs.Root.{with_digits, root_down, root_up}
use Rattle.records.specs.declared.Ends.{Ends}
use Rattle.solas.specs.Span.{touch, p, P}
use Rattle.solas.specs.Penetration.{C, G1, G3, G, Q}
use Rattle.solas.specs.Share.{within, share, row_share}
use Rattle.solas.specs.Height.{v, v_at, row_v}
use Rattle.solas.specs.Index.{dp}
use Rattle.solas.specs.Survival.{k, s⁴, unless_immersed}
use Rattle.numbers.specs.Ratio.{ratio_of}
use Rattle.chances.proofs.Values.{in_full}
use Rattle.heights.specs.Height.{row_vs}
use Rattle.survival.specs.Marks.{found_marks, marks_of}
use Rattle.survival.specs.Survival.{NotAbove, NotBelow, worse_of, counts_at, factor_of, scaled_of, rounded_of, survival_of, survival_at}
use Rattle.indices.specs.Index.{adds_of}
use Rattle.indices.specs.Exact as exact
use Rattle.indices.specs.Exact.{row_at}
use Rattle.printing.specs.Marks.{mark_byte}
use Rattle.casefile.specs.Order.{same_group, same_layer}
use Rattle.casefile.specs.Record.{Case}
use Rattle.rows.specs.Standing.{nowhere, stands, standings}
use Rattle.rows.specs.Work.{share_at, shares_from}
use Rattle.listing.proofs.Values.{hull, first, flooded, rows, told}
use Rattle.answers.specs.Answer.{shares}
use Rattle.promises.specs.Rows.{exact_row}
use Rattle.promises.specs.HostRows.{RowTold, column_total, AddsUp, Encloses}
use Rattle.promises.proofs.WitnessNumbers.{Said, Compared}

abbrev case : Case
case = record { hull = hull; rows = rows }

-- the second row, which stands over the first
module _ (said : RowTold case told 1 flooded) where
  pub share_so : Said said.lower × Said said.upper
  unfolding shares shares_from share_at stands same_group same_layer
  share_so = rw in_full.0 (refl, refl)

  pub told_so :
      Said (said.draught 1 (lit< tt)).v
      × Said (said.draught 1 (lit< tt)).bottom
      × Said (said.draught 1 (lit< tt)).top
      × Said (said.draught 1 (lit< tt)).marks
      × Said (said.draught 1 (lit< tt)).adds
  unfolding standings stands same_group same_layer row_v v_at v dp mark_byte worse_of counts_at survival_at survival_of factor_of marks_of found_marks unless_immersed s⁴ k ratio_of scaled_of rounded_of root_down root_up with_digits adds_of ceil ◌⊛◌ ◌less◌over◌ ◌≼?◌
  told_so = (refl, refl, refl, refl, refl)

-- the partial indices, as the independent program has them
abbrev partials : List Ends
partials = record { lower = 133676119; upper = 133683503 } ∷ record { lower = 742209213; upper = 742302697 } ∷ record { lower = 760030029; upper = 760111515 } ∷ []

module _ (said : (j : ℕ) → AddsUp 4 told partials j) where
  pub adds_up : (Said (said 0).lower × Said (said 0).upper) × (Said (said 1).lower × Said (said 1).upper) × (Said (said 2).lower × Said (said 2).upper)
  unfolding column_total
  adds_up = ((refl, refl), (refl, refl), (refl, refl))

-- the first row at the deepest draught, where s⁴ is 1/4: 0.7071 is not above it, and 0.7072 not below
abbrev row : exact.RowAt
row = row_at 0 (exact_row hull (stands nowhere first.head) first.results)

abbrev below : Fraction
below = 7071 over 10000

abbrev above : Fraction
above = 7072 over 10000

module _ (said : Encloses (record { lower = 52194638; upper = 52202021 }) row) where
  pub encloses :
      Compared (λ (h : (whole 0 ≼ below) × NotAbove row.factor below). said.no_more below h.0 h.1)
      × Compared (λ (h : (whole 0 ≼ above) × NotBelow row.factor above). said.no_less above h.0 h.1)
  unfolding stands same_group same_layer row_share share within Q G P p C G1 G3 touch row_vs row_v v_at v dp ◌⊹◌ ◌⊝◌ ◌⊛◌ ◌less◌over◌
  encloses = (λ h. refl, λ h. refl)
