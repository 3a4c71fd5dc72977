-- What the first promise says of a ship of one zone with two layers and a deck, worked out as numbers. Assumes nothing.
use mathlib.Core.Path.{refl}
use mathlib.Core.List.{List, [], ◌∷◌}
use Rattle.laws.specs.Fraction.{Fraction, ◌over◌, whole, ◌less◌over◌, ◌⊹◌, ◌⊝◌, ◌⊛◌}
use Rattle.solas.specs.Span.{touch, p, P}
use Rattle.solas.specs.Penetration.{C, G1, G3, G, Q}
use Rattle.solas.specs.Share.{within, share, row_share}
use Rattle.solas.specs.Height.{v, v_at, row_v}
use Rattle.solas.specs.Index.{dp, attained}
use Rattle.heights.specs.Height.{row_vs}
use Rattle.survival.specs.Survival.{counts_at, factor_of, factor_at, factors_of}
use Rattle.indices.specs.Exact.{Thrice}
use Rattle.casefile.specs.Order.{same_group, same_layer}
use Rattle.rows.specs.Standing.{stands}
use Rattle.promises.specs.Rows.{exact_rows, rows_of}
use Rattle.promises.specs.Promises.{Kept}
use Rattle.promises.proofs.WitnessNumbers.{Compared}
use Rattle.promises.proofs.WitnessCases.{decked, decked_answer}

-- the survivals as they are given
abbrev xs : List Fraction
xs = whole 1 ∷ whole 0 ∷ (1 over 2) ∷ []

abbrev each : Thrice (List Fraction)
each = record { deepest = xs; partial = xs; light = xs }

module _ (said : Kept decked decked_answer) where
  pub no_more : Compared (said.enclosure.no_more.0 xs) × Compared (said.enclosure.no_more.1 xs) × Compared (said.enclosure.no_more.2 xs) × Compared (said.enclosure.attained_no_more each)
  unfolding rows_of exact_rows stands same_group same_layer row_share share within Q G P p C G1 G3 touch row_vs row_v v_at v dp counts_at factors_of factor_at factor_of attained ◌⊹◌ ◌⊝◌ ◌⊛◌ ◌less◌over◌
  no_more = (λ h. refl, λ h. refl, λ h. refl, λ h. refl)

  pub no_less : Compared (said.enclosure.no_less.0 xs) × Compared (said.enclosure.no_less.1 xs) × Compared (said.enclosure.no_less.2 xs) × Compared (said.enclosure.attained_no_less each)
  unfolding rows_of exact_rows stands same_group same_layer row_share share within Q G P p C G1 G3 touch row_vs row_v v_at v dp counts_at factors_of factor_at factor_of attained ◌⊹◌ ◌⊝◌ ◌⊛◌ ◌less◌over◌
  no_less = (λ h. refl, λ h. refl, λ h. refl, λ h. refl)
