-- What the third promise says of ships of one, two and three zones: what is listed, what is not, and the total, worked out. Assumes nothing.
use mathlib.Core.Path.{refl, ap}
use mathlib.Core.List.{Memᴰ}
use native.Mathlib.Omega.{arith}
use lib.Dec.{lit≤}
use borrow.Author.Tests.{eqb-false}
use Rattle.laws.specs.Fraction.{◌less◌over◌, ◌⊹◌, ◌⊝◌, ◌⊛◌, total}
use Rattle.records.specs.declared.Answer.{Answer}
use Rattle.solas.specs.Span.{touch, p, P}
use Rattle.solas.specs.Penetration.{C, G1, G3, G, Q}
use Rattle.solas.specs.Share.{within, share, row_share}
use Rattle.solas.specs.Count.{Group}
use Rattle.solas.specs.Height.{v, v_at, row_v}
use Rattle.solas.specs.Index.{dp}
use Rattle.spans.specs.Hull.{ship_of}
use Rattle.heights.specs.Height.{row_vs}
use Rattle.casefile.specs.Record.{Row}
use Rattle.casefile.specs.Order.{same_group, same_layer}
use Rattle.rows.specs.Standing.{stands}
use Rattle.promises.specs.Rows.{exact_rows, rows_of, chances, group_share, Listed, AllListed}
use Rattle.promises.specs.Promises.{Kept}
use Rattle.promises.proofs.WitnessNumbers.{Said}
use Rattle.promises.proofs.WitnessCases.{decked, decked_answer, unpaired, long_middle}

-- ---- one zone: its one group is listed, and the total is one
only : AllListed decked
only a n g some = record { row = _; among = Memᴰ.head refl; first = omega (arith, g.from, g.some, g.fits); count = omega (arith, g.from, g.some, g.fits) }

pub all_there : (said : Kept decked decked_answer) → Said said.chances.one.0
unfolding chances total rows_of exact_rows stands same_group same_layer row_share share within Q G P p C G1 G3 touch row_vs row_v v_at v dp ◌⊹◌ ◌⊝◌ ◌⊛◌ ◌less◌over◌
all_there said = (λ e. only, λ all. record { cross = refl })

-- ---- three zones, the middle one longer than any damage: all three together have no share, and need not be listed
pub no_share : (all : AllListed long_middle) (g : Group (ship_of long_middle.hull) 1 3) → Said (all 1 3 g)
unfolding group_share share within Q G P p C G1 G3 touch ◌⊹◌ ◌⊝◌ ◌⊛◌ ◌less◌over◌
no_share all g some = absurd (some (record { cross = refl }))

-- ---- two zones, whose pair has a share and is not listed: the total is not one
not_listed : (l : Listed unpaired 1 2) → Memᴰ l.row unpaired.rows → ⊥
not_listed l (Memᴰ.head e) = omega (arith, l.count, ap (λ (r : Row). r.head.count) e)
not_listed l (Memᴰ.tail (Memᴰ.head e)) = omega (arith, l.count, ap (λ (r : Row). r.head.count) e)
not_listed l (Memᴰ.tail (Memᴰ.tail m)) = elim m [ ]

pair_missing : AllListed unpaired → ⊥
unfolding group_share share within Q G P p C G1 G3 touch ◌⊹◌ ◌⊝◌ ◌⊛◌ ◌less◌over◌
pair_missing all =
    let l = all 1 2 (record { from = lit≤ tt; some = lit≤ tt; fits = lit≤ tt }) (λ e. eqb-false _ _ refl e.cross) in
    not_listed l l.among

pub not_all_there : (r : Answer) (said : Kept unpaired r) → Said said.chances.one.0
unfolding chances total rows_of exact_rows stands same_group same_layer row_share share within Q G P p C G1 G3 touch row_vs row_v v_at v dp ◌⊹◌ ◌⊝◌ ◌⊛◌ ◌less◌over◌
not_all_there r said = (λ e. absurd (eqb-false _ _ refl e.cross), λ all. absurd (pair_missing all))
