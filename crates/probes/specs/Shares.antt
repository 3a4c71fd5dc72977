-- A hull and rows that a host gives as numbers, and the ends of the rows' shares. Assumes nothing.
use Rattle.std.specs.Prelude.{ℕ, zero, suc, ◌+◌, ◌/◌, min, Bool, cond, ◌&&◌, List, [], ◌∷◌, leb, length, get_or}
use Rattle.laws.specs.Lists.{tabulate}
use Rattle.records.specs.declared.Ends.{Ends}
use Rattle.records.specs.declared.Hull.{Hull}
use Rattle.records.specs.declared.RowHead.{RowHead}
use Rattle.spans.specs.Hull.{ship_of}
use Rattle.chances.specs.Share.{row_ends}
use Rattle.casefile.specs.Limits.{sizes_fit, zones_fit, head_fits}

-- a list's number, 0 past its end
abbrev pub number : List ℕ → ℕ → ℕ
number ns k = get_or ns k 0

-- the hull's numbers in the order of its record: its kind, Ls, B, ds, dl, the zone count, the 21 places; persons count for no share
unfoldable pub hull_in : List ℕ → Hull
hull_in ns =
    record {
      kind = number ns 0;
      length = number ns 1;
      breadth = number ns 2;
      deepest = number ns 3;
      light = number ns 4;
      lifeboats = 0;
      excess = 0;
      rule = 0;
      zones = number ns 5;
      places = tabulate (λ k. number ns (6 + k)) 21;
    }

-- a hull of kind 6 that no case file would be refused for; any other kind is taken for a cargo ship's
abbrev pub hull_fits : Hull → Bool
hull_fits h = sizes_fit h && zones_fit h

-- a row's head of that group and penetration, whatever its height
abbrev pub head_with : ℕ → ℕ → ℕ → RowHead
head_with a n b = record { kind = 3; first = a; count = n; depth = b; height = 1 }

-- the share of the group (a, n) in the layer from b' to b; zeros where the hull has no such row
unfoldable pub share_in : Hull → ℕ → ℕ → ℕ → ℕ → Ends
share_in h a n b' b = cond (head_fits h (head_with a n b) && leb b' b) (row_ends (ship_of h) a n b' b) (record { lower = 0; upper = 0 })

-- of the row whose four numbers, a, n, b' and b, stand at a place
unfoldable pub share_at : Hull → List ℕ → ℕ → Ends
share_at h rows at = share_in h (number rows at) (number rows (at + 1)) (number rows (at + 2)) (number rows (at + 3))

-- of so many rows from a place on: the lower and the upper end of each
unfoldable pub shares_from : Hull → List ℕ → ℕ → ℕ → List ℕ
shares_from h rows at zero = []
shares_from h rows at (suc k) = (share_at h rows at).lower ∷ (share_at h rows at).upper ∷ shares_from h rows (at + 4) k

-- as many rows as are given whole and as there is room for; none for a hull that does not fit
unfoldable pub rows_told : Hull → List ℕ → List ℕ → ℕ
rows_told h rows out = cond (hull_fits h) (min (length rows / 4) (length out / 2)) 0
