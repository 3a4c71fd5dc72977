-- The rows of a case in turn, as they are worked through: what is known after each, and what is asked of it. Assumes nothing.
use Rattle.std.specs.Prelude.{ℕ, ◌*◌, ◌≤◌, ◌≡◌, List, [], ◌∷◌}
use Rattle.std.specs.Coded.{×_prop, Unit-prop}
use Rattle.std.proofs.Props.{props}
use Rattle.records.specs.declared.Hull.{Hull}
use Rattle.records.specs.declared.RowHead.{RowHead}
use Rattle.records.specs.Results.{Results}
use Rattle.solas.specs.Count.{Group}
use Rattle.spans.specs.Hull.{ship_of}
use Rattle.chances.specs.Share.{nothing}
use Rattle.survival.specs.Survival.{no_survival, survivals_of}
use Rattle.indices.specs.Index.{plus, partials, Share, Given}
use Rattle.casefile.specs.Record.{Row}
use Rattle.rows.specs.declared.Standing.{Standing}
use Rattle.rows.specs.declared.Running.{Running}
use Rattle.rows.specs.Standing.{nowhere, stands}
use Rattle.rows.specs.Work.{share_at, part_at, adds_at}

-- ---- what is known: where the last row stood, its part, its survivals, and the sums of what the rows added

unfoldable pub begun : Running
begun = record { standing = nowhere; part = record { group = nothing; share = record { lower = 0; upper = 0 } }; survivals = no_survival ∷ no_survival ∷ no_survival ∷ []; sums = partials [] }

-- after one row more
unfoldable pub entered : Hull → Running → RowHead → Results → Running
entered h s head results =
    let z = stands s.standing head in
    record { standing = z; part = part_at h z; survivals = survivals_of head.kind results; sums = plus s.sums (adds_at h z results) }

-- ---- what is asked

-- a row of one of the hull's groups, in a layer that is not above the one before and within B/2
pub record Stood (h : Hull) (y : Standing) : Type 0 where
  pub group : Group (ship_of h) y.head.first y.head.count
  pub some : 1 ≤ y.head.depth
  pub deeper : y.before ≤ y.head.depth
  pub within : 2 * y.head.depth ≤ h.breadth

-- rows that stand so one after the other, with given survivals of at most one
abbrev pub Follow : Hull → Standing → List Row → Type 0
Follow h y [] = Unit {0}
Follow h y (r ∷ rs) = Stood h (stands y r.head) × Given r.results × Follow h (stands y r.head) rs

-- so stated, that they do is no more than a fact
stood_prop : (h : Hull) (y : Standing) → IsProp (Stood h y)
stood_prop h y = Prim.hlevel props

given_prop : (rs : Results) → IsProp (Given rs)
given_prop rs = Prim.hlevel props

pub follow_prop : (h : Hull) (y : Standing) (rs : List Row) → IsProp (Follow h y rs)
follow_prop h y [] = Unit-prop
follow_prop h y (r ∷ rs) =
    let z = stands y r.head in
    Prim.hlevel (stood_prop h z, given_prop r.results, follow_prop h z rs)

-- rows have shares of at most one
abbrev pub SharesFit : Hull → Type 0
SharesFit h = (y : Standing) → Stood h y → Share (share_at h y)
