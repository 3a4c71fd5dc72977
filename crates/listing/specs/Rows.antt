-- A file's rows as numbers for a host: twenty a row, the share's ends, and at each draught v, the survival, its marks and what the row adds. Assumes nothing.
use Rattle.std.specs.Prelude.{ℕ, List, [], ◌∷◌, ◌++◌, get_or}
use Rattle.records.specs.declared.Ends.{Ends}
use Rattle.records.specs.declared.Hull.{Hull}
use Rattle.records.specs.declared.Survival.{Survival}
use Rattle.records.specs.Results.{Results}
use Rattle.solas.specs.Index.{draughts}
use Rattle.heights.specs.Height.{row_vs}
use Rattle.survival.specs.Survival.{no_survival, survivals_of}
use Rattle.indices.specs.Index.{adds_at}
use Rattle.printing.specs.Marks.{mark_byte}
use Rattle.casefile.specs.Record.{Row}
use Rattle.rows.specs.declared.Standing.{Standing}
use Rattle.rows.specs.Standing.{stands}
use Rattle.rows.specs.Work.{share_at}

-- at a draught: v, the bottom, the top, the byte of the marks, and the ends of what the row adds
unfoldable pub six_numbers : ℕ → Survival → Ends → List ℕ
six_numbers v s adds = v ∷ s.bottom ∷ s.top ∷ mark_byte s.marks ∷ adds.lower ∷ adds.upper ∷ []

-- at draught j: 0 the deepest, 1 the partial, 2 the light
abbrev pub draught_numbers : Ends → List ℕ → List Survival → ℕ → List ℕ
draught_numbers share vs ss j = six_numbers (get_or vs j 0) (get_or ss j no_survival) (adds_at share vs ss j)

-- a row's twenty, by its share, its v and its survival at each draught
unfoldable pub row_numbers : Ends → List ℕ → List Survival → List ℕ
row_numbers share vs ss = share.lower ∷ share.upper ∷ (draught_numbers share vs ss 0 ++ draught_numbers share vs ss 1 ++ draught_numbers share vs ss 2)

-- of the row that stands at y, with its results
unfoldable pub numbers_at : Hull → Standing → Results → List ℕ
numbers_at h y rs = row_numbers (share_at h y) (row_vs y.below y.head.height (draughts h.deepest h.light)) (survivals_of y.head.kind rs)

-- the rows in turn, after one that stood at y
unfoldable pub numbers_from : Hull → Standing → List Row → List ℕ
numbers_from h y [] = []
numbers_from h y (r ∷ rs) = let z = stands y r.head in numbers_at h z r.results ++ numbers_from h z rs
