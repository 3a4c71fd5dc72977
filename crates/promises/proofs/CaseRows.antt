-- The rows of a valid case: their ends enclose their exact figures and are close, and what they add is what the answer sums. Assumes nothing.
use Prim.Native.Nat.{ℕ, zero, suc, ◌≤◌}
use mathlib.Core.Path.{◌≡◌, refl, ap, ap₂, ◌∙◌}
use mathlib.Core.List.{List, [], ◌∷◌, map}
use native.Mathlib.Omega.{arith}
use lib.ListN.{length, get_or}
use Rattle.laws.specs.Lists.{Every}
use Rattle.records.specs.declared.Hull.{Hull}
use Rattle.records.specs.Results.{Results}
use Rattle.solas.specs.Index.{draughts}
use Rattle.solas.proofs.Height.{row_at_most}
use Rattle.spans.specs.Hull.{ship_of, Hulled}
use Rattle.spans.proofs.Places.{ship_sound}
use Rattle.chances.specs.Promises as chance
use Rattle.chances.proofs.Row.{shares_enclosed, shares_near}
use Rattle.heights.specs.Height.{row_vs}
use Rattle.survival.specs.Survival.{Sensible}
use Rattle.indices.specs.Index.{Given, row_adds, partials}
use Rattle.indices.specs.Exact as exact
use Rattle.indices.specs.Exact.{Sound, Close, AtAll, row_at, row_trio}
use Rattle.survival.proofs.Rows.{row_rounds, row_sensible}
use Rattle.indices.proofs.Sums.{sums_are_these}
use Rattle.casefile.specs.Record.{Row, Case}
use Rattle.casefile.specs.Valid.{Valid}
use Rattle.rows.specs.declared.Standing.{Standing}
use Rattle.rows.specs.Standing.{nowhere, stands}
use Rattle.rows.specs.Work.{share_at, adds_at, adds_from}
use Rattle.rows.specs.Running.{Stood, Follow}
use Rattle.answers.specs.Answer.{partials_of}
use Rattle.answers.proofs.ValidCase.{hulled, rows_follow}
use Rattle.promises.specs.Rows.{exact_row, exact_rows, rows_of}
-- checked first, so that a sentence that is not so is refused at a number
use Rattle.promises.proofs.WitnessEnclosure.{no_more}

-- ---- what they add

adds_one : (h : Hull) (z : Standing) (rs : Results) → adds_at h z rs ≡ row_trio (exact_row h z rs)
unfolding adds_at row_adds
adds_one h z rs =
    let at = row_rounds z.head.kind rs in
    rw ((at 0).bottom, (at 0).top, (at 1).bottom, (at 1).top, (at 2).bottom, (at 2).top) refl

adds_are : (h : Hull) (y : Standing) (rs : List Row) → adds_from h y rs ≡ map row_trio (exact_rows h y rs)
unfolding adds_from exact_rows
adds_are h y [] = refl
adds_are h y (r ∷ rs) = let z = stands y r.head in ap₂ ◌∷◌ (adds_one h z r.results) (adds_are h z rs)

pub sums_are : (c : Case) → partials_of c ≡ exact.partials_of (rows_of c)
unfolding partials_of rows_of
sums_are c = ap partials (adds_are c.hull nowhere c.rows) ∙ sums_are_these (exact_rows c.hull nowhere c.rows)

-- ---- how many there are

rows_length : (i : ℕ) (h : Hull) (y : Standing) (rs : List Row) → length (map (row_at i) (exact_rows h y rs)) ≡ length rs
unfolding exact_rows
rows_length i h y [] = refl
rows_length i h y (r ∷ rs) = ap suc (rows_length i h (stands y r.head) rs)

pub as_many : (c : Case) → AtAll (λ rows. length rows ≡ length c.rows) (rows_of c)
unfolding rows_of
as_many c = (rows_length 0 c.hull nowhere c.rows, rows_length 1 c.hull nowhere c.rows, rows_length 2 c.hull nowhere c.rows)

-- ---- one row

module _ {h : Hull} (k : Hulled h) (y : Standing) (s : Stood h y) {rs : Results} (g : Given rs) (i : ℕ) where
  layer : chance.Row (ship_of h) y.head.first y.head.count y.before y.head.depth
  layer = record { sound = ship_sound k; narrow = k.narrow; group = s.group; some = s.some; rising = s.deeper; deep = s.within }

  sensible : Sensible (row_at i (exact_row h y rs)).factor
  sensible = row_sensible y.head.kind rs g.each (λ j. (g.loads j).some) i

  low_enough : (row_at i (exact_row h y rs)).v ≤ 916500
  unfolding row_vs
  low_enough = by i
    where
      by : (i : ℕ) → get_or (row_vs y.below y.head.height (draughts h.deepest h.light)) i 0 ≤ 916500
      by zero = row_at_most y.below y.head.height _
      by (suc zero) = row_at_most y.below y.head.height _
      by (suc (suc zero)) = row_at_most y.below y.head.height _
      by (suc (suc (suc i))) = omega arith

  pub sound_row : Sound (row_at i (exact_row h y rs))
  unfolding share_at
  sound_row =
      record { share = shares_enclosed (ship_of h) y.head.first y.head.count y.before y.head.depth layer; factor = sensible }

  pub close_row : Close 32 (row_at i (exact_row h y rs))
  unfolding share_at
  close_row = record { near = (shares_near (ship_of h) y.head.first y.head.count y.before y.head.depth layer).near; height = low_enough; factor = sensible }

-- ---- all rows

module _ {h : Hull} (k : Hulled h) (i : ℕ) where
  sound_rows : (y : Standing) (rs : List Row) → Follow h y rs → Every Sound (map (row_at i) (exact_rows h y rs))
  unfolding exact_rows
  sound_rows y [] w = tt
  sound_rows y (r ∷ rs) w = (sound_row k (stands y r.head) w.0 w.1 i, sound_rows (stands y r.head) rs w.2)

  close_rows : (y : Standing) (rs : List Row) → Follow h y rs → Every (Close 32) (map (row_at i) (exact_rows h y rs))
  unfolding exact_rows
  close_rows y [] w = tt
  close_rows y (r ∷ rs) w = (close_row k (stands y r.head) w.0 w.1 i, close_rows (stands y r.head) rs w.2)

module _ (c : Case) (v : Valid c) where
  hull : Hulled c.hull
  hull = hulled c.hull v.hull

  pub all_sound : AtAll (Every Sound) (rows_of c)
  unfolding rows_of
  all_sound =
      let w = rows_follow c v in
      (sound_rows hull 0 nowhere c.rows w, sound_rows hull 1 nowhere c.rows w, sound_rows hull 2 nowhere c.rows w)

  pub all_close : AtAll (Every (Close 32)) (rows_of c)
  unfolding rows_of
  all_close =
      let w = rows_follow c v in
      (close_rows hull 0 nowhere c.rows w, close_rows hull 1 nowhere c.rows w, close_rows hull 2 nowhere c.rows w)
