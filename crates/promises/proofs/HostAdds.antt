-- What the numbers that a host gets of an accepted file's rows come to together, and what each row's enclose. Assumes nothing.
use Prim.Native.Nat.{ℕ, zero, suc, ◌+◌, ◌*◌, ◌<◌}
use mathlib.Core.Path.{◌≡◌, refl, sym, ◌∙◌, ap, ap₂}
use mathlib.Core.List.{List, [], ◌∷◌, ◌++◌}
use native.Mathlib.Omega.{arith}
use lib.ListN.{length, get_or}
use Rattle.laws.specs.Sums.{sum_of}
use Rattle.records.specs.declared.Ends.{Ends}
use Rattle.records.specs.declared.Hull.{Hull}
use Rattle.records.specs.Ends.{at}
use Rattle.records.specs.Results.{Results}
use Rattle.spans.specs.Hull.{Hulled}
use Rattle.survival.proofs.Bounds.{not_above_top, not_below_bottom}
use Rattle.survival.proofs.Rows.{row_rounds}
use Rattle.indices.specs.Index as index
use Rattle.indices.specs.Index.{row_adds, sum_at, partials}
use Rattle.indices.specs.Exact as exact
use Rattle.indices.specs.Exact.{row_at, row_ends}
use Rattle.indices.proofs.Enclosure.{row_upper, row_lower}
use Rattle.casefile.specs.Record.{Row}
use Rattle.casefile.proofs.Soundness.{sound}
use Rattle.rows.specs.declared.Standing.{Standing}
use Rattle.rows.specs.Standing.{nowhere, stands}
use Rattle.rows.specs.Work.{share_at, adds_at, adds_from}
use Rattle.rows.specs.Running.{Follow}
use Rattle.listing.specs.Rows.{numbers_at, numbers_from}
use Rattle.answers.specs.Answer.{partials_of, figures, answer}
use Rattle.answers.specs.Report.{rows_in}
use Rattle.answers.proofs.ValidCase.{hulled, rows_follow}
use Rattle.promises.specs.Rows.{exact_row, exact_rows}
use Rattle.promises.specs.HostRows.{ends_at, column_total, RowsAddUp, Encloses, RowsEnclose}
use Rattle.promises.proofs.CaseRows.{sound_row}
use Rattle.promises.proofs.OwnNumbers.{vs, ss, there, in_row, behind, first_row_lem, later_row}
-- checked first, so that a sentence that is not so is refused at a number
use Rattle.promises.proofs.WitnessHostRows.{told_so}

-- ---- what they come to

column_behind : (h : Hull) (z : Standing) (rs : Results) (rest : List ℕ) (n at : ℕ) → column_total n (numbers_at h z rs ++ rest) (at + 20) ≡ column_total n rest at
unfolding column_total
column_behind h z rs rest zero at = refl
column_behind h z rs rest (suc n) at =
    let far : at + 20 ≡ 20 + at = omega arith in
    ap₂ ◌+◌ (rw far (behind h z rs rest at)) (column_behind h z rs rest n (at + 20))

column : (h : Hull) (k : ℕ) → k < 20 → (g : List Ends → ℕ) → ((z : Standing) (rs : Results) → get_or (numbers_at h z rs) k 0 ≡ g (adds_at h z rs)) → (y : Standing) (rs : List Row) →
    column_total (length rs) (numbers_from h y rs) k ≡ sum_of g (adds_from h y rs)
unfolding column_total numbers_from adds_from
column h k b g same y [] = refl
column h k b g same y (r ∷ rs) =
    let z = stands y r.head in
    ap₂ ◌+◌ (in_row h z r.results (numbers_from h z rs) k b ∙ same z r.results) (column_behind h z r.results (numbers_from h z rs) (length rs) k ∙ column h k b g same z rs)

adds_at_lem : (h : Hull) (z : Standing) (rs : Results) (j : ℕ) → j < 3 → index.adds_at (share_at h z) (vs h z rs) (ss h z rs) j ≡ at (adds_at h z rs) j
unfolding adds_at row_adds
adds_at_lem h z rs zero l = refl
adds_at_lem h z rs (suc zero) l = refl
adds_at_lem h z rs (suc (suc zero)) l = refl
adds_at_lem h z rs (suc (suc (suc j))) l = absurd (omega arith)

sum_at_lem : (ts : List (List Ends)) (j : ℕ) → j < 3 → at (partials ts) j ≡ sum_at ts j
unfolding partials
sum_at_lem ts zero l = refl
sum_at_lem ts (suc zero) l = refl
sum_at_lem ts (suc (suc zero)) l = refl
sum_at_lem ts (suc (suc (suc j))) l = absurd (omega arith)

pub rows_add_up : RowsAddUp
unfolding rows_in answer figures partials_of numbers_at
rows_add_up f c e j b =
    let h = c.hull in
    let sums = sum_at_lem (adds_from h nowhere c.rows) j b in
    rw e (record {
      lower = column h (6 + 6 * j) (omega arith) (λ t. (at t j).lower) (λ z rs. (there h z rs j b).lower ∙ ap (λ (e : Ends). e.lower) (adds_at_lem h z rs j b)) nowhere c.rows ∙ sym (ap (λ (e : Ends). e.lower) sums);
      upper = column h (7 + 6 * j) (omega arith) (λ t. (at t j).upper) (λ z rs. (there h z rs j b).upper ∙ ap (λ (e : Ends). e.upper) (adds_at_lem h z rs j b)) nowhere c.rows ∙ sym (ap (λ (e : Ends). e.upper) sums);
    })

-- ---- what they enclose

adds_are : (h : Hull) (z : Standing) (rs : Results) (j : ℕ) → index.adds_at (share_at h z) (vs h z rs) (ss h z rs) j ≡ row_ends (row_at j (exact_row h z rs))
adds_are h z rs j = let k = row_rounds z.head.kind rs j in rw (k.bottom, k.top) refl

encloses : {r : exact.RowAt} {adds : Ends} → exact.Sound r → adds ≡ row_ends r → Encloses adds r
encloses {r} s e =
    rw e (record {
      no_more = λ x p k. row_upper r s p (not_above_top r.factor s.factor p k);
      no_less = λ x p k. row_lower r s p (not_below_bottom r.factor s.factor p k);
    })

rows_enclose_from : {h : Hull} (k : Hulled h) (y : Standing) (rs : List Row) → Follow h y rs → (i j : ℕ) (x : exact.Row) → i < length rs → get_or (exact_rows h y rs) i x ≡ x → j < 3 →
    Encloses (ends_at (numbers_from h y rs) i (6 + 6 * j)) (row_at j x)
unfolding numbers_from exact_rows numbers_at
rows_enclose_from k y [] w i j x l e b = absurd (omega arith)
rows_enclose_from {h} k y (q ∷ rs) w zero j x l e b =
    let z = stands y q.head in
    let rest = numbers_from h z rs in
    let a = there h z q.results j b in
    let seven : 1 + (6 + 6 * j) ≡ 7 + 6 * j = omega arith in
    rw (← e) (encloses (sound_row k z w.0 w.1 j)
    (rw (seven, first_row_lem h z q.results rest (6 + 6 * j) (omega arith) ∙ a.lower, first_row_lem h z q.results rest (7 + 6 * j) (omega arith) ∙ a.upper) (adds_are h z q.results j)))
rows_enclose_from {h} k y (q ∷ rs) w (suc i) j x l e b =
    let z = stands y q.head in
    let rest = numbers_from h z rs in
    rw (later_row h z q.results rest i (6 + 6 * j), later_row h z q.results rest i (1 + (6 + 6 * j))) (rows_enclose_from k z rs w.2 i j x (omega arith) e b)

pub rows_enclose : RowsEnclose
unfolding rows_in
rows_enclose f c e i j x l g b = let v = (sound f c e).1 in rw e (rows_enclose_from (hulled c.hull v.hull) nowhere c.rows (rows_follow c v) i j x l g b)
