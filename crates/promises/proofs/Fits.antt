-- Every figure of an answer fits its bytes: refusals by the table and the lines of an input, ends by the promised width. Assumes nothing.
use Prim.Native.Nat.{ℕ, zero, suc, ◌+◌, ◌*◌, ◌^◌, ◌≤◌, ◌<◌}
use mathlib.Core.Path.{◌≡◌, refl, sym, ◌∙◌, ap}
use mathlib.Core.Bool.{false}
use mathlib.Core.List.{List, [], ◌∷◌, Memᴰ}
use mathlib.Core.Logic.{◌⊎◌, inl, inr}
use native.Mathlib.Nat.{div-mul-le_self}
use native.Mathlib.Omega.{arith}
use lib.Dec.{ltb, ltb→lt}
use lib.ListN.{length}
use borrow.Author.Tests.{le-ltb}
use Rattle.laws.specs.Lists.{Every}
use Rattle.laws.specs.Fraction.{whole, ◌≼◌}
use Rattle.laws.proofs.Table.{member_passes}
use Rattle.records.specs.declared.Ends.{Ends}
use Rattle.records.specs.declared.Hull.{Hull}
use Rattle.records.specs.Ends.{no_ends, at}
use Rattle.laws.proofs.Choice.{split}
use Rattle.lines.specs.Lines.{Line, lines}
use Rattle.lines.proofs.Lines.{lines_fewer}
use Rattle.hexadecimal.proofs.Pairs.{length_pairs}
use Rattle.indices.specs.Index.{attained_of, weighed, Share}
use Rattle.indices.specs.Exact as exact
use Rattle.indices.specs.Exact.{RowAt, Close, partial_ends}
use Rattle.indices.proofs.Width.{partial_at_most}
use Rattle.casefile.specs.Record.{Row, Case}
use Rattle.casefile.specs.Valid.{Valid}
use Rattle.casefile.specs.Reading.{Reading, refused, accepted, reading}
use Rattle.casefile.specs.Limits.{longest_input}
use Rattle.casefile.specs.Refusal.{Refusal, PassBefore, line_at, after, number_at, numbers}
use Rattle.casefile.proofs.Checks.{HullPasses, hull_passes}
use Rattle.casefile.proofs.LineJudging.{first_says_number}
use Rattle.casefile.proofs.Passing.{well_written, hull_frame}
use Rattle.casefile.proofs.Refusal.{is_refusal}
use Rattle.casefile.proofs.TableOrder.{of_the_table}
use Rattle.casefile.proofs.Soundness.{sound}
use Rattle.printing.specs.ReadBack.{ends_of, shares_of, Short, Printable}
use Rattle.printing.proofs.ReadBack.{reads_back}
use Rattle.rows.specs.declared.Standing.{Standing}
use Rattle.rows.specs.Standing.{nowhere, stands}
use Rattle.rows.specs.Work as work
use Rattle.rows.specs.Work.{share_at, shares_from, lines_from}
use Rattle.rows.specs.Running.{Stood, Follow}
use Rattle.answers.specs.Answer.{partials_of, figures, answer, answered}
use Rattle.answers.specs.Report.{lines_in, report}
use Rattle.answers.proofs.ValidCase.{hulled, rows_follow}
use Rattle.answers.proofs.Shares.{share_small}
use Rattle.promises.specs.Rows.{rows_of, chances}
use Rattle.promises.specs.Printing.{EveryFigureFits, PrintedReadsBack}
use Rattle.promises.proofs.CaseRows.{sums_are, all_sound, all_close}
use Rattle.promises.proofs.Chances.{chances_at_most_one}
use Rattle.promises.proofs.Widths.{lower_at_most_one}
use Rattle.promises.proofs.Kept.{promise}

-- ---- a refusal's number and line

number_fits : (k : ℕ) → Memᴰ k numbers → k < 256
number_fits k m = ltb→lt k 256 (member_passes (λ n. ltb n 256) k numbers tt m)

-- a line after the first stands behind a hull, which has twenty digits at least
first_long : (f : List ℕ) → number_at (lines f) 1 ≡ 0 → 20 ≤ length (line_at (lines f) 1).text
unfolding number_at after
first_long f e =
    let l : Line = line_at (lines f) 1 in
    let p : HullPasses l = hull_passes l (sym (first_says_number l) ∙ e) in
    omega (arith, (hull_frame l p.written p).1, length_pairs l.text (well_written l p.written).0)

behind_a_hull : (f : List ℕ) (l : ℕ) → length f ≤ longest_input → PassBefore (lines f) l → l ≤ length (lines f) + 1 → l < 65536
behind_a_hull f l short before to =
    split l 1 (λ h. omega arith)
    (λ h. omega (arith, first_long f (before 1 (omega arith) h), lines_fewer f (record { text = []; closed = false })))

line_fits : (f : List ℕ) (k l : ℕ) → Refusal f k l → l < 65536
line_fits f k l (inl r) = omega (arith, r.line)
line_fits f k l (inr (inl r)) = behind_a_hull f l r.short r.before (omega (arith, r.to))
line_fits f k l (inr (inr r)) = behind_a_hull f l r.short r.before (omega (arith, r.line))

-- ---- ends of four bytes

pub record Small (e : Ends) : Type 0 where
  pub low : e.lower < 4294967296
  pub high : e.upper < 4294967296

ends_short : (es : List Ends) → Every Small es → Short (work.numbers es)
ends_short [] h i = omega arith
ends_short (e ∷ es) h zero = h.0.low
ends_short (e ∷ es) h (suc zero) = h.0.high
ends_short (e ∷ es) h (suc (suc i)) = ends_short es h.1 i

shares_small : {h : Hull} → ((y : Standing) → Stood h y → Share (share_at h y)) → (y : Standing) (rs : List Row) → Follow h y rs → Every Small (shares_from h y rs)
unfolding shares_from
shares_small k y [] w = tt
shares_small k y (r ∷ rs) w =
    let z = stands y r.head in
    (record { low = omega (arith, (k z w.0).low); high = omega (arith, (k z w.0).high) }, shares_small k z rs w.2)

-- the lines tell the shares that are on the sheet
pub same_shares : (h : Hull) (y : Standing) (rs : List Row) → shares_of (lines_from h y rs) ≡ work.numbers (shares_from h y rs)
unfolding lines_from shares_from shares_of
same_shares h y [] = refl
same_shares h y (r ∷ rs) = let z = stands y r.head in ap (λ ns. (share_at h z).lower ∷ (share_at h z).upper ∷ ns) (same_shares h z rs)

-- ---- an accepted file: the lower ends of A, As, Ap, Al are at most one, the upper ones not far above

module _ (f : List ℕ) (c : Case) (e : reading f ≡ accepted c) where
  v : Valid c
  v = (sound f c e).1

  low_at : (rs : List RowAt) → Every (Close 32) rs → Every exact.Sound rs → chances rs ≼ whole 1 → (partial_ends rs).lower ≤ 10 ^ 9
  low_at rs k s m = (partial_at_most 32 rs k (lower_at_most_one rs s m)).0

  lows : ((at (partials_of c) 0).lower ≤ 10 ^ 9) × ((at (partials_of c) 1).lower ≤ 10 ^ 9) × ((at (partials_of c) 2).lower ≤ 10 ^ 9)
  lows =
      let k = all_close c v in
      let s = all_sound c v in
      let m = chances_at_most_one c v in
      rw (sums_are c) (low_at (rows_of c).deepest k.0 s.0 m.0, low_at (rows_of c).partial k.1 s.1 m.1, low_at (rows_of c).light k.2 s.2 m.2)

  low_attained : (attained_of (partials_of c)).lower ≤ 10 ^ 9
  unfolding attained_of
  low_attained = omega (arith, div-mul-le_self (weighed (λ e. e.lower) (partials_of c)) 5, lows.0, lows.1, lows.2)

  small : (e : Ends) → e.lower ≤ 10 ^ 9 → e.upper ≤ e.lower + (100000 + 40 * length c.rows) → Small e
  small e l n = record { low = omega (arith, l); high = omega (arith, l, n, v.few) }

  figures_fit : Printable (answer c) (lines_in (accepted c))
  unfolding answer figures ends_of lines_in
  figures_fit =
      let k = promise f c e in
      let w = k.width in
      record {
        number_fits = omega arith;
        line_fits = omega arith;
        verdict_fits = by k.verdict.no_other;
        ends_fit = ends_short (attained_of (partials_of c) ∷ at (partials_of c) 0 ∷ at (partials_of c) 1 ∷ at (partials_of c) 2 ∷ [])
            (small _ low_attained w.attained.near, (small _ lows.0 w.partials.0.near, (small _ lows.1 w.partials.1.near, (small _ lows.2 w.partials.2.near, tt))));
        shares_fit = rw (same_shares c.hull nowhere c.rows) (ends_short (shares_from c.hull nowhere c.rows) (shares_small (share_small (hulled c.hull v.hull)) nowhere c.rows (rows_follow c v)));
      }
    where
      by : {n : ℕ} → ((n ≡ 1) ⊎ ((n ≡ 2) ⊎ (n ≡ 3))) → n < 256
      by (inl e) = omega (arith, e)
      by (inr (inl e)) = omega (arith, e)
      by (inr (inr e)) = omega (arith, e)

-- ---- any input

fits_by : (f : List ℕ) (r : Reading) → reading f ≡ r → Printable (answered r 1000) (lines_in r)
unfolding answered lines_in ends_of shares_of
fits_by f (refused k l) e = record {
  number_fits = number_fits k (of_the_table f k l e);
  line_fits = line_fits f k l (is_refusal f k l e);
  verdict_fits = omega arith;
  ends_fit = ends_short (no_ends ∷ no_ends ∷ no_ends ∷ no_ends ∷ []) (none, (none, (none, (none, tt))));
  shares_fit = ends_short [] tt;
}
  where
    none : Small no_ends
    none = record { low = omega arith; high = omega arith }
fits_by f (accepted c) e =
    let few = (sound f c e).1.few in
    rw (le-ltb 1000 (2 * length c.rows) (omega (arith, few))) (figures_fit f c e)

pub every_figure_fits : EveryFigureFits
every_figure_fits f = fits_by f (reading f) refl

pub printed_reads_back : PrintedReadsBack
unfolding report
printed_reads_back f = reads_back (answered (reading f) 1000) (lines_in (reading f)) (every_figure_fits f)
