-- An accepted file is worked out: what its case meets, and what is answered for it and for any other. Assumes nothing.
use Prim.Native.Nat.{ℕ, ◌*◌, ◌/◌, ◌^◌, ◌≤◌, ◌<◌}
use mathlib.Core.Path.{◌≡◌, refl, sym, ◌∙◌, ap}
use mathlib.Core.Bool.{true, false}
use mathlib.Core.List.{List, ◌++◌}
use native.Mathlib.Omega.{arith}
use lib.Dec.{ltb}
use lib.ListN.{length, drop}
use borrow.Author.Tests.{lt-ltb, le-ltb}
use Rattle.laws.proofs.Tests.{holds}
use Rattle.records.specs.declared.Answer.{Answer}
use Rattle.records.specs.declared.Ends.{Ends}
use Rattle.records.specs.declared.Hull.{Hull}
use Rattle.spans.specs.Hull.{Hulled}
use Rattle.records.specs.declared.Ratio.{Ratio}
use Rattle.numbers.specs.Ratio.{ratio_of}
use Rattle.indices.specs.Index.{partials, attained_of}
use Rattle.verdicts.specs.Required.{Sized, required_of, mark_of}
use Rattle.verdicts.specs.Verdict.{verdict_of}
use Rattle.casefile.specs.Judged.{Judgement}
use Rattle.casefile.specs.Record.{Case}
use Rattle.casefile.specs.Limits.{sizes_fit, persons_fit}
use Rattle.casefile.specs.Reading.{Reading, refused, accepted, reading}
use Rattle.casefile.specs.Answer.{judgement_of}
use Rattle.casefile.specs.Valid.{Valid}
use Rattle.casefile.specs.Kept.{place_width, kept_rows, Keeps}
use Rattle.casefile.proofs.Limits.{Sizes, sizes_are, outside_the_band}
use Rattle.casefile.proofs.Refusal.{zero_accepts}
use Rattle.casefile.proofs.Soundness.{sound}
use Rattle.casefile.proofs.Kept.{length_kept}
use Rattle.rows.specs.Standing.{nowhere}
use Rattle.rows.specs.Work.{shares_from, adds_from, numbers}
use Rattle.rows.specs.Running.{Follow, SharesFit}
use Rattle.answers.specs.Answer.{partials_of, figures, answer, shares, refusal, answered, sheet_after}
use Rattle.answers.proofs.ValidCase.{hulled, rows_follow}
use Rattle.answers.proofs.Shares.{share_small}
use Rattle.index.specs.Kept.{kept_case}

-- ---- the figures of partial indices

pub concluded : (h : Hull) (rows : ℕ) (ps : List Ends) {a : Ends} {required mark : Ratio} {v : ℕ} → a ≡ attained_of ps → required ≡ ratio_of (required_of h) → mark ≡ ratio_of (mark_of h) →
    v ≡ verdict_of a ps required mark → record { number = 0; line = 0; verdict = v; rows = rows; attained = a; partials = ps } ≡ figures h rows ps
unfolding figures
concluded h rows ps e f g k = rw (k, e, f, g) refl

-- ---- a valid case, as it is kept

module _ (kept : List ℕ) (h : Hull) (rows : ℕ) (valid : Valid (kept_case kept h rows)) where
  pub hull_is : Hulled h
  hull_is = hulled h valid.hull

  sizes : Sizes h
  sizes = sizes_are h (holds (sizes_fit h) valid.hull.sizes)

  pub sized : Sized h
  sized = record {
    length = omega (arith, sizes.short);
    lifeboats = omega (arith, sizes.lifeboats);
    excess = omega (arith, sizes.excess);
    persons = outside_the_band h (holds (persons_fit h) valid.hull.persons);
  }

  pub rows_few : rows ≤ 500
  rows_few = omega (arith, valid.few, length_kept rows kept 0)

  pub drawn : (h.deepest < 2 ^ 32) × (h.light < 2 ^ 32)
  drawn = (omega (arith, sizes.shallow), omega (arith, sizes.shallow, sizes.lighter))

  pub shares_fit : SharesFit h
  shares_fit = share_small hull_is

  pub follow : Follow h nowhere (kept_rows rows kept 0)
  follow = rows_follow (kept_case kept h rows) valid

  pub answer_is : {ps : List Ends} {r : Answer} → ps ≡ partials (adds_from h nowhere (kept_rows rows kept 0)) → r ≡ figures h rows ps → r ≡ answer (kept_case kept h rows)
  unfolding answer partials_of
  answer_is p q = q ∙ rw (p, length_kept rows kept 0) refl

  pub shares_are : (first : List ℕ) {now : List ℕ} → now ≡ numbers (shares_from h nowhere (kept_rows rows kept 0)) ++ drop (2 * rows) first → now ≡ shares (kept_case kept h rows) ++ drop (2 * rows) first
  unfolding shares
  shares_are first q = q

-- ---- any file, by its judgement

same_case : (kept : List ℕ) (h : Hull) (n : ℕ) (c : Case) → h ≡ c.hull → n ≡ length c.rows → kept_rows (length c.rows) kept 0 ≡ c.rows → kept_case kept h n ≡ c
same_case kept h n c e k r = rw (e, k, r) refl

pub refused_case : (r : Reading) (sheet : List ℕ) {j : Judgement} {a : Answer} → j ≡ judgement_of r → (j.number ≡ 0 → ⊥) → a ≡ refusal j.number j.line →
    (a ≡ answered r (length sheet)) × (sheet ≡ sheet_after r sheet)
unfolding answered sheet_after
refused_case (refused k l) sheet e n q = (q ∙ rw e refl, refl)
refused_case (accepted c) sheet e n q = absurd (n (ap (λ j. j.number) e))

module _ (f : List ℕ) {j : Judgement} (e : j ≡ judgement_of (reading f)) (z : j.number ≡ 0) where
  case_is : (c : Case) × (reading f ≡ accepted c)
  case_is = zero_accepts f (sym (ap (λ j. j.number) e) ∙ z)

  told : j ≡ judgement_of (accepted case_is.0)
  told = e ∙ ap judgement_of case_is.1

  pub short_sheet : (sheet : List ℕ) {a : Answer} → length sheet / 2 < j.rows → a ≡ refusal 11 0 → (a ≡ answered (reading f) (length sheet)) × (sheet ≡ sheet_after (reading f) sheet)
  unfolding answered sheet_after
  short_sheet sheet l q =
      let c = case_is.0 in
      let n : j.rows ≡ length c.rows = ap (λ j. j.rows) told in
      let t : ltb (length sheet) (2 * length c.rows) ≡ true = lt-ltb (length sheet) (2 * length c.rows) (omega (arith, n)) in
      (q ∙ rw (case_is.1, t) refl, rw (case_is.1, t) refl)

  -- the rows are kept
  module _ (kept : List ℕ) (k : Keeps (reading f) kept) where
    pub known_case : reading f ≡ accepted (kept_case kept j.hull j.rows)
    known_case =
        let c = case_is.0 in
        case_is.1 ∙ ap accepted (sym (same_case kept j.hull j.rows c (ap (λ j. j.hull) told) (ap (λ j. j.rows) told) (rw case_is.1 at k)))

    pub valid_case : Valid (kept_case kept j.hull j.rows)
    valid_case = (sound f (kept_case kept j.hull j.rows) known_case).1

    pub few_rows : j.rows ≤ 500
    few_rows = omega (arith, valid_case.few, length_kept j.rows kept 0)

    -- with room for its shares
    pub whole_case : (sheet : List ℕ) {now : List ℕ} {r : Answer} → 2 * j.rows ≤ length sheet → r ≡ answer (kept_case kept j.hull j.rows) →
        now ≡ shares (kept_case kept j.hull j.rows) ++ drop (2 * j.rows) sheet → (r ≡ answered (reading f) (length sheet)) × (now ≡ sheet_after (reading f) sheet)
    unfolding answered sheet_after
    whole_case sheet l a s =
        let rows : ℕ = j.rows in
        let n : length (kept_rows rows kept 0) ≡ rows = length_kept rows kept 0 in
        let t : ltb (length sheet) (2 * length (kept_rows rows kept 0)) ≡ false = le-ltb (length sheet) (2 * length (kept_rows rows kept 0)) (omega (arith, n)) in
        (a ∙ rw (known_case, t) refl, s ∙ rw (known_case, t, n) refl)
