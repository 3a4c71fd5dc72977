-- What is told in what is lent, as numbers, of any file by its judgement: the rows, R with the mark, and the groups' shares. Assumes nothing.
use Prim.Native.Nat.{ℕ, ◌+◌, ◌*◌, ◌≤◌, ◌<◌}
use mathlib.Core.Path.{◌≡◌, refl, ◌∙◌, ap}
use mathlib.Core.List.{List, [], ◌++◌}
use native.Mathlib.Omega.{arith}
use lib.ListN.{length, drop}
use borrow.Author.Tests.{le-leb}
use Rattle.casefile.specs.Judged.{Judgement}
use Rattle.std.specs.Prelude.{Option, Some, None}
use Rattle.std.specs.Option.{unwrap_or}
use Rattle.casefile.specs.Reading.{Reading, refused, accepted, reading}
use Rattle.casefile.specs.Answer.{judgement_of}
use Rattle.casefile.specs.Kept.{kept_rows, Keeps}
use Rattle.casefile.proofs.Kept.{length_kept}
use Rattle.spans.specs.Hull.{Hulled}
use Rattle.verdicts.specs.Required.{Sized}
use Rattle.printing.specs.Written.{length_in, count_in, written_in}
use Rattle.printing.proofs.Written.{too_little, in_front, counted}
use Rattle.rows.specs.Standing.{nowhere}
use Rattle.listing.specs.Rows.{numbers_from}
use Rattle.listing.specs.Hull.{required_numbers, group_numbers}
use Rattle.listing.proofs.InNumbers.{length_from}
use Rattle.listing.proofs.HullNumbers.{length_required, length_groups, few_groups}
use Rattle.answers.specs.Report.{rows_in, required_in, groups_in}
use Rattle.workings.specs.Told.{told_in}
use Rattle.index.proofs.Accepted.{hull_is, sized, known_case, valid_case}

-- ---- a refused file

abbrev Nothing : Reading → List ℕ → List ℕ → Type 0
Nothing r told out = (None ≡ told_in r told out) × (out ≡ written_in told out)

pub refusal_tells_none : (r : Reading) (out : List ℕ) {j : Judgement} → j ≡ judgement_of r → (j.number ≡ 0 → ⊥) →
    Nothing r (rows_in r) out × Nothing r (required_in r) out × Nothing r (groups_in r) out
unfolding told_in rows_in required_in groups_in
refusal_tells_none (refused k l) out e some = let stays = (in_front [] out refl (omega arith) refl).1 in ((refl, stays), (refl, stays), (refl, stays))
refusal_tells_none (accepted c) out e some = absurd (some (ap (λ (j : Judgement). j.number) e))

-- ---- an accepted file

module _ (f : List ℕ) {j : Judgement} (e : j ≡ judgement_of (reading f)) (z : j.number ≡ 0) (kept : List ℕ) (k : Keeps (reading f) kept) where
  pub its_hull : Hulled j.hull
  its_hull = hull_is kept j.hull j.rows (valid_case f e z kept k)

  pub its_sizes : Sized j.hull
  its_sizes = sized kept j.hull j.rows (valid_case f e z kept k)

  pub few_zones : j.hull.zones * (j.hull.zones + 1) ≤ 420
  few_zones = few_groups j.hull.zones its_hull.few

  rows_are : rows_in (reading f) ≡ numbers_from j.hull nowhere (kept_rows j.rows kept 0)
  unfolding rows_in
  rows_are = rw (known_case f e z kept k) refl

  twenty_a_row : length (numbers_from j.hull nowhere (kept_rows j.rows kept 0)) ≡ 20 * j.rows
  twenty_a_row = length_from j.hull nowhere (kept_rows j.rows kept 0) ∙ ap (λ n. 20 * n) (length_kept j.rows kept 0)

  required_are : required_in (reading f) ≡ required_numbers j.hull
  unfolding required_in
  required_are = rw (known_case f e z kept k) refl

  groups_are : groups_in (reading f) ≡ group_numbers j.hull
  unfolding groups_in
  groups_are = rw (known_case f e z kept k) refl

  -- of an accepted file the room decides
  accepts : (told out : List ℕ) {after : List ℕ} {n : Option ℕ} → (n ≡ length_in told out) × (after ≡ written_in told out) → (n ≡ told_in (reading f) told out) × (after ≡ written_in told out)
  unfolding told_in
  accepts told out p = rw (known_case f e z kept k) p

  pub rows_too_long : (out : List ℕ) → length out < 20 * j.rows → Nothing (reading f) (rows_in (reading f)) out
  rows_too_long out l = rw rows_are (accepts _ _ (too_little _ out twenty_a_row l))

  pub rows_written : (out : List ℕ) → 20 * j.rows ≤ length out → {after : List ℕ} → after ≡ numbers_from j.hull nowhere (kept_rows j.rows kept 0) ++ drop (20 * j.rows) out →
      (Some (20 * j.rows) ≡ told_in (reading f) (rows_in (reading f)) out) × (after ≡ written_in (rows_in (reading f)) out)
  rows_written out l p = rw rows_are (accepts _ _ (in_front _ out twenty_a_row l p))

  pub required_too_long : (out : List ℕ) → length out < 4 → Nothing (reading f) (required_in (reading f)) out
  required_too_long out l = rw required_are (accepts _ _ (too_little _ out (length_required j.hull) l))

  pub required_written : (out : List ℕ) → 4 ≤ length out → {after : List ℕ} → after ≡ required_numbers j.hull ++ drop 4 out →
      (Some 4 ≡ told_in (reading f) (required_in (reading f)) out) × (after ≡ written_in (required_in (reading f)) out)
  required_written out l p = rw required_are (accepts _ _ (in_front _ out (length_required j.hull) l p))

  pub groups_too_long : (out : List ℕ) → length out < j.hull.zones * (j.hull.zones + 1) → Nothing (reading f) (groups_in (reading f)) out
  groups_too_long out l = rw groups_are (accepts _ _ (too_little _ out (length_groups j.hull) l))

  pub groups_written : (out : List ℕ) → j.hull.zones * (j.hull.zones + 1) ≤ length out → {after : List ℕ} → after ≡ group_numbers j.hull ++ drop (j.hull.zones * (j.hull.zones + 1)) out →
      (Some (j.hull.zones * (j.hull.zones + 1)) ≡ told_in (reading f) (groups_in (reading f)) out) × (after ≡ written_in (groups_in (reading f)) out)
  groups_written out l p = rw groups_are (accepts _ _ (in_front _ out (length_groups j.hull) l p))

-- ---- as a number, 0 where nothing is told

module _ (told : Reading → List ℕ) (none : (k l : ℕ) → told (refused k l) ≡ []) where
  as_number : (r : Reading) (out : List ℕ) → unwrap_or (told_in r (told r) out) 0 ≡ count_in (told r) out
  unfolding told_in count_in
  as_number (refused k l) out = rw (none k l, le-leb 0 (length out) (omega arith)) refl
  as_number (accepted c) out = counted (told (accepted c)) out

pub rows_counted : (r : Reading) (out : List ℕ) → unwrap_or (told_in r (rows_in r) out) 0 ≡ count_in (rows_in r) out
unfolding rows_in
rows_counted r out = as_number rows_in (λ k l. refl) r out

pub required_counted : (r : Reading) (out : List ℕ) → unwrap_or (told_in r (required_in r) out) 0 ≡ count_in (required_in r) out
unfolding required_in
required_counted r out = as_number required_in (λ k l. refl) r out

pub groups_counted : (r : Reading) (out : List ℕ) → unwrap_or (told_in r (groups_in r) out) 0 ≡ count_in (groups_in r) out
unfolding groups_in
groups_counted r out = as_number groups_in (λ k l. refl) r out
