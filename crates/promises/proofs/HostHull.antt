-- What a host gets of an accepted file's hull: the numbers of R and the mark, and of each group, whose exact share lies between its two. Assumes nothing.
use Prim.Native.Nat.{ℕ, ◌*◌, ◌/◌, ◌^◌, ◌≤◌}
use mathlib.Core.List.{List, []}
use mathlib.Core.Path.{◌≡◌, refl}
use mathlib.Core.Bool.{true}
use native.Mathlib.Nat.{le_of_eq}
use native.Mathlib.Omega.{arith}
use lib.Dec.{leb, lit<}
use lib.ListN.{length}
use borrow.Author.Tests.{le-leb}
use Rattle.laws.specs.Fraction.{Fraction, whole, ◌over◌, ◌≈◌, ◌≼◌, ◌⊝◌}
use Rattle.laws.proofs.Fraction.{is_over, is_nothing, is_self, is_⊝, is_shifted, same, positive, numerators_below, ≈_sym, ≼_of_≈, ≼_trans}
use Rattle.laws.proofs.FractionCompare.{≈_of_both}
use Rattle.laws.proofs.Tests.{holds}
use Rattle.records.specs.declared.Hull.{Hull}
use Rattle.numbers.specs.Figures.{billionths}
use Rattle.numbers.specs.Ratio.{ratio_of}
use Rattle.numbers.proofs.Ratios.{ratio_positive, is_ratio}
use Rattle.solas.specs.Share.{share, row_share}
use Rattle.solas.specs.Count.{Group}
use Rattle.solas.proofs.Promises.{no_share_negative}
use Rattle.spans.specs.Hull.{ship_of, Hulled}
use Rattle.spans.proofs.Places.{ship_sound}
use Rattle.chances.specs.Promises.{Row}
use Rattle.chances.proofs.Row.{shares_enclosed, shares_near}
use Rattle.verdicts.proofs.ByHull.{required_of_not_negative, mark_of_not_negative, passenger_mark_of, cargo_mark_of}
use Rattle.printing.specs.Written.{count_in, written_in}
use Rattle.casefile.specs.Limits.{sizes_fit}
use Rattle.casefile.specs.Record.{Case}
use Rattle.casefile.specs.Reading.{Reading, refused, accepted, reading}
use Rattle.casefile.specs.Valid.{ValidHull}
use Rattle.casefile.proofs.Limits.{sizes_are}
use Rattle.casefile.proofs.Soundness.{sound}
use Rattle.listing.specs.Hull.{required_numbers, group_ends}
use Rattle.listing.proofs.HullNumbers.{length_groups, few_groups}
use Rattle.answers.specs.Report.{rows_in, required_in, groups_in}
use Rattle.answers.proofs.ValidCase.{hulled}
use Rattle.promises.specs.Rows.{group_share}
use Rattle.promises.specs.Sheet.{ShareBetween}
use Rattle.promises.specs.HostHull.{RequiredOf, RequiredTells, GroupsTell, GroupsEnclose, GroupsOfNoShare, longest_groups, GroupsFit, Untold, RefusedTellsNothing}
use Rattle.promises.proofs.GroupPlaces.{places_told}
-- checked first, so that a sentence that is not so is refused at a number
use Rattle.promises.proofs.WitnessHull.{required_told, pair_between, twenty_zones}

untold : (told : Reading → List ℕ) → ((k l : ℕ) → told (refused k l) ≡ []) → Untold told
unfolding count_in written_in
untold told none f lent k l e =
    let t : leb 0 (length lent) ≡ true = le-leb 0 (length lent) (omega arith) in
    (rw (e, none k l, t) refl, rw (e, none k l, t) refl)

pub refused_tells_nothing : RefusedTellsNothing
unfolding rows_in required_in groups_in
refused_tells_nothing = (untold rows_in (λ k l. refl), untold required_in (λ k l. refl), untold groups_in (λ k l. refl))

-- ---- R and the mark

-- a fraction that is not negative, by its numerator and denominator
by_ratio : {f : Fraction} → whole 0 ≼ f → (ratio_of f).num over (ratio_of f).den ≈ f
by_ratio {f} h = same (ratio_positive f) (is_over (ratio_of f).num (ratio_positive f)) (is_ratio h)

required_of_lem : (h : Hull) → RequiredOf h (required_numbers h)
unfolding required_numbers
required_of_lem h = record {
  all = refl;
  required = record { some = ratio_positive _; exact = by_ratio (required_of_not_negative h) };
  mark = record { some = ratio_positive _; exact = by_ratio (mark_of_not_negative h) };
  cargo = λ n. let e = cargo_mark_of h n in record { numerator = rw e (omega arith); denominator = rw e refl };
  passengers = λ k. let e = passenger_mark_of h k in record { numerator = rw e refl; denominator = rw e refl };
}

pub required_tells : RequiredTells
unfolding required_in
required_tells f c e = rw e (required_of_lem c.hull)

-- ---- groups

pub groups_tell : GroupsTell
unfolding groups_in
groups_tell f c e = rw e (length_groups c.hull, λ a n g. let (low, high) = places_told c.hull a n g.from g.some g.fits in record { lower = low; upper = high })

pub groups_fit : GroupsFit
unfolding groups_in
groups_fit f = by (reading f) (λ c e. (hulled c.hull (sound f c e).1.hull).few)
  where
    by : (r : Reading) → ((c : Case) → r ≡ accepted c → c.hull.zones ≤ 20) → length (groups_in r) ≤ longest_groups
    by (refused k l) few = omega arith
    by (accepted c) few = omega (arith, length_groups c.hull, few_groups c.hull.zones (few c refl))

-- nothing taken away
nothing_less : (f : Fraction) → f ⊝ whole 0 ≈ f
nothing_less f = same (positive f) (is_shifted f.up f.down (omega arith) (is_⊝ (is_self f) (is_nothing (positive f)))) (is_self f)

module _ (h : Hull) (v : ValidHull h) where
  k : Hulled h
  k = hulled h v

  pub half : 2 * (h.breadth / 2) ≡ h.breadth
  half = omega (arith, (sizes_are h (holds (sizes_fit h) v.sizes)).even)

  module _ (a n : ℕ) (g : Group (ship_of h) a n) where
    as_row : Row (ship_of h) a n 0 (h.breadth / 2)
    as_row = record { sound = ship_sound k; narrow = k.narrow; group = g; some = omega (arith, k.broad); rising = omega arith; deep = le_of_eq half }

    not_negative : whole 0 ≼ group_share h a n
    unfolding group_share row_share
    not_negative = ≼_trans (no_share_negative (ship_of h) (ship_sound k) a n 0 (h.breadth / 2) g (omega arith) (le_of_eq half)) (≼_of_≈ (nothing_less (share (ship_of h) a n (h.breadth / 2))))

    pub between : ShareBetween (group_ends h a n).lower (group_ends h a n).upper (group_share h a n)
    unfolding group_ends group_share row_share
    between =
        let b = shares_enclosed (ship_of h) a n 0 (h.breadth / 2) as_row in
        let same-share = nothing_less (share (ship_of h) a n (h.breadth / 2)) in
        record {
          low = ≼_trans b.low (≼_of_≈ same-share);
          high = ≼_trans (≼_of_≈ (≈_sym same-share)) b.high;
          near = omega (arith, (shares_near (ship_of h) a n 0 (h.breadth / 2) as_row).near);
        }

pub groups_enclose : GroupsEnclose
groups_enclose f c e a n g =
    let at = (groups_tell f c e).1 a n g in
    rw (at.lower, at.upper) (between c.hull (sound f c e).1.hull a n g)

-- nothing, by an end in billionths
none_above : (n : ℕ) {f : Fraction} → whole 0 ≼ f → f ≼ billionths n → n ≡ 0 → f ≈ whole 0
none_above n p h e = ≈_of_both (≼_trans h (≼_of_≈ (rw e (same {d = 10 ^ 9} (lit< tt) (is_over 0 (lit< tt)) (is_nothing (lit< tt)))))) p

none_below : (n : ℕ) {f : Fraction} → billionths n ≼ f → f ≈ whole 0 → n ≡ 0
none_below n h e = omega (arith, numerators_below (≼_trans h (≼_of_≈ e)) (is_over n {d = 10 ^ 9} (lit< tt)) (is_nothing (lit< tt)))

pub groups_of_no_share : GroupsOfNoShare
groups_of_no_share f c e a n g =
    let at = (groups_tell f c e).1 a n g in
    let v = (sound f c e).1.hull in
    let b = between c.hull v a n g in
    rw (at.lower, at.upper) (none_above _ (not_negative c.hull v a n g) b.high, none_below _ b.low)
