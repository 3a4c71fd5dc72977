-- Line 1, step by step as the code goes: a hull's number, the record from a buffer that is longer than the line or shorter, the line. Assumes nothing.
use Prim.Native.Nat.{ℕ, ◌+◌, ◌*◌, ◌≤◌, ◌<◌}
use mathlib.Core.Path.{◌≡◌, refl, sym, ◌∙◌, ap}
use mathlib.Core.Bool.{Bool, true, false, cond, not, ◌&&◌, or-true}
use mathlib.Core.List.{List}
use mathlib.Core.Logic.{◌⊎◌, inl, inr}
use native.Mathlib.Omega.{arith}
use lib.Dec.{leb, eqb}
use lib.ListN.{length, get_or, take, drop, replicate, length-drop}
use lib.Seq.{sets, length-sets, take_all, get_or-drop}
use borrow.Author.Tests.{lt-ltb, le-ltb, leb-true, eq-eqb, ne_eqb}
use Rattle.laws.proofs.Lists.{tabulate_same}
use Rattle.laws.proofs.Tests.{both}
use Rattle.records.specs.declared.Hull.{Hull}
use Rattle.lines.specs.Lines.{Line}
use Rattle.hexadecimal.specs.Hex.{pairs, proper, badly_written}
use Rattle.std.specs.Prelude.{Some}
use Rattle.frames.specs.Decoding.{written_of}
use Rattle.fields.specs.Fields.{byte_at, word_at}
use Rattle.frames.proofs.CodeDecoding.{well_written, byte_stored}
use Rattle.casefile.specs.Judged.{Frame, FirstLine}
use Rattle.casefile.specs.Layout.{kind_of, fields_of, is_hull, persons_length, hull_length, shortest_hull, place_of, places_of, hull_of}
use Rattle.casefile.specs.Limits.{between, sizes_fit, persons_fit, zones_fit}
use Rattle.casefile.specs.Table.{first_holds, wrong_hull_frame, wrong_zones, hull_checks}
use Rattle.casefile.specs.Answer.{no_hull, given_first, refused_first, first_judged}
use Rattle.casefile.specs.Judging.{hull_number, hull_judged}
use Rattle.casefile.proofs.Checks.{first_passed}

-- ---- the number of a hull

module _ (h : Hull) (n : ℕ) where
  pub sizes_wrong : sizes_fit h ≡ false → 4 ≡ hull_number h n
  unfolding hull_number first_holds
  sizes_wrong e = rw e refl

  module _ (sizes : sizes_fit h ≡ true) where
    pub persons_wrong : persons_fit h ≡ false → 13 ≡ hull_number h n
    unfolding hull_number first_holds
    persons_wrong e = rw (sizes, e) refl

    module _ (persons : persons_fit h ≡ true) where
      pub zones_wrong : zones_fit h ≡ false → 5 ≡ hull_number h n
      unfolding hull_number first_holds
      zones_wrong e = rw (sizes, persons, e) refl

      module _ (zones : zones_fit h ≡ true) where
        pub length_wrong : (n ≡ hull_length h.kind h.zones → ⊥) → 5 ≡ hull_number h n
        unfolding hull_number first_holds
        length_wrong f = rw (sizes, persons, zones, ne_eqb n (hull_length h.kind h.zones) f) refl

        pub hull_right : n ≡ hull_length h.kind h.zones → 0 ≡ hull_number h n
        unfolding hull_number first_holds
        hull_right e = rw (sizes, persons, zones, eq-eqb n (hull_length h.kind h.zones) e) refl

pub few_zones : (h : Hull) → zones_fit h ≡ true → h.zones ≤ 20
unfolding zones_fit between
few_zones h e =
    let (a, b) = both (leb 1 h.zones && leb h.zones 20) _ e in
    let (c, d) = both (leb 1 h.zones) (leb h.zones 20) a in
    leb-true h.zones 20 d

-- ---- a refusal, and the hull by its number

module _ (h g : Hull) (n k : ℕ) (e : h ≡ g) (f : k ≡ hull_number h n) where
  same : hull_number g n ≡ k
  same = sym (f ∙ rw e refl)

  pub hull_refused : (k ≡ 0 → ⊥) → refused_first k ≡ hull_judged g n
  unfolding hull_judged
  hull_refused d = rw (same, ne_eqb k 0 d) refl

  pub hull_given : k ≡ 0 → given_first h ≡ hull_judged g n
  unfolding hull_judged
  hull_given d = rw (same, eq-eqb k 0 d, e) refl

-- ---- the record from a buffer

-- the persons and the rule have five bytes at most
few_more : (kind : ℕ) → persons_length kind ≤ 5
few_more kind = by (eqb kind 6)
  where
    by : (t : Bool) → cond t 5 0 ≤ 5
    by true = omega arith
    by false = omega arith

-- what is read lies below 54
module _ (f g : List ℕ) (same : (i : ℕ) → i < 54 → get_or f i 0 ≡ get_or g i 0) where
  word_same : (at : ℕ) → at + 1 < 54 → word_at f at ≡ word_at g at
  unfolding word_at
  word_same at h = rw (same at (omega arith), same (at + 1) h) refl

  place_same : (from m L k : ℕ) → from ≤ 12 → k < 21 → place_of (λ i. word_at f (from + 2 * i)) m L k ≡ place_of (λ i. word_at g (from + 2 * i)) m L k
  unfolding place_of
  place_same from m L k l h = rw (word_same (from + 2 * k) (omega arith)) refl

  places_same : (from m L : ℕ) → from ≤ 12 → places_of (λ i. word_at f (from + 2 * i)) m L ≡ places_of (λ i. word_at g (from + 2 * i)) m L
  places_same from m L l = tabulate_same (place_of (λ i. word_at f (from + 2 * i)) m L) (place_of (λ i. word_at g (from + 2 * i)) m L) 21 (λ k. place_same from m L k l)

  pub hull_same : (kind : ℕ) → hull_of kind f ≡ hull_of kind g
  unfolding hull_of
  hull_same kind =
      let more : ℕ = persons_length kind in
      let few : more ≤ 5 = few_more kind in
      rw (
        word_same 0 (omega arith),
        word_same 2 (omega arith),
        word_same 4 (omega arith),
        word_same 6 (omega arith),
        word_same 8 (omega arith),
        word_same 10 (omega arith),
        same 12 (omega arith),
        same (8 + more) (omega arith),
        places_same (7 + more) (byte_at g (8 + more)) (word_at g 0) (omega arith),
      )
      refl

module _ (bs out : List ℕ) (e : out ≡ sets (replicate 55 0) 0 bs) where
  pub kind_stored : get_or out 0 0 ≡ kind_of bs
  kind_stored = rw e (byte_stored 55 0 bs (omega arith))

  all_of_it : take 54 (drop 1 out) ≡ drop 1 out
  all_of_it = take_all 54 (drop 1 out) (omega (arith, length-drop 1 out, ap length e, length-sets (replicate 55 0) 0 bs))

  pub hull_stored : (kind : ℕ) → hull_of kind (take 54 (drop 1 out)) ≡ hull_of kind (fields_of bs)
  hull_stored kind =
      rw all_of_it
      (hull_same (drop 1 out) (drop 1 bs)
      (λ i h. get_or-drop 1 out i 0 ∙ rw e (byte_stored 55 (1 + i) bs (omega arith)) ∙ sym (get_or-drop 1 bs i 0)) kind)

-- ---- the line

module _ (l : Line) where
  badly : badly_written l ≡ true → refused_first 2 ≡ first_judged l
  unfolding first_judged first_holds hull_checks
  badly e = rw e refl

  module _ (written : badly_written l ≡ false) where
    wrong : wrong_hull_frame (pairs l.text) ≡ true → refused_first 3 ≡ first_judged l
    unfolding first_judged first_holds hull_checks
    wrong e = rw (written, e) refl

    right : wrong_hull_frame (pairs l.text) ≡ false
        → hull_judged (hull_of (kind_of (pairs l.text)) (fields_of (pairs l.text))) (length (pairs l.text)) ≡ first_judged l
    unfolding first_judged hull_judged hull_number hull_checks wrong_zones
    right e = rw (first_passed 2 (badly_written l) _ written, first_passed 3 (wrong_hull_frame (pairs l.text)) _ e) refl

-- a frame that is none of a hull
module _ (bs : List ℕ) where
  too_short : length bs < shortest_hull (kind_of bs) → wrong_hull_frame bs ≡ true
  unfolding wrong_hull_frame
  too_short h = rw (lt-ltb (length bs) (shortest_hull (kind_of bs)) h) (or-true (not (is_hull (kind_of bs))))

  other_kind : ((kind_of bs ≡ 1) ⊎ (kind_of bs ≡ 6) → ⊥) → wrong_hull_frame bs ≡ true
  unfolding wrong_hull_frame
  other_kind f = rw (ne_eqb (kind_of bs) 1 (λ e. f (inl e)), ne_eqb (kind_of bs) 6 (λ e. f (inr e))) refl

  hull_frame : shortest_hull (kind_of bs) ≤ length bs → (kind_of bs ≡ 1) ⊎ (kind_of bs ≡ 6) → wrong_hull_frame bs ≡ false
  unfolding wrong_hull_frame
  hull_frame h (inl e) = rw (e, le-ltb (length bs) 10 (rw e at h)) refl
  hull_frame h (inr e) = rw (e, le-ltb (length bs) 15 (rw e at h)) refl

module _ (text : List ℕ) where
  pub first_not_closed : refused_first 2 ≡ first_judged (record { text = text; closed = false })
  first_not_closed = badly _ (unfold badly_written in or-true (not (proper text)))

  pub first_no_digits : proper text ≡ false → refused_first 2 ≡ first_judged (record { text = text; closed = true })
  first_no_digits e = badly _ (unfold badly_written in rw e refl)

  module _ (n : ℕ) (w : written_of text ≡ Some n) where
    count : n ≡ length (pairs text)
    count = (well_written text n w).1

    well : badly_written (record { text = text; closed = true }) ≡ false
    unfolding badly_written
    well = rw (well_written text n w).0 refl

    module _ (kind : ℕ) (k : kind ≡ kind_of (pairs text)) where
      pub first_short : n < shortest_hull kind → refused_first 3 ≡ first_judged (record { text = text; closed = true })
      first_short h = wrong _ well (too_short (pairs text) (rw (count, k) at h))

      pub first_other : ((kind ≡ 1) ⊎ (kind ≡ 6) → ⊥) → refused_first 3 ≡ first_judged (record { text = text; closed = true })
      first_other f = wrong _ well (other_kind (pairs text) (rw k at f))

      pub first_hull_lem : (h : Hull) (r : FirstLine) → shortest_hull kind ≤ n → (kind ≡ 1) ⊎ (kind ≡ 6) → h ≡ hull_of kind (fields_of (pairs text)) → r ≡ hull_judged h n
          → r ≡ first_judged (record { text = text; closed = true })
      first_hull_lem h r l e f g = g ∙ rw (f, count, k) (right _ well (hull_frame (pairs text) (rw (count, k) at l) (rw k at e)))
