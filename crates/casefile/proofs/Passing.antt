-- A line that passes is the line of the record that it is read as, and that record is valid. Assumes nothing.
use Prim.Native.Nat.{ℕ, ◌+◌, ◌*◌, ◌≤◌}
use mathlib.Core.Path.{◌≡◌, refl, sym, ◌∙◌, ap}
use mathlib.Core.Bool.{Bool, true, false, cond, not, ◌||◌, true≢false}
use mathlib.Core.List.{List, [], ◌∷◌, ◌++◌}
use mathlib.Core.Logic.{inl, inr, ⊎_elim}
use native.Mathlib.Omega.{arith}
use lib.Dec.{ltb, eqb}
use lib.ListN.{length, drop, length-drop}
use lib.Seq.{drop-cons}
use borrow.Author.Tests.{ltb-false, eqb-true, not-false}
use Rattle.laws.specs.Bytes.{Octets}
use Rattle.laws.specs.Lists.{Every}
use Rattle.laws.proofs.Tests.{neither, one_holds, proved}
use Rattle.records.specs.declared.Hull.{Hull}
use Rattle.lines.specs.Lines.{Line}
use Rattle.lines.proofs.Lines.{written}
use Rattle.hexadecimal.specs.Hex.{pairs, proper, badly_written, line_of}
use Rattle.fields.specs.Fields.{byte_at}
use Rattle.hexadecimal.proofs.Pairs.{hex_pairs, pairs_octets}
use Rattle.fields.proofs.Fields.{octets_drop}
use Rattle.casefile.specs.Layout.{kind_of, fields_of, is_hull, is_row, is_end, takes, frame_length, persons_length, hull_length, shortest_hull, zones_at, hull_of, head_of, finding_of, set_of, floodings_of, results_of, row_of, count_of, hull_bytes, row_bytes, end_bytes}
use Rattle.casefile.specs.Limits.{sizes_fit, persons_fit, zones_fit, row_fits}
use Rattle.casefile.specs.Table.{wrong_hull_frame, wrong_frame, wrong_zones}
use Rattle.casefile.specs.Valid.{ValidHull, Formed, found, given, ValidRow}
use Rattle.casefile.proofs.Checks.{HullPasses}
use Rattle.casefile.proofs.Limits.{Zones, zones_are}
use Rattle.casefile.proofs.RowKinds.{RowKind, one_set, survivals, two_sets_lem, passenger, of_taken, not_taken, end_no_row}
use Rattle.casefile.proofs.RowLayout.{row_bytes_again, end_bytes_again}
use Rattle.casefile.proofs.HullLayout.{HullKind, of_hull_kind, ship_type, placed, hull_bytes_again}

-- ---- any line

module _ (l : Line) (w : badly_written l ≡ false) where
  abbrev bs : List ℕ
  bs = pairs l.text

  pub well_written : (proper l.text ≡ true) × (l.closed ≡ true)
  unfolding badly_written
  well_written =
      let (p, c) = neither (not (proper l.text)) (not l.closed) w in
      (not-false (proper l.text) p, not-false l.closed c)

  -- a line that is written well is that of its bytes
  pub line_again : written l ≡ line_of bs
  unfolding line_of
  line_again = rw (hex_pairs l.text well_written.0, well_written.1) refl

  octets : Octets bs
  octets = pairs_octets l.text

  -- ---- line 1

  module _ (p : HullPasses l) where
    abbrev hull : Hull
    hull = hull_of (kind_of bs) (fields_of bs)

    -- long enough for one zone
    pub hull_frame : HullKind (kind_of bs) × (shortest_hull (kind_of bs) ≤ length bs)
    unfolding wrong_hull_frame
    hull_frame =
        let (k, n) = neither (not (is_hull (kind_of bs))) (ltb (length bs) (shortest_hull (kind_of bs))) p.frame in
        (of_hull_kind (kind_of bs) (not-false (is_hull (kind_of bs)) k), ltb-false (length bs) (shortest_hull (kind_of bs)) n)

    pub hull_zones : (zones_fit hull ≡ true) × (length bs ≡ hull_length hull.kind hull.zones)
    unfolding wrong_zones
    hull_zones =
        let n : ℕ = hull_length hull.kind hull.zones in
        let (z, e) = neither (not (zones_fit hull)) (not (eqb (length bs) n)) p.zones in
        (not-false (zones_fit hull) z, eqb-true (length bs) n (not-false (eqb (length bs) n) e))

    pub hull_valid : ValidHull hull
    hull_valid = record {
      type = ship_type (fields_of bs) hull_frame.0;
      sizes = proved (sizes_fit hull) p.sizes;
      persons = proved (persons_fit hull) p.persons;
      zones = proved (zones_fit hull) hull_zones.0;
      places = placed (kind_of bs) (fields_of bs);
    }

    pub hull_line_lem : written l ≡ line_of (hull_bytes hull)
    unfolding hull_of
    hull_line_lem =
        let z : Zones hull = zones_are hull hull_zones.0 in
        let front : bs ≡ kind_of bs ∷ fields_of bs = drop-cons bs 0 0 (omega (arith, hull_frame.1)) in
        let n : length (fields_of bs) ≡ 7 + persons_length (kind_of bs) + 2 * byte_at (fields_of bs) (zones_at (kind_of bs)) = omega (arith, hull_zones.1, length-drop 1 bs) in
        line_again ∙ ap line_of (front ∙ sym (hull_bytes_again (kind_of bs) (fields_of bs) (octets_drop 1 bs octets) z.some z.most n))

  -- ---- a later line, after a ship of a kind

  module _ (ship : ℕ) (f : wrong_frame ship bs ≡ false) where
    pub fits : ((takes ship (kind_of bs) || is_end (kind_of bs)) ≡ true) × (length bs ≡ frame_length (kind_of bs))
    unfolding wrong_frame
    fits =
        let (k, n) = neither (not (takes ship (kind_of bs) || is_end (kind_of bs))) (not (eqb (length bs) (frame_length (kind_of bs)))) f in
        (not-false (takes ship (kind_of bs) || is_end (kind_of bs)) k, eqb-true (length bs) (frame_length (kind_of bs)) (not-false (eqb (length bs) (frame_length (kind_of bs))) n))

    -- a row is one that the ship takes, and what is no row is the end
    pub row_taken : is_row (kind_of bs) ≡ true → takes ship (kind_of bs) ≡ true
    row_taken k = ⊎_elim (λ t. t) (λ e. absurd (true≢false (sym k ∙ end_no_row (kind_of bs) e))) (one_holds (takes ship (kind_of bs)) (is_end (kind_of bs)) fits.0)

    pub then_end : is_row (kind_of bs) ≡ false → is_end (kind_of bs) ≡ true
    then_end k = rw (not_taken ship (kind_of bs) k) at fits.0

    pub row_line : is_row (kind_of bs) ≡ true → written l ≡ line_of (row_bytes (row_of bs))
    row_line k = line_again ∙ ap line_of (sym (row_bytes_again bs octets k fits.1))

    pub end_line_lem : is_row (kind_of bs) ≡ false → written l ≡ line_of (end_bytes (count_of bs))
    end_line_lem k = line_again ∙ ap line_of (sym (end_bytes_again bs octets (then_end k) fits.1))

-- ---- a row that is read has its kind's fields alone

finding_formed : (kind : ℕ) (f : List ℕ) → RowKind kind → Formed kind (finding_of kind f)
unfolding finding_of
finding_formed kind f (one_set k) = found (inl k) (rw k refl)
finding_formed kind f (survivals k) = given k (rw k refl) (rw k refl) (rw k refl) (rw k refl)
finding_formed kind f (two_sets_lem k) = found (inr (inl k)) (rw k refl)
finding_formed kind f (passenger k) = found (inr (inr k)) (rw k refl)

-- and as many as its kind has
pub row_valid : (h : Hull) (bs : List ℕ) → takes h.kind (kind_of bs) ≡ true → row_fits h (row_of bs) ≡ true → ValidRow h (row_of bs)
unfolding head_of set_of floodings_of results_of
row_valid h bs k e = record {
  taken = proved (takes h.kind (kind_of bs)) k;
  limits = proved (row_fits h (row_of bs)) e;
  findings = counted (eqb (kind_of bs) 5);
  formed = all (eqb (kind_of bs) 5);
  floodings = besides (eqb (kind_of bs) 7);
}
  where
    formed : (f : List ℕ) → Formed (kind_of bs) (finding_of (kind_of bs) f)
    formed f = finding_formed (kind_of bs) f (of_taken h.kind (kind_of bs) k)

    counted : (t : Bool) → length (set_of (kind_of bs) (drop 6 (fields_of bs)) ++ cond t (set_of (kind_of bs) (drop 30 (fields_of bs))) []) ≡ cond t 6 3
    counted true = refl
    counted false = refl

    all : (t : Bool) → Every (Formed (kind_of bs)) (set_of (kind_of bs) (drop 6 (fields_of bs)) ++ cond t (set_of (kind_of bs) (drop 30 (fields_of bs))) [])
    all true = (formed _, (formed _, (formed _, (formed _, (formed _, (formed _, tt))))))
    all false = (formed _, (formed _, (formed _, tt)))

    besides : (t : Bool) → length (cond t (floodings_of (drop 30 (fields_of bs))) []) ≡ cond t 3 0
    besides true = refl
    besides false = refl
