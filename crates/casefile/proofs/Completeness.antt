-- The file of a valid case is accepted, and read as that case. Assumes nothing.
use Prim.Native.Nat.{ℕ, suc, ◌+◌, ◌≤◌, ◌<◌}
use mathlib.Core.Path.{◌≡◌, refl, sym, ◌∙◌, ap}
use mathlib.Core.Bool.{true, false}
use mathlib.Core.List.{List, [], ◌∷◌, ◌++◌, append_assoc, append-nil}
use mathlib.Core.Logic.{◌⊎◌, inl, inr}
use native.Mathlib.Nat.{add-zero, zero-add}
use native.Mathlib.Omega.{arith}
use lib.ListN.{length}
use borrow.Author.Tests.{eq-eqb, le-ltb}
use Rattle.laws.specs.Lists.{Every}
use Rattle.laws.specs.Bytes.{Octets, bytes}
use Rattle.laws.proofs.Tests.{holds}
use Rattle.records.specs.declared.Hull.{Hull}
use Rattle.lines.specs.Lines.{Line, lines}
use Rattle.hexadecimal.specs.Hex.{pairs, hex, badly_written, line_of}
use Rattle.fields.specs.Fields.{word_at}
use Rattle.hexadecimal.proofs.Pairs.{pairs_hex, proper_hex, line_in_front}
use Rattle.casefile.specs.declared.Progress.{Progress}
use Rattle.casefile.specs.Record.{Row, Case}
use Rattle.casefile.specs.Layout.{kind_of, fields_of, is_hull, is_row, takes, frame_length, hull_length, shortest_hull, hull_of, row_of, count_of, hull_bytes, row_bytes, end_bytes}
use Rattle.casefile.specs.Limits.{longest_input, most_rows, sizes_fit, persons_fit, zones_fit, row_fits}
use Rattle.casefile.specs.Order.{out_of_order, leaves_open, ends_open}
use Rattle.casefile.specs.Table.{first_holds, wrong_hull_frame, wrong_frame, wrong_zones, hull_checks, line_checks}
use Rattle.casefile.specs.Reading.{accepted, begin, inside, start, with_row, before, read_from, reading}
use Rattle.casefile.specs.Encode.{row_lines, encode}
use Rattle.casefile.specs.Valid.{ClosesGroup, Follows, ShipType, cargo, passenger, ValidHull, ValidRow, Valid}
use Rattle.casefile.proofs.Checks.{hull_passed, row_line_passes, end_line_passes}
use Rattle.casefile.proofs.Steps.{not_too_long, line_passes, row_passes_on, end_passes_on}
use Rattle.casefile.proofs.Limits.{Sizes, Zones, sizes_are, zones_are}
use Rattle.casefile.proofs.Order.{in_order, none_open, end_closed, first_in_order, first_none_open, none_to_close}
use Rattle.casefile.proofs.RowLayout.{row_again, row_length, row_kind, row_is_row, row_octets, end_octets}
use Rattle.casefile.proofs.HullLayout.{hull_again, hull_kind, hull_length_lem, hull_octets}
use Rattle.casefile.proofs.RowKinds.{not_taken}
use Rattle.casefile.proofs.Chain.{OrderedFrom, from_start}

-- ---- the line of some bytes

abbrev pub closed_line : List ℕ → Line
closed_line bs = record { text = hex bs; closed = true }

pub written_well : (bs : List ℕ) → Octets bs → 0 < length bs → badly_written (closed_line bs) ≡ false
unfolding badly_written
written_well bs o h = rw (proper_hex bs o h) refl

-- ---- the end

end_count : (n : ℕ) → n ≤ most_rows → count_of (end_bytes n) ≡ n
unfolding end_bytes bytes word_at
end_count n h = omega arith

end_frame : (ship n : ℕ) → wrong_frame ship (end_bytes n) ≡ false
unfolding wrong_frame end_bytes bytes frame_length
end_frame ship n = rw (not_taken ship 15 refl) refl

end_no_row : (n : ℕ) → is_row (kind_of (end_bytes n)) ≡ false
unfolding end_bytes
end_no_row n = refl

end_some : (n : ℕ) → 0 < length (end_bytes n)
unfolding end_bytes
end_some n = omega arith

module _ (h : Hull) (p : Progress) (n : ℕ) (going : p.ended ≡ false) where
  nothing_open : (p.last.kind ≡ 0) ⊎ ClosesGroup h p.last → ends_open h p.last ≡ false
  nothing_open (inl k) = none_to_close h p.last k
  nothing_open (inr c) = end_closed h p.last c

  end_read : p.rows ≤ most_rows → (p.last.kind ≡ 0) ⊎ ClosesGroup h p.last →
      read_from (inside h p) n (lines (line_of (end_bytes p.rows))) ≡ accepted (record { hull = h; rows = [] })
  unfolding lines read_from
  end_read few o =
      let E : List ℕ = end_bytes p.rows in
      let l : Line = closed_line E in
      let same : pairs (hex E) ≡ E = pairs_hex E (end_octets p.rows) in
      let no_row : is_row (kind_of (pairs (hex E))) ≡ false = rw same (end_no_row p.rows) in
      let passes : first_holds (line_checks h p l) ≡ 0 =
      end_line_passes h p l
      (record { going = going; written = written_well E (end_octets p.rows) (end_some p.rows); frame = rw same (end_frame h.kind p.rows) })
      no_row
      (record { counts = rw same (end_count p.rows few); closed = nothing_open o }) in
      ap (read_from (inside h p) n) (ap lines (sym (append-nil (line_of E))) ∙ line_in_front E [] (end_octets p.rows))
      ∙ end_passes_on h p l n [] passes no_row

  -- ---- a row

  module _ (s : Sizes h) (z : Zones h) (r : Row) (v : ValidRow h r) where
    goes_before : (p.last.kind ≡ 0) ⊎ Follows h p.last r.head → (out_of_order h p.last r.head ≡ false) × (leaves_open h p.last r.head ≡ false)
    goes_before (inl k) = (first_in_order h p.last k r.head, first_none_open h p.last k r.head)
    goes_before (inr f) = (in_order h p.last r.head f, none_open h p.last r.head f)

    row_some : 0 < length (row_bytes r)
    unfolding row_bytes
    row_some = omega arith

    row_frame_lem : wrong_frame h.kind (row_bytes r) ≡ false
    unfolding wrong_frame
    row_frame_lem = rw (row_kind h r s z v, holds (takes h.kind r.head.kind) v.taken, eq-eqb (length (row_bytes r)) (frame_length r.head.kind) (row_length h r s z v)) refl

    row_read : p.rows < most_rows → (p.last.kind ≡ 0) ⊎ Follows h p.last r.head → (rest : List ℕ) →
        read_from (inside h p) n (lines (line_of (row_bytes r) ++ rest)) ≡ before r (read_from (inside h (with_row p r)) (n + 1) (lines rest))
    row_read few o rest =
        let R : List ℕ = row_bytes r in
        let l : Line = closed_line R in
        let same : pairs (hex R) ≡ R = pairs_hex R (row_octets h r s z v) in
        let again : row_of (pairs (hex R)) ≡ r = ap row_of same ∙ row_again h r s z v in
        let is : is_row (kind_of (pairs (hex R))) ≡ true = rw (same, row_kind h r s z v) (row_is_row h r s z v) in
        let (a, b) = goes_before o in
        let passes : first_holds (line_checks h p l) ≡ 0 =
        row_line_passes h p l
        (record { going = going; written = written_well R (row_octets h r s z v) (row_some); frame = rw same (row_frame_lem) })
        is
        (rw again (record { few = few; fits = holds (row_fits h r) v.limits; order = a; closed = b })) in
        ap (read_from (inside h p) n) (line_in_front R rest (row_octets h r s z v))
        ∙ row_passes_on h p l n (lines rest) passes is
        ∙ ap (λ (x : Row). before x (read_from (inside h (with_row p x)) (n + 1) (lines rest))) again

-- ---- the rows and the end

module _ (h : Hull) (s : Sizes h) (z : Zones h) where
  rows_read : (rs : List Row) (p : Progress) (n : ℕ) → p.ended ≡ false → Every (ValidRow h) rs → OrderedFrom h p.last rs → p.rows + length rs ≤ most_rows →
      read_from (inside h p) n (lines (row_lines rs ++ line_of (end_bytes (p.rows + length rs)))) ≡ accepted (record { hull = h; rows = rs })
  unfolding row_lines
  rows_read [] p n going v o few = rw (add-zero p.rows) (end_read h p n going (omega arith) o)
  rows_read (r ∷ rs) p n going v o few =
      let e : p.rows + suc (length rs) ≡ p.rows + 1 + length rs = omega arith in
      let E : List ℕ = line_of (end_bytes (p.rows + 1 + length rs)) in
      rw (e, append_assoc (line_of (row_bytes r)) (row_lines rs) E)
      (row_read h p n going s z r v.0 (omega arith) o.0 (row_lines rs ++ E)
      ∙ ap (before r) (rows_read rs (with_row p r) (n + 1) refl v.1 o.1 (omega arith)))

-- ---- the hull

module _ (h : Hull) (s : Sizes h) (z : Zones h) (v : ValidHull h) where
  abbrev same_bytes : pairs (hex (hull_bytes h)) ≡ hull_bytes h
  same_bytes = pairs_hex (hull_bytes h) (hull_octets h v.type s z v.places)

  abbrev hull_there : hull_of (kind_of (pairs (hex (hull_bytes h)))) (fields_of (pairs (hex (hull_bytes h)))) ≡ h
  hull_there = rw same_bytes (hull_again h v.type s z v.places)

  hull_frame : wrong_hull_frame (hull_bytes h) ≡ false
  unfolding wrong_hull_frame
  hull_frame =
      rw (hull_kind h v.type s z v.places, of_type v.type, le-ltb (length (hull_bytes h)) (shortest_hull h.kind) (omega (arith, hull_length_lem h v.type s z v.places, z.some))) refl
    where
      of_type : ShipType h → is_hull h.kind ≡ true
      of_type (cargo k a b r) = rw k refl
      of_type (passenger k) = rw k refl

  hull_zones : wrong_zones (hull_bytes h) h ≡ false
  unfolding wrong_zones
  hull_zones = rw (holds (zones_fit h) v.zones, eq-eqb (length (hull_bytes h)) (hull_length h.kind h.zones) (hull_length_lem h v.type s z v.places)) refl

  hull_read : (n : ℕ) (rest : List ℕ) → read_from begin n (lines (line_of (hull_bytes h) ++ rest)) ≡ read_from (inside h start) (n + 1) (lines rest)
  hull_read n rest =
      let l : Line = closed_line (hull_bytes h) in
      let o : Octets (hull_bytes h) = hull_octets h v.type s z v.places in
      let passes : first_holds (hull_checks l) ≡ 0 =
      hull_passed l
      (record {
        written = written_well (hull_bytes h) o (omega (arith, hull_length_lem h v.type s z v.places));
        frame = rw same_bytes hull_frame;
        sizes = rw hull_there (holds (sizes_fit h) v.sizes);
        persons = rw hull_there (holds (persons_fit h) v.persons);
        zones = rw (hull_there, same_bytes) hull_zones;
      }) in
      ap (read_from begin n) (line_in_front (hull_bytes h) rest o)
      ∙ line_passes begin n l (lines rest) passes
      ∙ ap (λ (x : Hull). read_from (inside x start) (n + 1) (lines rest)) hull_there

-- ---- the file

pub complete : (c : Case) → Valid c → length (encode c) ≤ longest_input → reading (encode c) ≡ accepted c
unfolding encode
complete c v short =
    let h : Hull = c.hull in
    let s : Sizes h = sizes_are h (holds (sizes_fit h) v.hull.sizes) in
    let z : Zones h = zones_are h (holds (zones_fit h) v.hull.zones) in
    not_too_long (encode c) short
    ∙ hull_read h s z v.hull 1 (row_lines c.rows ++ line_of (end_bytes (length c.rows)))
    ∙ rw (zero-add (length c.rows)) at (rows_read h s z c.rows start 2 refl v.rows (from_start h c.rows v.order) (omega (arith, v.few)))
