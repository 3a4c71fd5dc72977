-- A passenger ship's hull from before it said its rule is refused, whatever the ship is and whatever comes after it. Assumes nothing.
use Prim.Native.Nat.{ℕ, ◌+◌, ◌*◌, ◌<◌}
use mathlib.Core.Path.{◌≡◌, refl, ◌∙◌, ap}
use mathlib.Core.Bool.{true, false}
use mathlib.Core.List.{List, ◌∷◌, ◌++◌}
use native.Mathlib.Omega.{arith}
use lib.Dec.{eqb}
use lib.ListN.{length}
use borrow.Author.Tests.{eqb-true, eqb-false, lt-ltb, le-ltb}
use Rattle.laws.specs.Bytes.{Octets, bytes}
use Rattle.laws.proofs.Bytes.{octets_cons, octets_append}
use Rattle.laws.proofs.Tests.{holds, told, picked}
use Rattle.records.specs.declared.Hull.{Hull}
use Rattle.lines.specs.Lines.{lines}
use Rattle.hexadecimal.specs.Hex.{pairs, hex, badly_written, line_of}
use Rattle.hexadecimal.proofs.Pairs.{pairs_hex, line_in_front}
use Rattle.casefile.specs.Layout.{kind_of, fields_of, hull_of, words, inner_of, persons_of, hull_bytes}
use Rattle.casefile.specs.Limits.{sizes_fit, zones_fit}
use Rattle.casefile.specs.Table.{first_holds, wrong_hull_frame, hull_checks}
use Rattle.casefile.specs.Reading.{begin, read_from}
use Rattle.casefile.specs.Valid.{ValidHull}
use Rattle.casefile.specs.Refusal.{old_hull_bytes, old_hull_number, OldHullsRefused}
use Rattle.casefile.proofs.Limits.{Zones, sizes_are, zones_are}
use Rattle.casefile.proofs.Words.{words_octets}
use Rattle.casefile.proofs.HullLayout.{hull_length_lem}
use Rattle.casefile.proofs.Steps.{not_too_long, line_refused}
use Rattle.casefile.proofs.Completeness.{closed_line, written_well}

module _ (h : Hull) (v : ValidHull h) (k : h.kind ≡ 6) where
  abbrev old : List ℕ
  old = old_hull_bytes h

  abbrev read : Hull
  read = hull_of (kind_of old) (fields_of old)

  abbrev zones : Zones h
  zones = zones_are h (holds (zones_fit h) v.zones)

  old_octets : Octets old
  unfolding old_hull_bytes
  old_octets =
      let sizes : List ℕ = h.length ∷ h.breadth ∷ h.deepest ∷ h.light ∷ persons_of h in
      octets_cons h.kind (words sizes ++ h.zones ∷ words (inner_of h)) (omega arith)
      (octets_append (words sizes) (h.zones ∷ words (inner_of h)) (words_octets sizes)
      (octets_cons h.zones (words (inner_of h)) (omega (arith, zones.most)) (words_octets (inner_of h))))

  -- a byte less than it has now
  old_length : length old ≡ 12 + 2 * h.zones
  unfolding old_hull_bytes hull_bytes bytes
  old_length =
      let now = rw k at (hull_length_lem h v.type (sizes_are h (holds (sizes_fit h) v.sizes)) zones v.places) in
      rw k (omega (arith, now))

  old_kind : kind_of old ≡ 6
  unfolding old_hull_bytes
  old_kind = k

  zones_read_as_rule : read.rule ≡ h.zones
  unfolding hull_of old_hull_bytes bytes
  zones_read_as_rule = rw k refl

  too_short : h.zones ≡ 1 → wrong_hull_frame old ≡ true
  unfolding wrong_hull_frame
  too_short one = rw (old_kind, lt-ltb (length old) 15 (omega (arith, old_length))) refl

  long_enough : 1 < h.zones → wrong_hull_frame old ≡ false
  unfolding wrong_hull_frame
  long_enough more = rw (old_kind, le-ltb (length old) 15 (omega (arith, old_length))) refl

  no_such_rule : 1 < h.zones → sizes_fit read ≡ false
  no_such_rule more = told (sizes_fit read) (λ fit. absurd (omega (arith, (sizes_are read fit).rule, zones_read_as_rule))) (λ e. e)

  number : first_holds (hull_checks (closed_line old)) ≡ old_hull_number h.zones
  unfolding hull_checks first_holds
  number =
      let same : pairs (hex old) ≡ old = pairs_hex old old_octets in
      let well : badly_written (closed_line old) ≡ false = written_well old old_octets (omega (arith, old_length)) in
      told (eqb h.zones 1)
      (λ t. let one : h.zones ≡ 1 = eqb-true h.zones 1 t in rw (well, same, too_short one, t) refl)
      (λ t. let not-one : h.zones ≡ 1 → ⊥ = eqb-false h.zones 1 t in let more : 1 < h.zones = omega (arith, zones.some) in rw (well, same, long_enough more, no_such_rule more, t) refl)

pub old_hulls_refused : OldHullsRefused
old_hulls_refused h rest v k short =
    let m : ℕ = h.zones in
    not_too_long (line_of (old_hull_bytes h) ++ rest) short
    ∙ ap (read_from begin 1) (line_in_front (old_hull_bytes h) rest (old_octets h v k))
    ∙ line_refused begin 1 (closed_line (old_hull_bytes h)) (lines rest) (old_hull_number m) (number h v k) (picked (λ n. n ≡ 0 → ⊥) (eqb m 1) 3 4 (λ t e. omega arith) (λ t e. omega arith))
