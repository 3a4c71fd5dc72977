-- How long the file of a valid case is, its lines counted: a cargo ship's is never too long, a passenger ship's is where it has too many rows. Assumes nothing.
use Prim.Native.Nat.{ℕ, ◌+◌, ◌*◌, ◌≤◌}
use mathlib.Core.Path.{◌≡◌, refl}
use mathlib.Core.Bool.{true}
use mathlib.Core.List.{List, [], ◌∷◌}
use mathlib.Core.Logic.{inl, inr}
use native.Mathlib.Omega.{arith}
use lib.ListN.{length, length-append}
use Rattle.laws.specs.Bytes.{bytes}
use Rattle.laws.specs.Lists.{Every}
use Rattle.laws.proofs.Choice.{split}
use Rattle.laws.proofs.Tests.{holds}
use Rattle.records.specs.declared.Hull.{Hull}
use Rattle.hexadecimal.specs.Hex.{line_of}
use Rattle.hexadecimal.proofs.Pairs.{length_hex}
use Rattle.casefile.specs.Record.{Row, Case}
use Rattle.casefile.specs.Layout.{takes, frame_length, persons_length, hull_length, hull_bytes, row_bytes, end_bytes}
use Rattle.casefile.specs.Limits.{longest_input, sizes_fit, zones_fit}
use Rattle.casefile.specs.Valid.{ValidRow, Valid}
use Rattle.casefile.specs.Encode.{row_lines, encode}
use Rattle.casefile.specs.Acceptance.{longest_file, EveryCargoCaseIsRead, FewEnough, PassengerCasesRead, PassengerCasesTooLong}
use Rattle.casefile.proofs.Limits.{Sizes, Zones, sizes_are, zones_are}
use Rattle.casefile.proofs.HullLayout.{hull_length_lem}
use Rattle.casefile.proofs.RowKinds.{RowKind, one_set, survivals, two_sets_lem, passenger, of_taken, passenger_takes, cargo_takes}
use Rattle.casefile.proofs.RowLayout.{row_length}
use Rattle.casefile.proofs.Steps.{too_long}
use Rattle.casefile.proofs.Soundness.{sound}
use Rattle.casefile.proofs.Completeness.{complete}

-- two digits a byte, and the line feed
line_length_lem : (bs : List ℕ) → length (line_of bs) ≡ length bs * 2 + 1
unfolding line_of
line_length_lem bs = rw length-append (omega (arith, length_hex bs))

-- ---- the frames that a ship takes have from a to b bytes

abbrev Frames : ℕ → ℕ → ℕ → Type 0
Frames ship a b = (k : ℕ) → takes ship k ≡ true → (a ≤ frame_length k) × (frame_length k ≤ b)

cargo_frames : Frames 1 13 55
unfolding frame_length
cargo_frames k t = by (of_taken 1 k t)
  where
    by : RowKind k → (13 ≤ frame_length k) × (frame_length k ≤ 55)
    by (one_set e) = rw e (omega arith, omega arith)
    by (survivals e) = rw e (omega arith, omega arith)
    by (two_sets_lem e) = rw e (omega arith, omega arith)
    by (passenger e) = absurd (cargo_takes k t e)

passenger_frames : Frames 6 76 76
unfolding frame_length
passenger_frames k t = rw (passenger_takes k t) (omega arith, omega arith)

module _ (h : Hull) (s : Sizes h) (z : Zones h) (a b : ℕ) (fs : Frames h.kind a b) where
  rows_length : (rs : List Row) → Every (ValidRow h) rs → ((2 * a + 1) * length rs ≤ length (row_lines rs)) × (length (row_lines rs) ≤ (2 * b + 1) * length rs)
  unfolding row_lines
  rows_length [] v = (omega arith, omega arith)
  rows_length (r ∷ rs) v =
      let (low, high) = rows_length rs v.1 in
      let (least, most) = fs r.head.kind (holds (takes h.kind r.head.kind) v.0.taken) in
      let line = line_length_lem (row_bytes r) in
      let long = row_length h r s z v.0 in
      rw length-append (omega (arith, line, long, least, low), omega (arith, line, long, most, high))

-- ---- the file

module _ (c : Case) (v : Valid c) where
  abbrev hull : Hull
  hull = c.hull

  abbrev sizes : Sizes hull
  sizes = sizes_are hull (holds (sizes_fit hull) v.hull.sizes)

  abbrev zones : Zones hull
  zones = zones_are hull (holds (zones_fit hull) v.hull.zones)

  file_length : length (encode c) ≡ 2 * hull_length hull.kind hull.zones + length (row_lines c.rows) + 8
  unfolding encode end_bytes bytes
  file_length =
      rw (length-append, length-append)
      (omega (arith, line_length_lem (hull_bytes hull), hull_length_lem hull v.hull.type sizes zones v.hull.places, line_length_lem (end_bytes (length c.rows))))

  cargo_length : hull.kind ≡ 1 → length (encode c) ≤ longest_file
  cargo_length k =
      let (low, high) = rows_length hull sizes zones 13 55 (rw k cargo_frames) c.rows v.rows in
      let none : persons_length hull.kind ≡ 0 = rw k refl in
      omega (arith, file_length, none, high, zones.most, v.few)

  -- a passenger ship's, exactly
  pub passenger_length : hull.kind ≡ 6 → length (encode c) ≡ 34 + 4 * hull.zones + 153 * length c.rows
  passenger_length k =
      let (low, high) = rows_length hull sizes zones 76 76 (rw k passenger_frames) c.rows v.rows in
      let five : persons_length hull.kind ≡ 5 = rw k refl in
      omega (arith, file_length, five, low, high)

  few_read : hull.kind ≡ 6 → FewEnough c → length (encode c) ≤ longest_input
  few_read k (inl f) = omega (arith, passenger_length k, zones.most)
  few_read k (inr (f, m)) = omega (arith, passenger_length k)

  read_few : hull.kind ≡ 6 → length (encode c) ≤ longest_input → FewEnough c
  read_few k short =
      split (length c.rows) 427 (λ l. inl l)
      (λ l. inr (omega (arith, passenger_length k, zones.some), omega (arith, passenger_length k)))

pub every_cargo_case_is_read : EveryCargoCaseIsRead
every_cargo_case_is_read c v k = (cargo_length c v k, complete c v (omega (arith, cargo_length c v k)))

pub passenger_cases_read : PassengerCasesRead
passenger_cases_read c v k = (λ e. read_few c v k (sound (encode c) c e).0, λ f. complete c v (few_read c v k f))

pub passenger_cases_too_long : PassengerCasesTooLong
passenger_cases_too_long c v k n = split (length (encode c)) longest_input (λ short. absurd (n (read_few c v k short))) (λ long. too_long (encode c) long)
