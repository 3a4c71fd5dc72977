-- A hull's frame, of either kind: from bytes to the record and back, and the other way round. Assumes nothing.
use Prim.Native.Nat.{ℕ, suc, ◌+◌, ◌-◌, ◌*◌, ◌≤◌, ◌<◌}
use mathlib.Core.Path.{◌≡◌, refl, sym, ◌∙◌, ap, ap₂}
use mathlib.Core.Bool.{Bool, true, false, cond}
use mathlib.Core.List.{List, [], ◌∷◌, ◌++◌, append-nil}
use mathlib.Core.Logic.{⊎_elim}
use native.Mathlib.Nat.{le_refl}
use native.Mathlib.Omega.{arith}
use lib.Dec.{ltb, eqb}
use lib.ListN.{length, get_or, take, drop, length-drop, length-append}
use lib.Seq.{take_all, take-suc, split_at, get_or_at, drop_at, drop-drop}
use borrow.Author.Tests.{eqb-true, eqb-false, ltb-true, ne_eqb, lt-ltb}
use Rattle.laws.specs.Lists.{tabulate}
use Rattle.laws.specs.Bytes.{Octets, bytes}
use Rattle.laws.proofs.Lists.{length_tabulate, get_d_tabulate, tabulate_same, length_part, get_d_part}
use Rattle.laws.proofs.Bytes.{octets_cons, octets_append}
use Rattle.laws.proofs.Tests.{one_holds}
use Rattle.records.specs.declared.Hull.{Hull}
use Rattle.fields.specs.Fields.{byte_at, word_at}
use Rattle.fields.proofs.Fields.{octets_drop, word_drop}
use Rattle.casefile.specs.Layout.{kind_of, fields_of, is_hull, persons_length, hull_length, place_of, places_of, zones_at, hull_of, words, inner_of, persons_of, rule_of, hull_bytes}
use Rattle.casefile.specs.Valid.{Placed, ShipType, cargo, passenger}
use Rattle.casefile.proofs.Limits.{Sizes, Zones, rising_below}
use Rattle.casefile.proofs.Words.{words_length, words_again, word_at_lem, words_octets, part_of_table}

-- ---- the kind

pub data HullKind (kind : ℕ) : Type 0 where
  of_cargo : kind ≡ 1 → HullKind kind
  of_passengers : kind ≡ 6 → HullKind kind

pub of_hull_kind : (kind : ℕ) → is_hull kind ≡ true → HullKind kind
of_hull_kind kind e = ⊎_elim (λ t. of_cargo (eqb-true kind 1 t)) (λ t. of_passengers (eqb-true kind 6 t)) (one_holds (eqb kind 1) (eqb kind 6) e)

-- what is read of a cargo ship has no persons and no rule
pub ship_type : {kind : ℕ} (f : List ℕ) → HullKind kind → ShipType (hull_of kind f)
unfolding hull_of
ship_type f (of_cargo k) = cargo k (rw k refl) (rw k refl) (rw k refl)
ship_type f (of_passengers k) = passenger k

pub of_ship_type : {h : Hull} → ShipType h → HullKind h.kind
of_ship_type (cargo k a b r) = of_cargo k
of_ship_type (passenger k) = of_passengers k

-- ---- the places

place_same : (f g : ℕ → ℕ) (m L k : ℕ) → (0 < k → k < m → f k ≡ g k) → place_of f m L k ≡ place_of g m L k
unfolding place_of
place_same f g m L k h = by (eqb k 0) (ltb k m) refl refl
  where
    by : (t u : Bool) → eqb k 0 ≡ t → ltb k m ≡ u → cond t 0 (cond u (f k) (cond (eqb k m) L 0)) ≡ cond t 0 (cond u (g k) (cond (eqb k m) L 0))
    by true u p q = refl
    by false false p q = refl
    by false true p q = let n : k ≡ 0 → ⊥ = eqb-false k 0 p in h (omega arith) (ltb-true k m q)

place_inside : (f : ℕ → ℕ) (m L k : ℕ) → 0 < k → k < m → place_of f m L k ≡ f k
unfolding place_of
place_inside f m L k h l = rw (ne_eqb k 0 (λ e. omega arith), lt-ltb k m l) refl

-- what is read is placed as a hull's places are
pub placed : (kind : ℕ) (f : List ℕ) → Placed (hull_of kind f)
unfolding hull_of
placed kind f =
    let m : ℕ = byte_at f (zones_at kind) in
    let L : ℕ = word_at f 0 in
    let inner : ℕ → ℕ = λ k. word_at f (7 + persons_length kind + 2 * k) in
    tabulate_same (place_of inner m L) (place_of (λ k. get_or (places_of inner m L) k 0) m L) 21
    (λ k l. place_same inner (λ k. get_or (places_of inner m L) k 0) m L k
    (λ a b. sym (get_d_tabulate (place_of inner m L) 21 k 0 l ∙ place_inside inner m L k a b)))

-- ---- from bytes

-- the inner bulkheads are the numbers after the zone count
module _ (kind : ℕ) (f : List ℕ) (most : byte_at f (zones_at kind) ≤ 20) where
  abbrev m : ℕ
  m = byte_at f (zones_at kind)

  abbrev inner : ℕ → ℕ
  inner k = word_at f (7 + persons_length kind + 2 * k)

  bulkhead : (i : ℕ) → i < m - 1 → place_of inner m (word_at f 0) (1 + i) ≡ word_at f (9 + persons_length kind + 2 * i)
  bulkhead i h =
      let k : 7 + persons_length kind + 2 * (1 + i) ≡ 9 + persons_length kind + 2 * i = omega arith in
      place_inside inner m (word_at f 0) (1 + i) (omega arith) (omega arith) ∙ ap (word_at f) k

  pub inner_words : inner_of (hull_of kind f) ≡ tabulate (λ i. word_at f (9 + persons_length kind + 2 * i)) (m - 1)
  unfolding hull_of
  inner_words =
      part_of_table 0 (place_of inner m (word_at f 0)) 1 (m - 1) 21 (omega arith)
      ∙ tabulate_same (λ i. place_of inner m (word_at f 0) (1 + i)) (λ i. word_at f (9 + persons_length kind + 2 * i)) (m - 1) bulkhead

-- the numbers before the zone count, a passenger ship's persons and rule among them, write the bytes before it
front_again : (t : Bool) (f : List ℕ) → Octets f → 8 + cond t 5 0 ≤ length f →
    words (word_at f 0 ∷ word_at f 2 ∷ word_at f 4 ∷ word_at f 6 ∷ cond t (cond t (word_at f 8) 0 ∷ cond t (word_at f 10) 0 ∷ []) []) ++ cond t (cond t (byte_at f 12) 0 ∷ []) [] ≡ take (8 + cond t 5 0) f
unfolding tabulate
front_again true f o l = ap (◌++ byte_at f 12 ∷ []) (words_again f 6 o (omega arith)) ∙ sym (take-suc f 12 0 l)
front_again false f o l = append-nil _ ∙ words_again f 4 o l

module _ (kind : ℕ) (f : List ℕ) (o : Octets f) (some : 1 ≤ byte_at f (zones_at kind)) (most : byte_at f (zones_at kind) ≤ 20) (l : length f ≡ 7 + persons_length kind + 2 * byte_at f (zones_at kind)) where
  abbrev after : ℕ
  after = 9 + persons_length kind

  inner_bytes : words (inner_of (hull_of kind f)) ≡ drop after f
  inner_bytes =
      ap words (inner_words kind f most ∙ tabulate_same (λ i. word_at f (after + 2 * i)) (λ i. word_at (drop after f) (2 * i)) (byte_at f (zones_at kind) - 1) (λ i h. sym (word_drop after (2 * i) f)))
      ∙ words_again (drop after f) (byte_at f (zones_at kind) - 1) (octets_drop after f o) (omega (arith, l, length-drop after f))
      ∙ take_all (2 * (byte_at f (zones_at kind) - 1)) (drop after f) (omega (arith, l, length-drop after f))

  pub hull_bytes_again : hull_bytes (hull_of kind f) ≡ kind ∷ f
  unfolding hull_bytes hull_of
  hull_bytes_again =
      let e : suc (zones_at kind) ≡ after = omega arith in
      ap₂ (λ x y. kind ∷ x ++ byte_at f (zones_at kind) ∷ y) (front_again (eqb kind 6) f o (omega (arith, l))) inner_bytes
      ∙ ap (kind ∷◌) (sym (rw e at (split_at f (zones_at kind) 0 (omega (arith, l)))))

-- ---- from a record that is valid

hull_by : (h : Hull) (L B ds dl n e r m : ℕ) (places : List ℕ) → L ≡ h.length → B ≡ h.breadth → ds ≡ h.deepest → dl ≡ h.light → n ≡ h.lifeboats → e ≡ h.excess → r ≡ h.rule → m ≡ h.zones → places ≡ h.places →
    record { kind = h.kind; length = L; breadth = B; deepest = ds; light = dl; lifeboats = n; excess = e; rule = r; zones = m; places = places } ≡ h
hull_by h L B ds dl n e r m places eL eB es el en ee er em ep = rw (eL, eB, es, el, en, ee, er, em, ep) refl

module _ (h : Hull) (t : ShipType h) (s : Sizes h) (z : Zones h) (p : Placed h) where
  abbrev fields : List ℕ
  fields = fields_of (hull_bytes h)

  abbrev sizes : List ℕ
  sizes = h.length ∷ h.breadth ∷ h.deepest ∷ h.light ∷ persons_of h

  -- the bytes before the zone count
  abbrev front : List ℕ
  front = words sizes ++ rule_of h

  persons_count : (t : Bool) → 2 * length (cond t (h.lifeboats ∷ h.excess ∷ []) []) + length (cond t (h.rule ∷ []) []) ≡ cond t 5 0
  persons_count true = refl
  persons_count false = refl

  front_length : length front ≡ zones_at h.kind
  front_length = rw (length-append (words sizes) (rule_of h)) (omega (arith, words_length sizes, persons_count (eqb h.kind 6)))

  zones_is : byte_at fields (zones_at h.kind) ≡ h.zones
  unfolding hull_bytes
  zones_is = get_or_at front h.zones (words (inner_of h)) 0 (zones_at h.kind) front_length

  -- the inner bulkheads stand after the zone count
  after_zones : drop (9 + persons_length h.kind) fields ≡ words (inner_of h)
  unfolding hull_bytes
  after_zones =
      let e : 9 + persons_length h.kind ≡ zones_at h.kind + 1 = omega arith in
      rw (e, ← drop-drop 1 (zones_at h.kind) (front ++ h.zones ∷ words (inner_of h)), drop_at front (h.zones ∷ words (inner_of h)) (zones_at h.kind) front_length) refl

  many : length h.places ≡ 21
  many = ap length p ∙ length_tabulate (place_of (λ k. get_or h.places k 0) h.zones h.length) 21

  inner_length : length (inner_of h) ≡ h.zones - 1
  inner_length = length_part 1 (h.zones - 1) h.places (omega (arith, many, z.most))

  inner_at : (k : ℕ) → 0 < k → k < h.zones → word_at fields (7 + persons_length h.kind + 2 * k) ≡ get_or h.places k 0
  inner_at k some l =
      let e : 7 + persons_length h.kind + 2 * k ≡ 9 + persons_length h.kind + 2 * (k - 1) = omega arith in
      let q : 1 + (k - 1) ≡ k = omega arith in
      let g : get_or (inner_of h) (k - 1) 0 ≡ get_or h.places k 0 = rw q at (get_d_part 1 (h.zones - 1) (k - 1) h.places 0 (omega arith)) in
      let up : get_or h.places k 0 ≤ get_or h.places h.zones 0 = rising_below h.places h.zones z.rising (omega arith) (le_refl h.zones) in
      rw (e, ← word_drop (9 + persons_length h.kind) (2 * (k - 1)) fields, after_zones)
      (word_at_lem (inner_of h) (k - 1) (omega (arith, inner_length)) (omega (arith, g, up, z.bow, s.short)) ∙ g)

  length_is : word_at fields 0 ≡ h.length
  unfolding hull_bytes word_at bytes
  length_is = omega (arith, s.short)

  breadth_is : word_at fields 2 ≡ h.breadth
  unfolding hull_bytes word_at bytes
  breadth_is = omega (arith, s.narrow)

  deepest_is : word_at fields 4 ≡ h.deepest
  unfolding hull_bytes word_at bytes
  deepest_is = omega (arith, s.shallow)

  light_is : word_at fields 6 ≡ h.light
  unfolding hull_bytes word_at bytes
  light_is = omega (arith, s.shallow, s.lighter)

  lifeboats_are : ShipType h → cond (eqb h.kind 6) (word_at fields 8) 0 ≡ h.lifeboats
  unfolding hull_bytes word_at bytes
  lifeboats_are (cargo k a b r) = rw k (sym a)
  lifeboats_are (passenger k) = rw k (omega (arith, s.lifeboats))

  excess_is : ShipType h → cond (eqb h.kind 6) (word_at fields 10) 0 ≡ h.excess
  unfolding hull_bytes word_at bytes
  excess_is (cargo k a b r) = rw k (sym b)
  excess_is (passenger k) = rw k (omega (arith, s.excess))

  rule_is : ShipType h → cond (eqb h.kind 6) (byte_at fields 12) 0 ≡ h.rule
  unfolding hull_bytes bytes
  rule_is (cargo k a b r) = rw k (sym r)
  rule_is (passenger k) = rw k refl

  places_are : places_of (λ k. word_at fields (7 + persons_length h.kind + 2 * k)) (byte_at fields (zones_at h.kind)) (word_at fields 0) ≡ h.places
  places_are =
      rw (zones_is, length_is)
      (tabulate_same (place_of (λ k. word_at fields (7 + persons_length h.kind + 2 * k)) h.zones h.length) (place_of (λ k. get_or h.places k 0) h.zones h.length) 21
      (λ k l. place_same (λ k. word_at fields (7 + persons_length h.kind + 2 * k)) (λ k. get_or h.places k 0) h.zones h.length k (inner_at k))
      ∙ sym p)

  pub hull_kind : kind_of (hull_bytes h) ≡ h.kind
  unfolding hull_bytes
  hull_kind = refl

  pub hull_again : hull_of (kind_of (hull_bytes h)) (fields_of (hull_bytes h)) ≡ h
  unfolding hull_of
  hull_again = rw hull_kind (hull_by h _ _ _ _ _ _ _ _ _ length_is breadth_is deepest_is light_is (lifeboats_are t) (excess_is t) (rule_is t) zones_is places_are)

  pub hull_length_lem : length (hull_bytes h) ≡ hull_length h.kind h.zones
  unfolding hull_bytes
  hull_length_lem = rw (length-append front (h.zones ∷ words (inner_of h))) (omega (arith, front_length, words_length (inner_of h), inner_length, z.some))

  rule_octets : (t : Bool) → Octets (cond t (h.rule ∷ []) [])
  rule_octets true = octets_cons h.rule [] (omega (arith, s.rule)) (words_octets [])
  rule_octets false = words_octets []

  pub hull_octets : Octets (hull_bytes h)
  unfolding hull_bytes
  hull_octets =
      octets_cons h.kind (front ++ h.zones ∷ words (inner_of h)) (small (of_ship_type t))
      (octets_append front (h.zones ∷ words (inner_of h)) (octets_append (words sizes) (rule_of h) (words_octets sizes) (rule_octets (eqb h.kind 6)))
      (octets_cons h.zones (words (inner_of h)) (omega (arith, z.most)) (words_octets (inner_of h))))
    where
      small : HullKind h.kind → h.kind < 256
      small (of_cargo k) = omega arith
      small (of_passengers k) = omega arith
