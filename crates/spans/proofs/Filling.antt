-- The span table, filled span by span, and with zeros behind the last. Assumes nothing.
use mathlib.Core.Path.{◌≡◌, refl, sym, ap, ◌∙◌}
use mathlib.Core.List.{List, ◌++◌, append_assoc, append-nil}
use Prim.Native.Nat.{ℕ, ◌+◌, ◌-◌, ◌*◌, ◌≤◌, ◌<◌}
use native.Mathlib.Numerals.{add-one}
use native.Mathlib.Omega.{arith}
use lib.ListN.{length, get_or, take, drop, replicate, length-append, length-replicate, length-drop, drop_of_length-le}
use lib.Seq.{sets, sets-eq, length-sets, take_at, length-take-le}
use borrow.Rule.Slice.PartMut.{put_mid, Post-is}
use Rattle.records.specs.declared.Hull.{Hull}
use Rattle.spans.specs.declared.SpanEnds.{SpanEnds}
use Rattle.spans.specs.Span.{span_ends}
use Rattle.spans.specs.Hull.{Hulled}
use Rattle.spans.specs.Table.{span_at, numbers_of, joined, ending_with, spans_of, table_of}
use Rattle.spans.proofs.Places.{place_below, place_within}
use Rattle.spans.proofs.Table.{length_spans, span_inside, spans_few}

-- ---- a part written anew

pub part_set : (t vs : List ℕ) (a e : ℕ) {now : List ℕ} → a ≤ e → e ≤ length t → length vs ≡ e - a → now ≡ vs → put_mid a (e - a) t now ≡ sets t a vs
part_set t vs a e l m n q =
    let f : a + length vs ≡ e = omega arith in
    let s = rw f at (sets-eq vs t a (omega arith)) in
    ap (λ z. put_mid a (e - a) t z) q ∙ ap (λ z. take a t ++ (vs ++ z)) (Post-is a e t l) ∙ sym (append_assoc (take a t) vs (drop e t)) ∙ sym s

-- with zeros, as many as it has places
pub part_cleared : (t : List ℕ) (a e : ℕ) {now : List ℕ} → a ≤ e → e ≤ length t → now ≡ replicate (length (take (e - a) (drop a t))) 0
    → put_mid a (e - a) t now ≡ sets t a (replicate (e - a) 0)
part_cleared t a e l m q =
    let n : length (take (e - a) (drop a t)) ≡ e - a = length-take-le (e - a) (drop a t) (omega (arith, length-drop a t)) in
    part_set t (replicate (e - a) 0) a e l m (length-replicate (e - a) 0) (rw n at q)

-- ---- spans

-- those before the span from zone i to zone j stand in front, k numbers in all
pub record Begun (h : Hull) (t : List ℕ) (i j k : ℕ) : Type 0 where
  pub order : i ≤ j + 1
  pub place : k ≡ 2 * j * (j + 1) + 4 * i
  pub long : length t ≡ 840
  pub front : take k t ≡ spans_of h j ++ ending_with h j i

-- stores at the end of what stands in front
front_stored : (vs t : List ℕ) (k : ℕ) → k + length vs ≤ length t → take (k + length vs) (sets t k vs) ≡ take k t ++ vs
front_stored vs t k l =
    rw (sets-eq vs t k l)
    (take_at (take k t ++ vs) (drop (k + length vs) t) (k + length vs) (length-append (take k t) vs ∙ ap (λ z. z + length vs) (length-take-le k t (omega arith))))

pub none_begun : (h : Hull) (t : List ℕ) → length t ≡ 840 → Begun h t 0 0 0
unfolding spans_of ending_with joined
none_begun h t l = record { order = omega arith; place = refl; long = l; front = refl }

module _ {h : Hull} {t : List ℕ} {i j k : ℕ} (s : Hulled h) (b : Begun h t i j k) where
  -- a span of the hull lies within the ship, and there is room for it
  module _ (m : i ≤ j) (l : j < h.zones) where
    pub span_within : (1 ≤ h.length) × (h.length ≤ 19800) × (get_or h.places i 0 ≤ get_or h.places (j + 1) 0) × (get_or h.places (j + 1) 0 ≤ h.length)
    span_within = (omega (arith, s.long), s.short, place_below s (omega arith) (omega arith), place_within s (omega arith))

    pub room : k + 4 ≤ 840
    room = omega (arith, span_inside h h.zones i j m l, spans_few h s, b.place)

    pub next_begun : {e : SpanEnds} {now : List ℕ} → e ≡ span_ends h.length (get_or h.places i 0) (get_or h.places (j + 1) 0) → now ≡ sets t k (numbers_of e)
        → Begun h now (i + 1) j (k + 4)
    unfolding ending_with joined span_at
    next_begun {e} {now} q w =
        record {
          order = omega arith;
          place = omega (arith, b.place);
          long = ap length w ∙ length-sets t k (numbers_of e) ∙ b.long;
          front =
              rw (w, q, add-one i)
              (front_stored (numbers_of (span_at h i j)) t k (omega (arith, room, b.long))
              ∙ ap (λ z. z ++ numbers_of (span_at h i j)) b.front
              ∙ append_assoc (spans_of h j) (ending_with h j i) (numbers_of (span_at h i j)));
        }

-- the spans that end with zone j stand
pub zone_begun : {h : Hull} {t : List ℕ} {i j k : ℕ} → i ≡ j + 1 → Begun h t i j k → Begun h t 0 (j + 1) k
unfolding spans_of ending_with joined
zone_begun {j = j} e b =
    record {
      order = omega arith;
      place = omega (arith, b.place);
      long = b.long;
      front = rw (append-nil, add-one j) (rw e at b.front);
    }

-- all spans stand
module _ {h : Hull} {t : List ℕ} {k : ℕ} (s : Hulled h) (b : Begun h t 0 h.zones k) where
  all_places : k ≡ length (spans_of h h.zones)
  all_places = omega (arith, b.place, length_spans h h.zones)

  pub places_left : k ≤ 840
  places_left = omega (arith, all_places, spans_few h s)

  pub all_begun : {now : List ℕ} → now ≡ sets t k (replicate (840 - k) 0) → now ≡ table_of h
  unfolding table_of ending_with joined
  all_begun w =
      let zeros : List ℕ = replicate (840 - k) 0 in
      let q : k + length zeros ≡ 840 = omega (arith, length-replicate {A = ℕ} (840 - k) 0, places_left) in
      w ∙ sets-eq zeros t k (omega (arith, q, b.long))
      ∙ rw (q, drop_of_length-le t {i = 840} (omega (arith, b.long)), append-nil, b.front, append-nil, all_places)
