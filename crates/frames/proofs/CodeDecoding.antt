-- What the loop over a line's pairs of digits keeps, and what a caller has of the answer and of the buffer. Assumes nothing.
use Prim.Native.Nat.{ℕ, zero, suc, ◌+◌, ◌-◌, ◌*◌, ◌/◌, ◌%◌, ◌≤◌, ◌<◌}
use mathlib.Core.Path.{◌≡◌, refl, sym, ◌∙◌, ap}
use mathlib.Core.Bool.{Bool, true, false, cond, not, ◌&&◌, ◌||◌}
use mathlib.Core.List.{List, [], ◌∷◌, ◌++◌}
use native.Mathlib.Nat.{zero-add}
use native.Mathlib.Numerals.{add-one}
use native.Mathlib.Omega.{arith}
use lib.Dec.{eqb}
use lib.ListN.{length, get_or, take, drop, set, replicate, length-drop, get_or-replicate}
use lib.Seq.{sets, sets-eq, length-sets, take_at, take-suc, take-add, take-take, take-append-le, drop-append-add, drop-drop, length-take-le}
use Rattle.laws.proofs.Lists.{sets_append}
use Rattle.hexadecimal.specs.Hex.{digit_of, refusal_of, mark_of, pairs, byte_of, bytes_of, digits_only, proper}
use Rattle.hexadecimal.proofs.Marks.{mark_tells, mark_counts}
use Rattle.hexadecimal.proofs.Pairs.{proper_parts, length_pairs, pairs_some}
use Rattle.hexadecimal.proofs.Decode.{length_bytes_of, byte_there, bytes_pairs, digits_taken, digits_joined, proper_by_parts}
use Rattle.std.specs.Prelude.{Some, None}
use Rattle.std.proofs.lemmas.Option.{none-some, cond_some}
use Rattle.frames.specs.Decoding.{mark_at, written_of}

-- ---- i pairs are read, and their bytes stand at the front of out, which came as was

not_both : (a b : Bool) → (not a || not b) ≡ not (a && b)
not_both true b = refl
not_both false b = refl

-- read once and once more
twice_read : (p q r : Bool) → (not (p && q) || not (q && r)) ≡ not (p && (q && r))
twice_read true true r = refl
twice_read true false r = refl
twice_read false true r = refl
twice_read false false r = refl

-- the first a of xs are at the front, and k of them from b on are written over those from there
written_over : (was xs : List ℕ) (a b k : ℕ) → b ≤ a → a ≤ b + k → b + k ≤ length was → b + k ≤ length xs →
    sets (sets was 0 (take a xs)) b (take k (drop b xs)) ≡ sets was 0 (take (b + k) xs)
written_over was xs a b k l m h r =
    let j = b + k - a in
    let far : b + k ≡ a + j = omega arith in
    let some : length (take a xs) ≡ a = length-take-le a xs (omega arith) in
    let part : length (take k (drop b xs)) ≡ k = length-take-le k (drop b xs) (omega (arith, length-drop b xs)) in
    let whole : length (take (b + k) xs) ≡ b + k = length-take-le (b + k) xs r in
    let front = take a xs ++ drop a was in
    let first : sets was 0 (take a xs) ≡ front = sets-eq (take a xs) was 0 (omega arith) ∙ rw (some, zero-add a) refl in
    let long : length front ≡ length was = sym (ap length first) ∙ length-sets was 0 (take a xs) in
    let head : take b front ≡ take b xs = take-append-le b (take a xs) (drop a was) (omega arith) ∙ take-take b a xs l in
    let tail : drop (b + k) front ≡ drop (b + k) was = rw far (ap (λ n. drop (n + j) front) (sym some) ∙ drop-append-add (take a xs) (drop a was) j ∙ drop-drop j a was) in
    ap (λ o. sets o b (take k (drop b xs))) first
    ∙ sets-eq (take k (drop b xs)) front b (omega arith)
    ∙ rw (part, head, tail) (sym (sets-eq (take (b + k) xs) was 0 (omega arith) ∙ rw (whole, zero-add (b + k), take-add b k xs) refl))

-- a digit more that may be none
pub other_taken : (s : List ℕ) (k m : ℕ) → k < length s → m ≡ mark_of (digit_of (get_or s k 0)) → (not (digits_only (take k s)) || eqb m 16) ≡ not (digits_only (take (suc k) s))
other_taken s k m h e = rw (mark_tells (get_or s k 0) m e, digits_taken s k h) (not_both (digits_only (take k s)) (eqb (refusal_of (digit_of (get_or s k 0))) 0))

-- a run of stores changes no length, and goes on by a byte
pub run_long : (was : List ℕ) (i : ℕ) (vs : List ℕ) {out : List ℕ} → out ≡ sets was i vs → length out ≡ length was
run_long was i vs e = ap length e ∙ length-sets was i vs

pub one_stored : (xs was : List ℕ) {out : List ℕ} (i k : ℕ) → k < length xs → out ≡ sets was i (take k xs) → set out (i + k) (get_or xs k 0) ≡ sets was i (take (k + 1) xs)
one_stored xs was i k h e =
    let long : length (take k xs) ≡ k = length-take-le k xs (omega arith) in
    rw (e, add-one k, take-suc xs k 0 h, sets_append was i (take k xs) (get_or xs k 0 ∷ []), long) refl

-- the byte of a pair by its two marks
pub pair_byte : (text : List ℕ) (i h l : ℕ) → i * 2 + 2 ≤ length text → h ≡ mark_at text (i * 2) → l ≡ mark_at text (i * 2 + 1) → h % 16 * 16 + l % 16 ≡ get_or (bytes_of text) i 0
unfolding byte_of
pair_byte text i h l r e f = rw (mark_counts (get_or text (i * 2) 0) h e, mark_counts (get_or text (i * 2 + 1) 0) l f) (sym (byte_there text i r))

pub record Decoding (text was out : List ℕ) (bad : Bool) (i : ℕ) : Type 0 where
  pub other : bad ≡ not (digits_only (take (i * 2) text))
  pub front : out ≡ sets was 0 (take i (bytes_of text))

pub none_read : (text was : List ℕ) → Decoding text was was false 0
unfolding digits_only
none_read text was = record { other = refl; front = refl }

module _ (text was out : List ℕ) (bad : Bool) (i : ℕ) (p : Decoding text was out bad i) where
  pub as_long : length out ≡ length was
  as_long = run_long was 0 (take i (bytes_of text)) p.front

  pub pair_read : (h l : ℕ) → i * 2 + 2 ≤ length text → h ≡ mark_at text (i * 2) → l ≡ mark_at text (i * 2 + 1) →
      Decoding text was (set out i (h % 16 * 16 + l % 16)) (bad || eqb h 16 || eqb l 16) (i + 1)
  pair_read h l r e f =
      let two : (i + 1) * 2 ≡ suc (suc (i * 2)) = omega arith in
      let one : i * 2 + 1 ≡ suc (i * 2) = omega arith in
      let here : 0 + i ≡ i = omega arith in
      let stored : set out i (get_or (bytes_of text) i 0) ≡ sets was 0 (take (i + 1) (bytes_of text)) = rw here at (one_stored (bytes_of text) was 0 i (omega (arith, length_bytes_of text)) p.front) in
      record {
        other = rw (p.other, other_taken text (i * 2) h (omega arith) e, two) (other_taken text (suc (i * 2)) l (omega arith) (rw one at f));
        front = rw (pair_byte text i h l r e f) stored;
      }

  -- so many pairs from a pair on, of which some may have been read before
  pub pairs_read : (b k : ℕ) {new : List ℕ} {t : Bool} → b ≤ i → i ≤ b + k → (b + k) * 2 ≤ length text → b + k ≤ length was →
      t ≡ not (digits_only (take (k * 2) (drop (b * 2) text))) → new ≡ sets out b (take k (drop b (bytes_of text))) → Decoding text was new (bad || t) (b + k)
  pairs_read b k l m h r e f =
      let c = i - b in
      let there : i * 2 ≡ b * 2 + c * 2 = omega arith in
      let further : k * 2 ≡ c * 2 + (k - c) * 2 = omega arith in
      let all : (b + k) * 2 ≡ b * 2 + k * 2 = omega arith in
      let before = take (b * 2) text in
      let again = take (c * 2) (drop (b * 2) text) in
      let more = take ((k - c) * 2) (drop (c * 2) (drop (b * 2) text)) in
      record {
        other = rw (
          p.other,
          e,
          all,
          take-add (b * 2) (k * 2) text,
          there,
          take-add (b * 2) (c * 2) text,
          further,
          take-add (c * 2) ((k - c) * 2) (drop (b * 2) text),
          digits_joined before again,
          digits_joined before (again ++ more),
          digits_joined again more,
        ) (twice_read (digits_only before) (digits_only again) (digits_only more));
        front = f ∙ ap (λ o. sets o b (take k (drop b (bytes_of text)))) p.front ∙ written_over was (bytes_of text) i b k l m r (omega (arith, length_bytes_of text));
      }

-- the answer by the four tests
module _ (text : List ℕ) (k : ℕ) {f r : Bool} (front : f ≡ not (digits_only (take k text))) (rest : r ≡ not (digits_only (drop k text))) where
  pub told_badly : (f || r || eqb (length text % 2) 1 || eqb (length text / 2) 0) ≡ true → None ≡ written_of text
  unfolding written_of
  told_badly t = rw (proper_by_parts text k, rw (front, rest) at t) refl

  pub told_bytes : (f || r || eqb (length text % 2) 1 || eqb (length text / 2) 0) ≡ false → Some (length text / 2) ≡ written_of text
  unfolding written_of
  told_bytes t = rw (proper_by_parts text k, rw (front, rest) at t) refl

-- ---- what a caller has of the answer and of the buffer

module _ (text : List ℕ) where
  pub well_written : (n : ℕ) → written_of text ≡ Some n → (proper text ≡ true) × (n ≡ length (pairs text))
  unfolding written_of
  well_written n e = let (t, k) = cond_some (proper text) (length text / 2) n e in (t, omega (arith, k, length_pairs text t))

  badly_case : (t : Bool) → cond t (Some (length text / 2)) None ≡ None → t ≡ false
  badly_case true f = absurd (none-some (length text / 2) (sym f))
  badly_case false f = refl

  pub badly_written_lem : written_of text ≡ None → proper text ≡ false
  unfolding written_of
  badly_written_lem e = badly_case (proper text) e

-- what is well written is stored pair by pair
pub stored : (text was : List ℕ) {out : List ℕ} (n : ℕ) → written_of text ≡ Some n → out ≡ sets was 0 (bytes_of text) → out ≡ sets was 0 (pairs text)
stored text was n w e = e ∙ ap (sets was 0) (bytes_pairs text (proper_parts text (well_written text n w).0).2)

-- a buffer that is long enough has the bytes at its front
module _ (text was out : List ℕ) (n : ℕ) (w : written_of text ≡ Some n) (e : out ≡ sets was 0 (bytes_of text)) (h : n ≤ length was) where
  pub front_decoded : take n out ≡ pairs text
  front_decoded =
      let count : n ≡ length (pairs text) = (well_written text n w).1 in
      rw (stored text was n w e, sets-eq (pairs text) was 0 (omega arith)) (take_at (pairs text) (drop (0 + length (pairs text)) was) n (sym count))

  pub front_long : n ≡ length (take n out)
  front_long = (well_written text n w).1 ∙ sym (ap length front_decoded)

pub some_bytes : (text : List ℕ) (n : ℕ) → written_of text ≡ Some n → 0 < n
some_bytes text n w = let (e, k) = well_written text n w in omega (arith, pairs_some text e)

sets_beyond : (w : ℕ) (was bs : List ℕ) (i : ℕ) → sets (w ∷ was) (suc i) bs ≡ w ∷ sets was i bs
sets_beyond w was [] i = refl
sets_beyond w was (b ∷ bs) i = sets_beyond w (set was i b) bs (suc i)

-- a buffer of zeros has each of the bytes that goes in, and 0 past the last
pub byte_stored : (n k : ℕ) (bs : List ℕ) → k < n → get_or (sets (replicate n 0) 0 bs) k 0 ≡ get_or bs k 0
byte_stored zero k bs h = absurd (omega arith)
byte_stored (suc n) zero [] h = refl
byte_stored (suc n) (suc k) [] h = get_or-replicate n k 0 0 (omega arith)
byte_stored (suc n) zero (b ∷ bs) h = rw (sets_beyond b (replicate n 0) bs 0) refl
byte_stored (suc n) (suc k) (b ∷ bs) h = rw (sets_beyond b (replicate n 0) bs 0) (byte_stored n k bs (omega arith))
