-- Lines: where the first one ends, what is left after it, and the bytes that lines came from. Assumes nothing.
use Prim.Native.Nat.{ℕ, zero, suc, ◌+◌, ◌-◌, ◌≤◌, ◌<◌}
use mathlib.Core.Path.{◌≡◌, refl, sym, ◌∙◌, ap, ap₂}
use mathlib.Core.Bool.{Bool, true, false, cond, ◌||◌, or-false, or_assoc}
use mathlib.Core.List.{List, [], ◌∷◌, ◌++◌}
use native.Mathlib.Numerals.{add-one}
use native.Mathlib.Omega.{arith}
use lib.Dec.{eqb, ltb, leb-suc-suc}
use lib.ListN.{length, get_or, take, drop, length-drop, length-append, drop_of_length-le}
use lib.Seq.{drop-cons, drop-drop, take_all, take_at, drop_at}
use borrow.Author.Tests.{eq-eqb, ne_eqb, lt-ltb, le-ltb, ltb-true, eqb-true}
use Rattle.std.specs.Option.{unwrap_or}
use Rattle.std.specs.List.{AllWithin, HoldsAt}
use Rattle.std.proofs.Common.{Option, MatchOption}
use Rattle.std.proofs.lemmas.Iterator.{index_from_first}
use Rattle.laws.proofs.Tests.{neither, same_test}
use Rattle.lines.specs.Lines.{Line, onto, lines, line_length, has_feed}
-- checked first, so that a definition that gives other lines is refused there
use Rattle.lines.proofs.Examples.{two_and_a_rest}

-- ---- the length of the first line, byte by byte

module _ (f : List ℕ) (i : ℕ) where
  pub length_stops : i < length f → get_or f i 0 ≡ 10 → line_length (drop i f) ≡ 0
  unfolding line_length
  length_stops h e = rw (drop-cons f i 0 h, eq-eqb (get_or f i 0) 10 e) refl

  pub length_goes_on : i < length f → (get_or f i 0 ≡ 10 → ⊥) → line_length (drop i f) ≡ suc (line_length (drop (i + 1) f))
  unfolding line_length
  length_goes_on h e = rw (add-one, drop-cons f i 0 h, ne_eqb (get_or f i 0) 10 e) refl

  pub length_ends : length f ≤ i → line_length (drop i f) ≡ 0
  unfolding line_length
  length_ends h = rw (drop_of_length-le f h) refl

-- one byte more that may be a line feed
pub feed_taken : (g : List ℕ) (k : ℕ) → k < length g → (has_feed (take k g) || eqb (get_or g k 0) 10) ≡ has_feed (take (suc k) g)
unfolding has_feed
feed_taken [] k h = absurd (omega arith)
feed_taken (b ∷ g) zero h = sym (or-false (eqb b 10))
feed_taken (b ∷ g) (suc k) h = or_assoc (eqb b 10) (has_feed (take k g)) (eqb (get_or g k 0) 10) ∙ ap (eqb b 10 ||◌) (feed_taken g k (omega arith))

-- n bytes at a time
length_past : (n : ℕ) (g : List ℕ) → n ≤ length g → has_feed (take n g) ≡ false → line_length g ≡ n + line_length (drop n g)
unfolding has_feed line_length
length_past zero g h e = omega arith
length_past (suc n) [] h e = absurd (omega arith)
length_past (suc n) (b ∷ g) h e = let (p, q) = neither (eqb b 10) (has_feed (take n g)) e in rw p (omega (arith, length_past n g (omega arith) q))

module _ (f : List ℕ) (i : ℕ) where
  pub feedless_go_on : (n : ℕ) → i + n ≤ length f → has_feed (take n (drop i f)) ≡ false → i + n + line_length (drop (i + n) f) ≡ i + line_length (drop i f)
  feedless_go_on n h e = rw (← drop-drop n i f) (omega (arith, length_past n (drop i f) (omega (arith, length-drop i f)) e))

-- a run of n bytes from a place on, and what follows it
module _ (f : List ℕ) (past n : ℕ) (run rest : List ℕ) (e : drop past f ≡ run ++ rest) (l : length run ≡ n) (h : past ≤ length f) where
  pub run_within : past + n ≤ length f
  run_within = omega (arith, length-drop past f, ap length e, length-append run rest)

  pub run_leaves : rest ≡ drop (past + n) f
  run_leaves = sym (drop_at run rest n l) ∙ sym (ap (drop n) e) ∙ drop-drop n past f

  pub run_feedless : has_feed run ≡ false → past + n + line_length (drop (past + n) f) ≡ past + line_length (drop past f)
  run_feedless t = feedless_go_on f past n run_within (ap has_feed (ap (take n) e ∙ take_at run rest n l) ∙ t)

-- all that is left from a place on
pub all_left : (k : ℕ) (f : List ℕ) → take (length f - k) (drop k f) ≡ drop k f
all_left k f = take_all (length f - k) (drop k f) (omega (arith, length-drop k f))

-- the place of the first line feed, or where the bytes end
pub length_found : (f : List ℕ) (r : Option ℕ) → MatchOption r (AllWithin (λ b. b ≡ 10 → ⊥) f 0 (length f)) (λ i. (i < length f) × HoldsAt (λ b. b ≡ 10) f i × AllWithin (λ b. b ≡ 10 → ⊥) f 0 i) →
    line_length f ≡ unwrap_or r (length f)
unfolding line_length
length_found f r = index_from_first line_length (λ b. b ≡ 10) (λ b. b ≡ 10 → ⊥) refl (λ b g e. rw (eq-eqb b 10 e) refl) (λ b g e. rw (add-one, ne_eqb b 10 e) refl) f r

pub length_within : (f : List ℕ) → line_length f ≤ length f
unfolding line_length
length_within [] = omega arith
length_within (b ∷ f) = by (eqb b 10) (length_within f)
  where
    by : (t : Bool) → line_length f ≤ length f → cond t 0 (suc (line_length f)) ≤ suc (length f)
    by true h = omega arith
    by false h = omega arith

-- ---- the first line and the rest

-- the line of the first n bytes of f: closed where there is a byte more, which is the line feed
abbrev pub line_to : ℕ → List ℕ → Line
line_to n f = record { text = take n f; closed = ltb n (length f) }

next_closed : (m n : ℕ) → ltb (suc m) (suc n) ≡ ltb m n
next_closed m n = leb-suc-suc (suc m) n

-- a byte b before the lines of g
put : (b : ℕ) (g : List ℕ) (t : Bool) → onto b (lines g) ≡ line_to (suc (line_length g)) (b ∷ g) ∷ lines (drop (suc (line_length g)) g) →
    cond t (record { text = []; closed = true } ∷ lines g) (onto b (lines g)) ≡ line_to (cond t 0 (suc (line_length g))) (b ∷ g) ∷ lines (drop (suc (cond t 0 (suc (line_length g)))) (b ∷ g))
put b g true e = rw (lt-ltb 0 (suc (length g)) (omega arith)) refl
put b g false e = e

first_line : (b : ℕ) (f : List ℕ) → lines (b ∷ f) ≡ line_to (line_length (b ∷ f)) (b ∷ f) ∷ lines (drop (suc (line_length (b ∷ f))) (b ∷ f))
unfolding lines line_length
first_line b [] = put b [] (eqb b 10) refl
first_line b (c ∷ f) =
    put b (c ∷ f) (eqb b 10) (rw (first_line c f, next_closed (line_length (c ∷ f)) (length (c ∷ f))) refl)

first_of : (f : List ℕ) → 0 < length f → lines f ≡ line_to (line_length f) f ∷ lines (drop (suc (line_length f)) f)
first_of [] h = absurd (omega arith)
first_of (b ∷ f) h = first_line b f

beyond : (end at n : ℕ) → at ≤ end → ltb (end - at) (n - at) ≡ ltb end n
beyond end at n h =
    same_test (ltb (end - at) (n - at)) (ltb end n)
    (λ e. lt-ltb end n (omega (arith, ltb-true (end - at) (n - at) e)))
    (λ e. lt-ltb (end - at) (n - at) (omega (arith, ltb-true end n e)))

-- from a place of the input on
module _ (f : List ℕ) (at : ℕ) where
  pub lines_end : length f ≤ at → lines (drop at f) ≡ []
  unfolding lines
  lines_end h = rw (drop_of_length-le f h) refl

  -- where the line's end is at `end`
  pub lines_next : (end : ℕ) → end ≡ at + line_length (drop at f) → at < length f →
      lines (drop at f) ≡ record { text = take (end - at) (drop at f); closed = ltb end (length f) } ∷ lines (drop (end + 1) f)
  lines_next end e h =
      let n : end - at ≡ line_length (drop at f) = omega arith in
      let k : at + suc (end - at) ≡ end + 1 = omega (arith, e) in
      let c : ltb (end - at) (length (drop at f)) ≡ ltb end (length f) = rw (length-drop at f) (beyond end at (length f) (omega arith)) in
      first_of (drop at f) (omega (arith, length-drop at f)) ∙ rw (← n, drop-drop (suc (end - at)) at f, k, c) refl

  pub end_within : at ≤ length f → at + line_length (drop at f) ≤ length f
  end_within h = omega (arith, length_within (drop at f), length-drop at f)

-- ---- no more lines than bytes

onto_few : (b : ℕ) (ls : List Line) → length (onto b ls) ≤ length ls + 1
onto_few b [] = omega arith
onto_few b (l ∷ ls) = omega arith

pub lines_few : (f : List ℕ) → length (lines f) ≤ length f
unfolding lines
lines_few [] = omega arith
lines_few (b ∷ f) = by (eqb b 10) (lines_few f)
  where
    by : (t : Bool) → length (lines f) ≤ length f → length (cond {A = List Line} t (record { text = []; closed = true } ∷ lines f) (onto b (lines f))) ≤ length (b ∷ f)
    by true h = omega (arith, h)
    by false h = omega (arith, h, onto_few b (lines f))

-- and fewer by what the first one holds
onto_fewer : (b n : ℕ) (d : Line) (ls : List Line) → length ls + length (get_or ls 0 d).text ≤ n + 1 + length d.text → length (onto b ls) + length (get_or (onto b ls) 0 d).text ≤ n + 2 + length d.text
onto_fewer b n d [] h = omega arith
onto_fewer b n d (l ∷ ls) h = omega arith

pub lines_fewer : (f : List ℕ) (d : Line) → length (lines f) + length (get_or (lines f) 0 d).text ≤ length f + 1 + length d.text
unfolding lines
lines_fewer [] d = omega arith
lines_fewer (b ∷ f) d = by (eqb b 10) (lines_fewer f d)
  where
    by : (t : Bool) → length (lines f) + length (get_or (lines f) 0 d).text ≤ length f + 1 + length d.text →
        (let ls : List Line = cond t (record { text = []; closed = true } ∷ lines f) (onto b (lines f)) in length ls + length (get_or ls 0 d).text ≤ length (b ∷ f) + 1 + length d.text)
    by true h = omega (arith, lines_few f)
    by false h = omega (arith, onto_fewer b (length f) d (lines f) h)

-- ---- the bytes that lines came from

-- a line with its line feed
abbrev pub written : Line → List ℕ
written l = l.text ++ cond l.closed (10 ∷ []) []

abbrev pub together : List Line → List ℕ
together [] = []
together (l ∷ ls) = written l ++ together ls

together_onto : (b : ℕ) (ls : List Line) → together (onto b ls) ≡ b ∷ together ls
together_onto b [] = refl
together_onto b (l ∷ ls) = refl

pub together_lines : (f : List ℕ) → together (lines f) ≡ f
unfolding lines
together_lines [] = refl
together_lines (b ∷ f) = by (eqb b 10) refl (together_lines f)
  where
    by : (t : Bool) → eqb b 10 ≡ t → together (lines f) ≡ f → together (cond t (record { text = []; closed = true } ∷ lines f) (onto b (lines f))) ≡ b ∷ f
    by true e h = ap₂ ◌∷◌ (sym (eqb-true b 10 e)) h
    by false e h = together_onto b (lines f) ∙ ap (b ∷◌) h

-- no byte is a line feed
abbrev pub NoFeed : List ℕ → Type 0
NoFeed [] = Unit {0}
NoFeed (b ∷ s) = (b ≡ 10 → ⊥) × NoFeed s

pub lines_closed : (s f : List ℕ) → NoFeed s → lines (s ++ 10 ∷ f) ≡ record { text = s; closed = true } ∷ lines f
unfolding lines
lines_closed [] f n = refl
lines_closed (b ∷ s) f n = rw (ne_eqb b 10 n.0, lines_closed s f n.1) refl

-- ---- the first line of a text, cut off

module _ (f : List ℕ) (end : ℕ) (e : end ≡ 0 + line_length (drop 0 f)) (some : 0 < length f) where
  first_cut : lines f ≡ record { text = take end f; closed = ltb end (length f) } ∷ lines (drop (suc end) f)
  first_cut = let n : line_length f ≡ end = omega (arith, e) in first_of f some ∙ rw n refl

  module _ {text after : List ℕ} (t : text ≡ take end f) (a : after ≡ drop end f) where
    left : length after ≡ length f - end
    left = ap length a ∙ length-drop end f

    -- where a byte stands after its text, that is its line feed
    pub cut_closed : (x : ℕ) (rest : List ℕ) → after ≡ x ∷ rest → lines f ≡ record { text = text; closed = true } ∷ lines rest
    cut_closed x rest i =
        let l : end < length f = omega (arith, left, ap length i) in
        let others : drop (suc end) f ≡ rest = rw add-one at (sym (drop-drop 1 end f)) ∙ ap (drop 1) (sym a ∙ i) in
        first_cut ∙ rw (lt-ltb end (length f) l, others, t) refl

    -- where none does, nothing is left
    pub cut_open : length after ≡ 0 → lines f ≡ record { text = text; closed = false } ∷ lines after
    cut_open i =
        let l : length f ≤ end = omega (arith, left, i) in
        let none : lines (drop (suc end) f) ≡ [] = lines_end f (suc end) (omega (arith, l)) in
        let nothing : lines after ≡ [] = lines_end after 0 (omega (arith, i)) in
        first_cut ∙ rw (le-ltb end (length f) l, none, nothing, t) refl

-- one line fewer is left
pub one_fewer : (f g : List ℕ) (l : Line) → lines f ≡ l ∷ lines g → length (lines g) < length (lines f)
one_fewer f g l e = omega (arith, ap length e)
