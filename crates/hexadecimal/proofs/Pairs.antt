-- A line of digits and its bytes: the way there and back, and the line's pairs one by one. Assumes nothing.
use Prim.Native.Nat.{ℕ, ◌+◌, ◌*◌, ◌/◌, ◌%◌, ◌<◌}
use mathlib.Core.Path.{◌≡◌, refl, ◌∙◌, ap}
use mathlib.Core.Bool.{true, ◌&&◌, false≢true}
use mathlib.Core.List.{List, [], ◌∷◌, ◌++◌, append_assoc}
use native.Mathlib.Omega.{arith}
use lib.Dec.{ltb, eqb, lit<}
use lib.ListN.{length}
use borrow.Author.Tests.{lt-ltb, ltb-true, eq-eqb, eqb-true}
use Rattle.laws.specs.Bytes.{Octets}
use Rattle.laws.proofs.Bytes.{octets_cons, octets_rest}
use Rattle.laws.proofs.Tests.{both}
use Rattle.lines.specs.Lines.{lines}
use Rattle.lines.proofs.Lines.{NoFeed, lines_closed}
use Rattle.std.specs.Prelude.{Option, Some, None}
use Rattle.hexadecimal.specs.Hex.{digit_of, refusal_of, pair_of, before, pairs, digits_only, proper, hex, line_of}
use Rattle.hexadecimal.proofs.Hex.{value_of_digit, digit_no_feed, pair_below, pair_again, pair_of_digits}

-- ---- bytes to digits

pub length_hex : (bs : List ℕ) → length (hex bs) ≡ length bs * 2
unfolding hex
length_hex [] = refl
length_hex (b ∷ bs) = omega (arith, length_hex bs)

pub pairs_hex : (bs : List ℕ) → Octets bs → pairs (hex bs) ≡ bs
unfolding pairs hex
pairs_hex [] o = refl
pairs_hex (b ∷ bs) o = rw (pair_of_digits b (o 0), pairs_hex bs (octets_rest b bs o)) refl

digits_of_hex : (bs : List ℕ) → Octets bs → digits_only (hex bs) ≡ true
unfolding digits_only hex
digits_of_hex [] o = refl
digits_of_hex (b ∷ bs) o =
    let h : b < 256 = o 0 in
    rw (value_of_digit (b / 16) (omega arith), value_of_digit (b % 16) (omega arith), digits_of_hex bs (octets_rest b bs o)) refl

pub proper_hex : (bs : List ℕ) → Octets bs → 0 < length bs → proper (hex bs) ≡ true
unfolding proper
proper_hex bs o h =
    rw (lt-ltb 0 (length (hex bs)) (omega (arith, length_hex bs)), eq-eqb (length (hex bs) % 2) 0 (omega (arith, length_hex bs)), digits_of_hex bs o) refl

feedless : (bs : List ℕ) → Octets bs → NoFeed (hex bs)
unfolding hex
feedless [] o = tt
feedless (b ∷ bs) o =
    let h : b < 256 = o 0 in
    (digit_no_feed (b / 16) (omega arith), (digit_no_feed (b % 16) (omega arith), feedless bs (octets_rest b bs o)))

-- a frame's line in front of a text is its first
pub line_in_front : (frame text : List ℕ) → Octets frame → lines (line_of frame ++ text) ≡ record { text = hex frame; closed = true } ∷ lines text
unfolding line_of
line_in_front frame text o = ap lines (append_assoc (hex frame) (10 ∷ []) text) ∙ lines_closed (hex frame) text (feedless frame o)

-- ---- digits to bytes

front_octets : (d : Option ℕ) (bs : List ℕ) → ((x : ℕ) → d ≡ Some x → x < 256) → Octets bs → Octets (before d bs)
front_octets (Some x) bs h o = octets_cons x bs (h x refl) o
front_octets None bs h o = λ i. lit< tt

pub pairs_octets : (s : List ℕ) → Octets (pairs s)
unfolding pairs
pairs_octets [] = λ i. lit< tt
pairs_octets (a ∷ []) = λ i. lit< tt
pairs_octets (a ∷ b ∷ s) = front_octets (pair_of a b) (pairs s) (pair_below a b) (pairs_octets s)

value_is : (d : Option ℕ) → eqb (refusal_of d) 0 ≡ true → (v : ℕ) × (d ≡ Some v)
value_is (Some v) e = (v, refl)
value_is None e = absurd (false≢true e)

first_digit : (b : ℕ) (s : List ℕ) → digits_only (b ∷ s) ≡ true → (v : ℕ) × (digit_of b ≡ Some v) × (digits_only s ≡ true)
unfolding digits_only
first_digit b s e =
    let (d, r) = both (eqb (refusal_of (digit_of b)) 0) (digits_only s) e in
    let (v, p) = value_is (digit_of b) d in
    (v, p, r)

-- two digits in front write a byte
pub first_pair : (a b : ℕ) (s : List ℕ) → digits_only (a ∷ b ∷ s) ≡ true → (x : ℕ) × (pair_of a b ≡ Some x) × (digits_only s ≡ true)
unfolding pair_of
first_pair a b s e =
    let (h, p, r) = first_digit a (b ∷ s) e in
    let (l, q, t) = first_digit b s r in
    (h * 16 + l, rw (p, q) refl, t)

-- an even number of digits and nothing else
digits_again : (s : List ℕ) → digits_only s ≡ true → length s % 2 ≡ 0 → hex (pairs s) ≡ s
unfolding pairs hex
digits_again [] e k = refl
digits_again (a ∷ []) e k = absurd (omega arith)
digits_again (a ∷ b ∷ s) e k =
    let (x, p, t) = first_pair a b s e in
    rw (p, digits_again s t (omega arith)) (ap (λ (t : List ℕ). t ++ s) (pair_again a b x p))

half_as_many : (s : List ℕ) → digits_only s ≡ true → length s % 2 ≡ 0 → length (pairs s) * 2 ≡ length s
unfolding pairs
half_as_many [] e k = refl
half_as_many (a ∷ []) e k = absurd (omega arith)
half_as_many (a ∷ b ∷ s) e k =
    let (x, p, t) = first_pair a b s e in
    rw p (omega (arith, half_as_many s t (omega arith)))

module _ (s : List ℕ) (e : proper s ≡ true) where
  pub proper_parts : (0 < length s) × (length s % 2 ≡ 0) × (digits_only s ≡ true)
  unfolding proper
  proper_parts =
      let (p, d) = both (ltb 0 (length s) && eqb (length s % 2) 0) (digits_only s) e in
      let (n, k) = both (ltb 0 (length s)) (eqb (length s % 2) 0) p in
      (ltb-true 0 (length s) n, eqb-true (length s % 2) 0 k, d)

  pub hex_pairs : hex (pairs s) ≡ s
  hex_pairs = digits_again s proper_parts.2 proper_parts.1

  pub length_pairs : length (pairs s) * 2 ≡ length s
  length_pairs = half_as_many s proper_parts.2 proper_parts.1

  pub pairs_some : 0 < length (pairs s)
  pairs_some = omega (arith, length_pairs, proper_parts.0)
