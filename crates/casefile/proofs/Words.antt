-- Words one after the other, and lists of bytes cut into them. Assumes nothing.
use Prim.Native.Nat.{ℕ, zero, suc, ◌+◌, ◌*◌, ◌≤◌, ◌<◌}
use mathlib.Core.Path.{◌≡◌, refl, sym, ◌∙◌, ap}
use mathlib.Core.List.{List, [], ◌∷◌, ◌++◌, append_assoc}
use native.Mathlib.Nat.{le_of_suc-le-suc}
use native.Mathlib.Numerals.{add-one}
use native.Mathlib.Omega.{arith}
use lib.Dec.{lit<}
use lib.ListN.{length, get_or, take, drop, take-append-drop}
use lib.Seq.{take-suc, take-add, drop-cons, ext_get_or}
use Rattle.laws.specs.Lists.{tabulate}
use Rattle.laws.specs.Bytes.{Octets, bytes}
use Rattle.laws.proofs.Lists.{length_tabulate, get_d_tabulate, length_part, get_d_part}
use Rattle.laws.proofs.Bytes.{octets_append, bytes_octets}
use Rattle.fields.specs.Fields.{byte_at, word_at}
use Rattle.fields.proofs.Fields.{bytes_of_word, word_of_bytes}
use Rattle.casefile.specs.Layout.{words}

pub words_append : (xs ys : List ℕ) → words (xs ++ ys) ≡ words xs ++ words ys
words_append [] ys = refl
words_append (x ∷ xs) ys = ap (λ (t : List ℕ). bytes 2 x ++ t) (words_append xs ys) ∙ sym (append_assoc (bytes 2 x) (words xs) (words ys))

pub words_length : (ns : List ℕ) → length (words ns) ≡ 2 * length ns
unfolding bytes
words_length [] = refl
words_length (n ∷ ns) = omega (arith, words_length ns)

-- the first j words of a list of bytes write its first 2j bytes
pub words_again : (rest : List ℕ) (j : ℕ) → Octets rest → 2 * j ≤ length rest → words (tabulate (λ i. word_at rest (2 * i)) j) ≡ take (2 * j) rest
unfolding tabulate
words_again rest zero o h = refl
words_again rest (suc j) o h =
    let two : take 2 (drop (2 * j) rest) ≡ byte_at rest (2 * j) ∷ byte_at rest (2 * j + 1) ∷ [] = rw (drop-cons rest (2 * j) 0 (omega arith), drop-cons rest (suc (2 * j)) 0 (omega arith), add-one (2 * j)) refl in
    let k : 2 * suc j ≡ 2 * j + 2 = omega arith in
    words_append (tabulate (λ i. word_at rest (2 * i)) j) (word_at rest (2 * j) ∷ [])
    ∙ rw (words_again rest j o (omega arith), bytes_of_word rest (2 * j) o, k, take-add (2 * j) 2 rest, two) refl

-- a word stands at its place
pub word_at_lem : (ns : List ℕ) (i : ℕ) → i < length ns → get_or ns i 0 < 65536 → word_at (words ns) (2 * i) ≡ get_or ns i 0
unfolding word_at bytes
word_at_lem [] i l h = absurd (omega arith)
word_at_lem (n ∷ ns) zero l h = word_of_bytes n (words ns) h
word_at_lem (n ∷ ns) (suc i) l h =
    let k : 2 * suc i ≡ suc (suc (2 * i)) = omega arith in
    let q : suc (suc (2 * i)) + 1 ≡ suc (suc (2 * i + 1)) = omega arith in
    rw (k, q) (word_at_lem ns i (le_of_suc-le-suc l) h)

pub words_octets : (ns : List ℕ) → Octets (words ns)
words_octets [] = λ i. lit< tt
words_octets (n ∷ ns) = octets_append (bytes 2 n) (words ns) (bytes_octets 2 n) (words_octets ns)

-- the first n bytes of a list, one by one, and the rest
pub front_bytes : (bs : List ℕ) (n : ℕ) → n ≤ length bs → take n bs ≡ tabulate (λ i. get_or bs i 0) n
unfolding tabulate
front_bytes bs zero h = refl
front_bytes bs (suc n) h = take-suc bs n 0 h ∙ ap (◌++ get_or bs n 0 ∷ []) (front_bytes bs n (omega arith))

pub split_bytes : (bs : List ℕ) (n : ℕ) → n ≤ length bs → bs ≡ tabulate (λ i. get_or bs i 0) n ++ drop n bs
split_bytes bs n h = sym (take-append-drop n bs) ∙ ap (◌++ drop n bs) (front_bytes bs n h)

-- a part of a table
pub part_of_table : {A : Type 0} (d : A) (g : ℕ → A) (a n N : ℕ) → a + n ≤ N → take n (drop a (tabulate g N)) ≡ tabulate (λ i. g (a + i)) n
part_of_table d g a n N h =
    let l : length (take n (drop a (tabulate g N))) ≡ n = length_part a n (tabulate g N) (omega (arith, length_tabulate g N)) in
    ext_get_or d (take n (drop a (tabulate g N))) (tabulate (λ i. g (a + i)) n) (l ∙ sym (length_tabulate (λ i. g (a + i)) n))
    (λ i k.
    let i<n : i < n = omega (arith, l) in
    get_d_part a n i (tabulate g N) d i<n
    ∙ get_d_tabulate g N (a + i) d (omega arith)
    ∙ sym (get_d_tabulate (λ i. g (a + i)) n i d i<n))
