-- What a row's line tells of its results, as numbers and as bytes: the fields that stand after a, n, b and H. Assumes nothing.
use Prim.Native.Nat.{ℕ, ◌+◌, ◌*◌, ◌≤◌}
use mathlib.Core.Path.{◌≡◌, refl, sym, ◌∙◌, ap, ap₂}
use mathlib.Core.Bool.{Bool, true, false, cond}
use mathlib.Core.List.{List, [], ◌∷◌, ◌++◌, append-nil, append_assoc}
use native.Mathlib.Nat.{add-zero}
use native.Mathlib.Omega.{arith}
use lib.Dec.{eqb}
use lib.IntN.{pos}
use lib.ListN.{length, take, drop, length-drop}
use lib.Seq.{take-add, get_or-drop, drop-drop}
use Rattle.laws.specs.Bytes.{Octets}
use Rattle.laws.specs.Lists.{tabulate}
use Rattle.laws.proofs.Lists.{tabulate_same, tabulate_add}
use Rattle.records.specs.declared.Finding.{Finding}
use Rattle.fields.specs.Fields.{word_at, signed_at, unsigned}
use Rattle.fields.proofs.Fields.{octets_drop, word_below, word_drop, bytes_of_word}
use Rattle.fields.proofs.Long.{long_drop, bytes_of_long}
use Rattle.fields.proofs.Signed.{unsigned_signed}
use Rattle.casefile.specs.Layout.{result_length, finding_of, set_of, flooding_of, floodings_of, results_of, finding_numbers, findings_numbers, flooding_numbers, floodings_numbers, result_numbers, words, finding_bytes, findings_bytes, flooding_bytes, floodings_bytes}
use Rattle.casefile.specs.Answer.{besides}
use Rattle.casefile.proofs.Words.{words_append, words_again, front_bytes}
use Rattle.casefile.proofs.RowKinds.{RowKind, one_set, survivals, two_sets_lem, passenger}

-- ---- findings

-- words from a place on
words_from : (k n : ℕ) (f : List ℕ) → tabulate (λ i. word_at (drop k f) (2 * i)) n ≡ tabulate (λ i. word_at f (k + 2 * i)) n
words_from k n f = tabulate_same (λ i. word_at (drop k f) (2 * i)) (λ i. word_at f (k + 2 * i)) n (λ i h. word_drop k (2 * i) f)

-- one draught's result: a number of kind 03, four of another
finding_numbers_lem : (kind : ℕ) (f : List ℕ) → Octets f → finding_numbers kind (finding_of kind f) ≡ tabulate (λ i. word_at f (2 * i)) (cond (eqb kind 3) 1 4)
unfolding finding_of tabulate
finding_numbers_lem kind f o = by (eqb kind 3)
  where
    by : (t : Bool) →
        (let r : Finding = cond t (record { lever = 0; range = 0; heel = 0; opening = pos 0; given = word_at f 0 }) (record { lever = word_at f 0; range = word_at f 2; heel = word_at f 4; opening = signed_at f 6; given = 0 }) in
        cond t (r.given ∷ []) (r.lever ∷ r.range ∷ r.heel ∷ unsigned r.opening ∷ []) ≡ tabulate (λ i. word_at f (2 * i)) (cond t 1 4))
    by true = refl
    by false = rw (unsigned_signed (word_at f 6) (word_below f 6 o)) refl

-- a set of three
set_numbers : (kind : ℕ) (f : List ℕ) → Octets f → findings_numbers kind (set_of kind f) ≡ tabulate (λ i. word_at f (2 * i)) (cond (eqb kind 3) 3 12)
unfolding set_of tabulate
set_numbers kind f o =
    rw (finding_numbers_lem kind f o, finding_numbers_lem kind (drop (result_length kind) f) (octets_drop (result_length kind) f o), finding_numbers_lem kind (drop (2 * result_length kind) f) (octets_drop (2 * result_length kind) f o))
    (by (eqb kind 3))
  where
    by : (t : Bool) →
        tabulate (λ i. word_at f (2 * i)) (cond t 1 4) ++ (tabulate (λ i. word_at (drop (cond t 2 8) f) (2 * i)) (cond t 1 4) ++ (tabulate (λ i. word_at (drop (2 * cond t 2 8) f) (2 * i)) (cond t 1 4) ++ []))
        ≡ tabulate (λ i. word_at f (2 * i)) (cond t 3 12)
    by true = rw (word_drop 2 0 f, word_drop 4 0 f) refl
    by false = rw (word_drop 8 0 f, word_drop 8 2 f, word_drop 8 4 f, word_drop 8 6 f, word_drop 16 0 f, word_drop 16 2 f, word_drop 16 4 f, word_drop 16 6 f) refl

findings_append : (kind : ℕ) (rs ss : List Finding) → findings_numbers kind (rs ++ ss) ≡ findings_numbers kind rs ++ findings_numbers kind ss
findings_append kind [] ss = refl
findings_append kind (r ∷ rs) ss =
    ap (finding_numbers kind r ++◌) (findings_append kind rs ss) ∙ sym (append_assoc (finding_numbers kind r) (findings_numbers kind rs) (findings_numbers kind ss))

-- how many numbers the findings of a row have
abbrev pub finding_words : ℕ → ℕ
finding_words kind = cond (eqb kind 3) 3 (cond (eqb kind 5) 24 12)

pub findings_read : {kind : ℕ} (f : List ℕ) → Octets f → RowKind kind → findings_numbers kind (results_of kind f).findings ≡ tabulate (λ i. word_at f (6 + 2 * i)) (finding_words kind)
unfolding results_of
findings_read f o (one_set k) = rw (k, append-nil (set_of 2 (drop 6 f))) (set_numbers 2 (drop 6 f) (octets_drop 6 f o) ∙ words_from 6 12 f)
findings_read f o (survivals k) = rw (k, append-nil (set_of 3 (drop 6 f))) (set_numbers 3 (drop 6 f) (octets_drop 6 f o) ∙ words_from 6 3 f)
findings_read f o (two_sets_lem k) =
    rw (k, findings_append 5 (set_of 5 (drop 6 f)) (set_of 5 (drop 30 f)), tabulate_add (λ i. word_at f (6 + 2 * i)) 12 12)
    (ap₂ ◌++◌ (set_numbers 5 (drop 6 f) (octets_drop 6 f o) ∙ words_from 6 12 f)
    (set_numbers 5 (drop 30 f) (octets_drop 30 f o)
    ∙ words_from 30 12 f
    ∙ tabulate_same (λ i. word_at f (30 + 2 * i)) (λ i. word_at f (6 + 2 * (12 + i))) 12 (λ i h. ap (word_at f) (omega arith))))
findings_read f o (passenger k) = rw (k, append-nil (set_of 7 (drop 6 f))) (set_numbers 7 (drop 6 f) (octets_drop 6 f o) ∙ words_from 6 12 f)

-- their bytes are those numbers' words, and so the bytes that they are read from
findings_words : (kind : ℕ) (rs : List Finding) → findings_bytes kind rs ≡ words (findings_numbers kind rs)
unfolding finding_bytes
findings_words kind [] = refl
findings_words kind (r ∷ rs) = ap (finding_bytes kind r ++◌) (findings_words kind rs) ∙ sym (words_append (finding_numbers kind r) (findings_numbers kind rs))

pub findings_written : {kind : ℕ} (f : List ℕ) → Octets f → RowKind kind → 6 + 2 * finding_words kind ≤ length f →
    findings_bytes kind (results_of kind f).findings ≡ take (2 * finding_words kind) (drop 6 f)
findings_written {kind} f o k l =
    findings_words kind (results_of kind f).findings
    ∙ ap words (findings_read f o k ∙ sym (words_from 6 (finding_words kind) f))
    ∙ words_again (drop 6 f) (finding_words kind) (octets_drop 6 f o) (omega (arith, length-drop 6 f))

-- ---- floodings

besides_from : (k : ℕ) (f : List ℕ) → flooding_numbers (flooding_of (drop k f)) ≡ besides f k
unfolding flooding_of
besides_from k f = rw (long_drop k 0 f, long_drop k 4 f, word_drop k 8 f, word_drop k 10 f, word_drop k 12 f, get_or-drop k f 14 0, add-zero k) refl

pub floodings_read : (f : List ℕ) → floodings_numbers (floodings_of (drop 30 f)) ≡ besides f 30 ++ besides f 45 ++ besides f 60
unfolding floodings_of
floodings_read f =
    let at : (k : ℕ) → flooding_numbers (flooding_of (drop k (drop 30 f))) ≡ besides f (30 + k) = λ k. ap (λ t. flooding_numbers (flooding_of t)) (drop-drop k 30 f) ∙ besides_from (30 + k) f in
    ap₂ ◌++◌ (besides_from 30 f) (ap₂ ◌++◌ (at 15) (ap (◌++ []) (at 30)))

flooding_written : (f : List ℕ) → Octets f → 15 ≤ length f → flooding_bytes (flooding_of f) ≡ take 15 f
unfolding flooding_of flooding_bytes tabulate
flooding_written f o l = rw (bytes_of_long f 0 o, bytes_of_long f 4 o, bytes_of_word f 8 o, bytes_of_word f 10 o, bytes_of_word f 12 o) (sym (front_bytes f 15 l))

pub floodings_written : (f : List ℕ) → Octets f → 45 ≤ length f → floodings_bytes (floodings_of f) ≡ take 45 f
unfolding floodings_of
floodings_written f o l =
    rw (flooding_written f o (omega arith), flooding_written (drop 15 f) (octets_drop 15 f o) (omega (arith, length-drop 15 f)), flooding_written (drop 30 f) (octets_drop 30 f o) (omega (arith, length-drop 30 f)), append-nil (take 15 (drop 30 f)))
    (ap (take 15 f ++◌) (ap (λ t. take 15 (drop 15 f) ++ take 15 t) (sym (drop-drop 15 15 f)) ∙ sym (take-add 15 15 (drop 15 f))) ∙ sym (take-add 15 30 f))

-- ---- a row's results

pub results_read : {kind : ℕ} (f : List ℕ) → Octets f → RowKind kind →
    result_numbers kind (results_of kind f) ≡ tabulate (λ i. word_at f (6 + 2 * i)) (finding_words kind) ++ cond (eqb kind 7) (besides f 30 ++ besides f 45 ++ besides f 60) []
unfolding results_of
results_read {kind} f o k = ap₂ ◌++◌ (findings_read f o k) (by (eqb kind 7))
  where
    by : (t : Bool) → floodings_numbers (cond t (floodings_of (drop 30 f)) []) ≡ cond t (besides f 30 ++ besides f 45 ++ besides f 60) []
    by true = floodings_read f
    by false = refl
