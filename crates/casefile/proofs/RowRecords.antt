-- A row's results as records: the bytes that they are written as are read as them again, how many these are, and that each is one. Assumes nothing.
use Prim.Native.Nat.{ℕ, ◌+◌, ◌*◌, ◌/◌, ◌%◌}
use mathlib.Core.Path.{◌≡◌, refl, sym, ◌∙◌, ap}
use mathlib.Core.Bool.{false}
use mathlib.Core.List.{List, [], ◌∷◌, ◌++◌}
use mathlib.Core.Logic.{inl, inr}
use native.Mathlib.Nat.{suc-mul}
use native.Mathlib.Omega.{arith}
use lib.Dec.{eqb, lit<}
use lib.IntN.{ℤ, pos}
use lib.ListN.{length, drop, length-append}
use Rattle.laws.specs.Lists.{Every}
use Rattle.laws.specs.Bytes.{Octets, bytes}
use Rattle.laws.proofs.Bytes.{octets_cons, octets_append, two_bytes, bytes_octets}
use Rattle.records.specs.declared.Finding.{Finding}
use Rattle.records.specs.declared.Flooding.{Flooding}
use Rattle.fields.specs.Fields.{word_at, long_at, signed, unsigned}
use Rattle.fields.proofs.Signed.{signed_unsigned, unsigned_below}
use Rattle.casefile.specs.Layout.{finding_of, set_of, flooding_of, floodings_of, result_length, flooding_length, words, finding_numbers, finding_bytes, findings_bytes, flooding_bytes, floodings_bytes}
use Rattle.casefile.specs.Valid.{Formed, found, given}
use Rattle.casefile.proofs.Words.{words_octets}
use Rattle.casefile.proofs.RowKinds.{RowKind, one_set, survivals, two_sets_lem, passenger}
use Rattle.casefile.proofs.Limits.{Found, Flooded}

-- ---- read again

pub halves : (n : ℕ) → n / 256 * 256 + n % 256 ≡ n
halves n = omega arith

-- a record by its fields
finding_by : (r : Finding) (g t e : ℕ) (o : ℤ) (s : ℕ) → r.lever ≡ g → r.range ≡ t → r.heel ≡ e → r.opening ≡ o → r.given ≡ s → record { lever = g; range = t; heel = e; opening = o; given = s } ≡ r
finding_by r g t e o s hg ht he ho hs = rw (← hg, ← ht, ← he, ← ho, ← hs) refl

flooding_by : (w : Flooding) (d m g t e o : ℕ) → d ≡ w.displacement → m ≡ w.moment → g ≡ w.lever → t ≡ w.range → e ≡ w.heel → o ≡ w.roro →
    record { displacement = d; moment = m; lever = g; range = t; heel = e; roro = o } ≡ w
flooding_by w d m g t e o hd hm hg ht he ho = rw (hd, hm, hg, ht, he, ho) refl

-- one draught's result, from there on
found_again : (kind : ℕ) (r : Finding) (rest : List ℕ) → Found r → eqb kind 3 ≡ false → r.given ≡ 0 → finding_of kind (finding_bytes kind r ++ rest) ≡ r
unfolding finding_of finding_bytes word_at
found_again kind r rest f k s =
    rw (
      k,
      two_bytes r.lever (omega (arith, f.lever)),
      two_bytes r.range (omega (arith, f.range)),
      two_bytes r.heel (omega (arith, f.heel)),
      two_bytes (unsigned r.opening) (unsigned_below r.opening (omega (arith, f.opening))),
    )
    (finding_by r _ _ _ _ 0 (sym (halves r.lever)) (sym (halves r.range)) (sym (halves r.heel))
    (sym (ap signed (halves (unsigned r.opening)) ∙ signed_unsigned r.opening (omega (arith, f.opening)))) s)

finding_again : (kind : ℕ) (r : Finding) (rest : List ℕ) → Found r → Formed kind r → finding_of kind (finding_bytes kind r ++ rest) ≡ r
unfolding finding_of finding_bytes word_at
finding_again kind r rest f (found (inl k) s) = found_again kind r rest f (rw k refl) s
finding_again kind r rest f (found (inr (inl k)) s) = found_again kind r rest f (rw k refl) s
finding_again kind r rest f (found (inr (inr k)) s) = found_again kind r rest f (rw k refl) s
finding_again kind r rest f (given k g t e o) =
    rw (k, two_bytes r.given (omega (arith, f.given)))
    (finding_by r 0 0 0 (pos 0) _ g t e o (sym (halves r.given)))

-- and what a passenger ship's row tells besides
flooding_again : (w : Flooding) (rest : List ℕ) → Flooded w → flooding_of (flooding_bytes w ++ rest) ≡ w
unfolding flooding_of flooding_bytes long_at word_at bytes
flooding_again w rest f =
    flooding_by w _ _ _ _ _ _ (omega (arith, f.displacement)) (omega (arith, f.moment)) (omega (arith, f.lever)) (omega (arith, f.range)) (omega (arith, f.heel)) refl

-- after a set of three with openings others stand from the thirty-first byte on
pub after_set : (kind : ℕ) (x y z : Finding) (rest : List ℕ) → eqb kind 3 ≡ false → drop 24 (finding_bytes kind x ++ (finding_bytes kind y ++ (finding_bytes kind z ++ rest))) ≡ rest
unfolding finding_bytes bytes
after_set kind x y z rest k = rw k refl

set_part : {kind : ℕ} (x y z : Finding) (rest : List ℕ) → RowKind kind →
    set_of kind (finding_bytes kind x ++ (finding_bytes kind y ++ (finding_bytes kind z ++ rest)))
    ≡ finding_of kind (finding_bytes kind x ++ (finding_bytes kind y ++ (finding_bytes kind z ++ rest)))
    ∷ finding_of kind (finding_bytes kind y ++ (finding_bytes kind z ++ rest))
    ∷ finding_of kind (finding_bytes kind z ++ rest)
    ∷ []
unfolding set_of finding_bytes bytes
set_part x y z rest (one_set k) = rw k refl
set_part x y z rest (survivals k) = rw k refl
set_part x y z rest (two_sets_lem k) = rw k refl
set_part x y z rest (passenger k) = rw k refl

pub set_again : {kind : ℕ} (x y z : Finding) (rest : List ℕ) → RowKind kind → Every Found (x ∷ y ∷ z ∷ []) → Every (Formed kind) (x ∷ y ∷ z ∷ []) →
    set_of kind (finding_bytes kind x ++ (finding_bytes kind y ++ (finding_bytes kind z ++ rest))) ≡ x ∷ y ∷ z ∷ []
set_again {kind} x y z rest k f g =
    set_part x y z rest k
    ∙ rw (
      finding_again kind x (finding_bytes kind y ++ (finding_bytes kind z ++ rest)) f.0 g.0,
      finding_again kind y (finding_bytes kind z ++ rest) f.1.0 g.1.0,
      finding_again kind z rest f.1.1.0 g.1.1.0,
    ) refl

floodings_part : (u v w : Flooding) → floodings_of (floodings_bytes (u ∷ v ∷ w ∷ []))
    ≡ flooding_of (flooding_bytes u ++ (flooding_bytes v ++ (flooding_bytes w ++ [])))
    ∷ flooding_of (flooding_bytes v ++ (flooding_bytes w ++ []))
    ∷ flooding_of (flooding_bytes w ++ [])
    ∷ []
unfolding floodings_of flooding_bytes bytes
floodings_part u v w = refl

pub floodings_again : (u v w : Flooding) → Every Flooded (u ∷ v ∷ w ∷ []) → floodings_of (floodings_bytes (u ∷ v ∷ w ∷ [])) ≡ u ∷ v ∷ w ∷ []
floodings_again u v w f =
    floodings_part u v w
    ∙ rw (
      flooding_again u (flooding_bytes v ++ (flooding_bytes w ++ [])) f.0,
      flooding_again v (flooding_bytes w ++ []) f.1.0,
      flooding_again w [] f.1.1.0,
    ) refl

-- as many bytes as that
finding_length : {kind : ℕ} → RowKind kind → (r : Finding) → length (finding_bytes kind r) ≡ result_length kind
unfolding finding_bytes bytes
finding_length (one_set k) r = rw k refl
finding_length (survivals k) r = rw k refl
finding_length (two_sets_lem k) r = rw k refl
finding_length (passenger k) r = rw k refl

pub findings_length : {kind : ℕ} → RowKind kind → (rs : List Finding) → length (findings_bytes kind rs) ≡ length rs * result_length kind
findings_length k [] = omega arith
findings_length {kind} k (r ∷ rs) = rw (length-append, suc-mul (length rs) (result_length kind)) (omega (arith, finding_length k r, findings_length k rs))

flooding_length_lem : (w : Flooding) → length (flooding_bytes w) ≡ flooding_length
unfolding flooding_bytes bytes
flooding_length_lem w = refl

pub floodings_length : (ws : List Flooding) → length (floodings_bytes ws) ≡ length ws * flooding_length
floodings_length [] = refl
floodings_length (w ∷ ws) = rw length-append (omega (arith, flooding_length_lem w, floodings_length ws))

-- ---- every byte is one

finding_octets : (kind : ℕ) (r : Finding) → Octets (finding_bytes kind r)
unfolding finding_bytes
finding_octets kind r = words_octets (finding_numbers kind r)

pub findings_octets : (kind : ℕ) (rs : List Finding) → Octets (findings_bytes kind rs)
findings_octets kind [] = λ i. lit< tt
findings_octets kind (r ∷ rs) = octets_append (finding_bytes kind r) (findings_bytes kind rs) (finding_octets kind r) (findings_octets kind rs)

flooding_octets : (w : Flooding) → Flooded w → Octets (flooding_bytes w)
unfolding flooding_bytes
flooding_octets w f =
    let longs : List ℕ = bytes 4 w.displacement ++ bytes 4 w.moment in
    let stage : List ℕ = words (w.lever ∷ w.range ∷ w.heel ∷ []) in
    octets_append (longs ++ stage) (w.roro ∷ [])
    (octets_append longs stage (octets_append (bytes 4 w.displacement) (bytes 4 w.moment) (bytes_octets 4 w.displacement) (bytes_octets 4 w.moment)) (words_octets (w.lever ∷ w.range ∷ w.heel ∷ [])))
    (octets_cons w.roro [] (omega (arith, f.roro)) (λ i. lit< tt))

pub floodings_octets : (ws : List Flooding) → Every Flooded ws → Octets (floodings_bytes ws)
floodings_octets [] f = λ i. lit< tt
floodings_octets (w ∷ ws) f = octets_append (flooding_bytes w) (floodings_bytes ws) (flooding_octets w f.0) (floodings_octets ws f.1)
