-- A row's frame and an end's: from bytes to the record and back, and the other way round. Assumes nothing.
use Prim.Native.Nat.{ℕ, suc, ◌+◌, ◌*◌, ◌<◌}
use mathlib.Core.Path.{◌≡◌, refl, sym, ◌∙◌, ap, ap₂}
use mathlib.Core.Bool.{Bool, true, false, cond, false≢true}
use mathlib.Core.List.{List, [], ◌∷◌, ◌++◌, append-nil}
use native.Mathlib.Omega.{arith}
use lib.Dec.{eqb, lit<}
use lib.ListN.{length, take, drop, length-append, length-drop}
use lib.Seq.{take-add, take_all, drop-drop}
use borrow.Author.Tests.{eqb-true}
use Rattle.laws.specs.Lists.{Every, tabulate}
use Rattle.laws.specs.Bytes.{Octets, bytes}
use Rattle.laws.proofs.Lists.{three_of, three_alone, none_of, three_parts}
use Rattle.laws.proofs.Bytes.{octets_cons, octets_rest, octets_append, two_bytes, bytes_octets}
use Rattle.laws.proofs.Tests.{holds}
use Rattle.records.specs.declared.Finding.{Finding}
use Rattle.records.specs.declared.Flooding.{Flooding}
use Rattle.records.specs.declared.RowHead.{RowHead}
use Rattle.records.specs.declared.Hull.{Hull}
use Rattle.records.specs.Results.{Results}
use Rattle.fields.specs.Fields.{word_at}
use Rattle.fields.proofs.Fields.{octets_drop, bytes_of_word}
use Rattle.casefile.specs.Record.{Row}
use Rattle.casefile.specs.Limits.{row_fits}
use Rattle.casefile.specs.Valid.{Formed, ValidRow}
use Rattle.casefile.proofs.Words.{words_octets, split_bytes}
use Rattle.casefile.proofs.RowKinds.{RowKind, one_set, survivals, two_sets_lem, passenger, of_row_kind, valid_kind, is_row_lem, small_kind, row_bytes_count}
use Rattle.casefile.proofs.RowNumbers.{finding_words, findings_written, floodings_written}
use Rattle.casefile.proofs.RowRecords.{halves, after_set, set_again, floodings_again, findings_length, floodings_length, findings_octets, floodings_octets}
use Rattle.casefile.proofs.Limits.{Sizes, Zones, Head, Found, Flooded, row_is}
use Rattle.casefile.specs.Layout.{kind_of, fields_of, is_row, is_end, frame_length, head_of, set_of, floodings_of, results_of, result_length, result_count, flooding_length, flooding_count, row_of, count_of, words, finding_bytes, findings_bytes, floodings_bytes, results_bytes, row_bytes, end_bytes}

-- a row's frame by its numbers: those of the findings have two bytes each
written_count : {kind : ℕ} → RowKind kind → frame_length kind ≡ 7 + 2 * finding_words kind + flooding_count kind * flooding_length
unfolding frame_length
written_count (one_set k) = rw k refl
written_count (survivals k) = rw k refl
written_count (two_sets_lem k) = rw k refl
written_count (passenger k) = rw k refl

-- ---- from bytes

module _ (f : List ℕ) (o : Octets f) where
  -- all that stands after a, n, b and H
  results_written : {kind : ℕ} → RowKind kind → 1 + length f ≡ frame_length kind → results_bytes kind (results_of kind f) ≡ drop 6 f
  unfolding results_of
  results_written {kind} k l = by (eqb kind 7) refl (omega (arith, l, written_count k))
    where
      by : (t : Bool) → eqb kind 7 ≡ t → length f ≡ 6 + 2 * finding_words kind + cond t 3 0 * flooding_length →
          findings_bytes kind (set_of kind (drop 6 f) ++ cond (eqb kind 5) (set_of kind (drop 30 f)) []) ++ floodings_bytes (cond t (floodings_of (drop 30 f)) []) ≡ drop 6 f
      by true e n =
          let w : finding_words kind ≡ 12 = rw (eqb-true kind 7 e) refl in
          ap₂ ◌++◌ (findings_written f o k (omega arith) ∙ ap (λ m. take (2 * m) (drop 6 f)) w) (floodings_written (drop 30 f) (octets_drop 30 f o) (omega (arith, length-drop 30 f)))
          ∙ ap (λ t. take 24 (drop 6 f) ++ take 45 t) (sym (drop-drop 24 6 f))
          ∙ sym (take-add 24 45 (drop 6 f))
          ∙ take_all 69 (drop 6 f) (omega (arith, length-drop 6 f))
      by false e n =
          append-nil (findings_bytes kind (results_of kind f).findings)
          ∙ findings_written f o k (omega arith)
          ∙ take_all (2 * finding_words kind) (drop 6 f) (omega (arith, length-drop 6 f))

  row_fields_again : {kind : ℕ} → RowKind kind → 1 + length f ≡ frame_length kind → row_bytes (row_of (kind ∷ f)) ≡ kind ∷ f
  unfolding row_bytes head_of tabulate
  row_fields_again {kind} k l =
      rw (bytes_of_word f 2 o, bytes_of_word f 4 o, results_written k l)
      (ap (kind ∷◌) (sym (split_bytes f 6 (omega (arith, l, written_count k)))))

  end_fields_again : length f ≡ 2 → end_bytes (word_at f 0) ≡ 15 ∷ f
  unfolding end_bytes tabulate
  end_fields_again l = rw (bytes_of_word f 0 o) (ap (15 ∷◌) (sym (split_bytes f 2 (omega arith) ∙ rw (none_of (drop 2 f) (omega (arith, length-drop 2 f))) refl)))

pub row_bytes_again : (bs : List ℕ) → Octets bs → is_row (kind_of bs) ≡ true → length bs ≡ frame_length (kind_of bs) → row_bytes (row_of bs) ≡ bs
row_bytes_again [] o k e = absurd (false≢true k)
row_bytes_again (x ∷ f) o k e = row_fields_again f (octets_rest x f o) (of_row_kind x k) (omega arith)

pub end_bytes_again : (bs : List ℕ) → Octets bs → is_end (kind_of bs) ≡ true → length bs ≡ frame_length (kind_of bs) → end_bytes (count_of bs) ≡ bs
unfolding frame_length
end_bytes_again [] o k e = absurd (false≢true k)
end_bytes_again (x ∷ f) o k e =
    let q : x ≡ 15 = eqb-true x 15 k in
    let l : suc (length f) ≡ 3 = rw q at e in
    end_fields_again f (octets_rest x f o) (omega arith) ∙ ap (◌∷ f) (sym q)

-- ---- from a record

head_again : (r : Row) → r.head.depth < 65536 → r.head.height < 65536 → head_of r.head.kind (fields_of (row_bytes r)) ≡ r.head
unfolding row_bytes head_of word_at
head_again r hb hH = rw (two_bytes r.head.depth hb, two_bytes r.head.height hH, halves r.head.depth, halves r.head.height) refl

-- the results of a row stand one after the other, from the seventh byte on
results_part : (r : Row) → drop 6 (fields_of (row_bytes r)) ≡ results_bytes r.head.kind r.results
unfolding row_bytes bytes
results_part r = refl

pub end_octets : (count : ℕ) → Octets (end_bytes count)
unfolding end_bytes
end_octets count = octets_cons 15 (bytes 2 count) (lit< tt) (bytes_octets 2 count)

-- ---- a row that is valid

module _ (h : Hull) (r : Row) (s : Sizes h) (z : Zones h) (v : ValidRow h r) where
  abbrev kind : ℕ
  kind = r.head.kind

  abbrev findings : List Finding
  findings = r.results.findings

  abbrev floodings : List Flooding
  floodings = r.results.floodings

  abbrev fields : List ℕ
  fields = fields_of (row_bytes r)

  fits : Head h r.head × Every Found findings × Every Flooded floodings
  fits = row_is h r (holds (row_fits h r) v.limits)

  of_kind : RowKind kind
  of_kind = valid_kind h r v

  -- a set of three findings, and what stands after it
  set_first : (x y z : Finding) → findings ≡ x ∷ y ∷ z ∷ [] → drop 6 fields ≡ finding_bytes kind x ++ (finding_bytes kind y ++ (finding_bytes kind z ++ floodings_bytes floodings))
  set_first x y z e = results_part r ∙ rw e (three_parts (finding_bytes kind x) (finding_bytes kind y) (finding_bytes kind z) (floodings_bytes floodings))

  one_set_again : eqb kind 5 ≡ false → length findings ≡ 3 → (results_of kind fields).findings ≡ findings
  unfolding results_of
  one_set_again single n =
      let (x, y, z, e) = three_alone findings n in
      rw (single, set_first x y z e, set_again x y z (floodings_bytes floodings) of_kind (rw e at fits.1) (rw e at v.formed)) (sym e)

  two_sets_by : (x y z a b c : Finding) → findings ≡ x ∷ y ∷ z ∷ a ∷ b ∷ c ∷ [] → floodings ≡ [] → eqb kind 5 ≡ true → eqb kind 3 ≡ false → (results_of kind fields).findings ≡ findings
  unfolding results_of
  two_sets_by x y z a b c all none five three =
      let second : List ℕ = findings_bytes kind (a ∷ b ∷ c ∷ []) in
      let f : Every Found (x ∷ y ∷ z ∷ a ∷ b ∷ c ∷ []) = rw all at fits.1 in
      let g : Every (Formed kind) (x ∷ y ∷ z ∷ a ∷ b ∷ c ∷ []) = rw all at v.formed in
      let part : drop 6 fields ≡ findings_bytes kind (x ∷ y ∷ z ∷ a ∷ b ∷ c ∷ []) =
      results_part r ∙ ap₂ (λ fs ws. findings_bytes kind fs ++ floodings_bytes ws) all none ∙ append-nil (findings_bytes kind (x ∷ y ∷ z ∷ a ∷ b ∷ c ∷ [])) in
      let later : drop 30 fields ≡ second = sym (drop-drop 24 6 fields) ∙ ap (drop 24) part ∙ after_set kind x y z second three in
      rw (
        five,
        part,
        later,
        set_again x y z second of_kind (f.0, (f.1.0, (f.1.1.0, tt))) (g.0, (g.1.0, (g.1.1.0, tt))),
        set_again a b c [] of_kind f.1.1.1 g.1.1.1,
      ) (sym all)

  two_sets_again : kind ≡ 5 → (results_of kind fields).findings ≡ findings
  two_sets_again k =
      let (x, y, z, rest, d, m) = three_of findings 3 (rw k at v.findings) in
      let (a, b, c, e) = three_alone rest m in
      two_sets_by x y z a b c (d ∙ ap (λ t. x ∷ y ∷ z ∷ t) e) (none_of floodings (rw k at v.floodings)) (rw k refl) (rw k refl)

  findings_again : RowKind kind → (results_of kind fields).findings ≡ findings
  findings_again (one_set k) = one_set_again (rw k refl) (rw k at v.findings)
  findings_again (survivals k) = one_set_again (rw k refl) (rw k at v.findings)
  findings_again (two_sets_lem k) = two_sets_again k
  findings_again (passenger k) = one_set_again (rw k refl) (rw k at v.findings)

  no_floodings : eqb kind 7 ≡ false → length floodings ≡ 0 → (results_of kind fields).floodings ≡ floodings
  unfolding results_of
  no_floodings e n = rw e (sym (none_of floodings n))

  three_floodings : (x y z : Finding) (a b c : Flooding) → findings ≡ x ∷ y ∷ z ∷ [] → floodings ≡ a ∷ b ∷ c ∷ [] → eqb kind 7 ≡ true → eqb kind 3 ≡ false → (results_of kind fields).floodings ≡ floodings
  unfolding results_of
  three_floodings x y z a b c e d seven three =
      let later : drop 30 fields ≡ floodings_bytes floodings = sym (drop-drop 24 6 fields) ∙ ap (drop 24) (set_first x y z e) ∙ after_set kind x y z (floodings_bytes floodings) three in
      rw (seven, later) (ap (λ ws. floodings_of (floodings_bytes ws)) d ∙ floodings_again a b c (rw d at fits.2) ∙ sym d)

  with_floodings : kind ≡ 7 → (results_of kind fields).floodings ≡ floodings
  with_floodings k =
      let (x, y, z, e) = three_alone findings (rw k at v.findings) in
      let (a, b, c, d) = three_alone floodings (rw k at v.floodings) in
      three_floodings x y z a b c e d (rw k refl) (rw k refl)

  floodings_too : RowKind kind → (results_of kind fields).floodings ≡ floodings
  floodings_too (one_set k) = no_floodings (rw k refl) (rw k at v.floodings)
  floodings_too (survivals k) = no_floodings (rw k refl) (rw k at v.floodings)
  floodings_too (two_sets_lem k) = no_floodings (rw k refl) (rw k at v.floodings)
  floodings_too (passenger k) = with_floodings k

  pub row_again : row_of (row_bytes r) ≡ r
  unfolding row_bytes
  row_again =
      ap₂ (λ (x : RowHead) (y : Results). record { head = x; results = y })
      (head_again r (omega (arith, fits.0.deepest, s.narrow)) (omega (arith, fits.0.highest)))
      (ap₂ (λ (x : List Finding) (y : List Flooding). record { findings = x; floodings = y }) (findings_again of_kind) (floodings_too of_kind))

  pub row_length : length (row_bytes r) ≡ frame_length kind
  unfolding row_bytes bytes
  row_length =
      let n : length (findings_bytes kind findings) ≡ result_count kind * result_length kind = findings_length of_kind findings ∙ ap (λ n. n * result_length kind) v.findings in
      let m : length (floodings_bytes floodings) ≡ flooding_count kind * flooding_length = floodings_length floodings ∙ ap (λ n. n * flooding_length) v.floodings in
      omega (arith, length-append (findings_bytes kind findings) (floodings_bytes floodings), n, m, row_bytes_count of_kind)

  pub row_kind : kind_of (row_bytes r) ≡ kind
  unfolding row_bytes
  row_kind = refl

  pub row_is_row : is_row kind ≡ true
  row_is_row = is_row_lem of_kind

  pub row_octets : Octets (row_bytes r)
  unfolding row_bytes
  row_octets =
      let n : List ℕ = words (r.head.depth ∷ r.head.height ∷ []) in
      let rs : List ℕ = results_bytes kind r.results in
      octets_cons kind (r.head.first ∷ r.head.count ∷ (n ++ rs)) (small_kind of_kind)
      (octets_cons r.head.first (r.head.count ∷ (n ++ rs)) (omega (arith, fits.0.within, z.most))
      (octets_cons r.head.count (n ++ rs) (omega (arith, fits.0.within, z.most))
      (octets_append n rs (words_octets (r.head.depth ∷ r.head.height ∷ []))
      (octets_append (findings_bytes kind findings) (floodings_bytes floodings) (findings_octets kind findings) (floodings_octets floodings fits.2)))))
