-- What is printed can be read back: line by line, frame by frame, figure by figure. Assumes nothing.
use Prim.Native.Nat.{ℕ, suc, ◌<◌}
use mathlib.Core.Path.{◌≡◌, refl, sym, ◌∙◌, ap, ap₂}
use mathlib.Core.Bool.{Bool, true, false}
use mathlib.Core.List.{List, [], ◌∷◌, ◌++◌, map, append_assoc, append-nil}
use lib.Dec.{eqb, lit<}
use lib.ListN.{take, drop}
use lib.Seq.{take_at, drop_at}
use Rattle.laws.specs.Bytes.{Octets, number, bytes}
use Rattle.laws.proofs.Bytes.{octets_cons, octets_append, length_bytes, bytes_octets, number_bytes_all}
use Rattle.records.specs.declared.Answer.{Answer}
use Rattle.records.specs.declared.Survival.{Survival}
use Rattle.records.specs.Ends.{at}
use Rattle.lines.specs.Lines.{lines}
use Rattle.hexadecimal.specs.Hex.{line_of}
use Rattle.hexadecimal.proofs.Pairs.{pairs_hex, line_in_front}
use Rattle.digits.specs.Fields.{ends_field, partial_field, partials_field}
use Rattle.digits.proofs.Fields.{length_ends}
use Rattle.printing.specs.Marks.{mark_byte, marks_at, marks_field}
use Rattle.printing.specs.Printed.{RowLine, refusal_frame, figures_frame, row_frame, row_lines, printed}
use Rattle.printing.specs.ReadBack.{refusal, figures, ends_of, shares_of, marks_of_lines, told_by, fours, marks_by, kind_of, shares_in, marks_in, told_in, frame_in, read_back, Short, Printable, ReadsBack}
use Rattle.printing.proofs.Marks.{marks_by_byte, marks_field_bytes}

-- ---- bytes

ends_octets : (lower upper : ℕ) → Octets (ends_field lower upper)
unfolding ends_field
ends_octets lower upper = octets_append (bytes 4 lower) (bytes 4 upper) (bytes_octets 4 lower) (bytes_octets 4 upper)

refusal_octets : (n line : ℕ) → Octets (refusal_frame n line)
unfolding refusal_frame
refusal_octets n line = octets_append (143 ∷ bytes 1 n) (bytes 2 line) (octets_cons 143 (bytes 1 n) (lit< tt) (bytes_octets 1 n)) (bytes_octets 2 line)

figures_octets : (a : Answer) → Octets (figures_frame a)
unfolding figures_frame partials_field partial_field
figures_octets a =
    let t = a.partials in
    let head = octets_cons 129 (bytes 1 a.verdict) (lit< tt) (bytes_octets 1 a.verdict) in
    let two = octets_append (partial_field t 0) (partial_field t 1) (ends_octets _ _) (ends_octets _ _) in
    let three = octets_append (partial_field t 0 ++ partial_field t 1) (partial_field t 2) two (ends_octets _ _) in
    octets_append (129 ∷ bytes 1 a.verdict ++ ends_field a.attained.lower a.attained.upper) (partials_field t)
    (octets_append (129 ∷ bytes 1 a.verdict) (ends_field a.attained.lower a.attained.upper) head (ends_octets a.attained.lower a.attained.upper))
    three

marks_octets : (ss : List Survival) → Octets (marks_field ss)
unfolding marks_field
marks_octets ss =
    let at : (j : ℕ) → Octets (bytes 1 (mark_byte (marks_at ss j))) = λ j. bytes_octets 1 (mark_byte (marks_at ss j)) in
    octets_append (bytes 1 (mark_byte (marks_at ss 0)) ++ bytes 1 (mark_byte (marks_at ss 1))) (bytes 1 (mark_byte (marks_at ss 2)))
    (octets_append (bytes 1 (mark_byte (marks_at ss 0))) (bytes 1 (mark_byte (marks_at ss 1))) (at 0) (at 1))
    (at 2)

row_octets : (r : RowLine) → Octets (row_frame r)
unfolding row_frame
row_octets r =
    let ends : List ℕ = ends_field r.share.lower r.share.upper in
    octets_append (130 ∷ ends) (marks_field r.survivals) (octets_cons 130 ends (lit< tt) (ends_octets r.share.lower r.share.upper)) (marks_octets r.survivals)

-- ---- lines

next_frame : (frame text : List ℕ) → Octets frame → map frame_in (lines (line_of frame ++ text)) ≡ frame ∷ map frame_in (lines text)
next_frame frame text o = rw (line_in_front frame text o, pairs_hex frame o) refl

row_frames : (rs : List RowLine) → map frame_in (lines (row_lines rs)) ≡ map row_frame rs
unfolding row_lines lines
row_frames [] = refl
row_frames (r ∷ rs) = rw (next_frame (row_frame r) (row_lines rs) (row_octets r), row_frames rs) refl

-- ---- numbers of four bytes

next_four : (k n : ℕ) (bs : List ℕ) → n < 4294967296 → fours (suc k) (bytes 4 n ++ bs) ≡ n ∷ fours k bs
unfolding fours
next_four k n bs h = rw (take_at (bytes 4 n) bs 4 (length_bytes 4 n), drop_at (bytes 4 n) bs 4 (length_bytes 4 n), number_bytes_all 4 n h) refl

next_ends : (k lower upper : ℕ) (bs : List ℕ) → lower < 4294967296 → upper < 4294967296 →
    fours (suc (suc k)) (ends_field lower upper ++ bs) ≡ lower ∷ upper ∷ fours k bs
unfolding ends_field
next_ends k lower upper bs h l = rw (append_assoc, next_four (suc k) lower (bytes 4 upper ++ bs) h, next_four k upper bs l) refl

last_ends : (lower upper : ℕ) → lower < 4294967296 → upper < 4294967296 → fours 2 (ends_field lower upper) ≡ lower ∷ upper ∷ []
unfolding fours
last_ends lower upper h l = ap (fours 2) (sym (append-nil (ends_field lower upper))) ∙ next_ends 0 lower upper [] h l

-- ---- what each line tells

module _ (r : RowLine) where
  row_kind : kind_of (row_frame r) ≡ 130
  unfolding row_frame
  row_kind = refl

  share_told : r.share.lower < 4294967296 → r.share.upper < 4294967296 → fours 2 (drop 1 (row_frame r)) ≡ r.share.lower ∷ r.share.upper ∷ []
  unfolding row_frame fours
  share_told h l = next_ends 0 r.share.lower r.share.upper (marks_field r.survivals) h l

  marks_told : map marks_by (take 3 (drop 9 (row_frame r))) ≡ marks_at r.survivals 0 ∷ marks_at r.survivals 1 ∷ marks_at r.survivals 2 ∷ []
  unfolding row_frame
  marks_told =
      let ends : List ℕ = ends_field r.share.lower r.share.upper in
      rw (drop_at ends (marks_field r.survivals) 8 (length_ends r.share.lower r.share.upper), marks_field_bytes r.survivals)
      (rw (marks_by_byte (marks_at r.survivals 0), marks_by_byte (marks_at r.survivals 1), marks_by_byte (marks_at r.survivals 2)) refl)

all_shares_told : (rs : List RowLine) → Short (shares_of rs) → shares_in (map row_frame rs) ≡ shares_of rs
unfolding shares_in shares_of
all_shares_told [] h = refl
all_shares_told (r ∷ rs) h = rw (row_kind r, share_told r (h 0) (h 1), all_shares_told rs (λ i. h (suc (suc i)))) refl

all_marks_told : (rs : List RowLine) → marks_in (map row_frame rs) ≡ marks_of_lines rs
unfolding marks_in marks_of_lines
all_marks_told [] = refl
all_marks_told (r ∷ rs) = rw (row_kind r, marks_told r, all_marks_told rs) refl

refusal_told : (a : Answer) → a.number < 256 → a.line < 65536 → told_in (refusal_frame a.number a.line ∷ []) ≡ refusal a.number a.line
unfolding told_in refusal_frame bytes
refusal_told a h l = ap₂ refusal (number_bytes_all 1 a.number h) (number_bytes_all 2 a.line l)

figures_rest : (a : Answer) → drop 2 (figures_frame a) ≡ ends_field a.attained.lower a.attained.upper ++ partials_field a.partials
unfolding figures_frame bytes
figures_rest a = refl

ends_told : (a : Answer) → Short (ends_of a) → fours 8 (drop 2 (figures_frame a)) ≡ ends_of a
unfolding partials_field partial_field ends_of
ends_told a h =
    let t = a.partials in
    rw (
      figures_rest a,
      next_ends 6 a.attained.lower a.attained.upper (partial_field t 0 ++ partial_field t 1 ++ partial_field t 2) (h 0) (h 1),
      append_assoc,
      next_ends 4 (at t 0).lower (at t 0).upper (partial_field t 1 ++ partial_field t 2) (h 2) (h 3),
      next_ends 2 (at t 1).lower (at t 1).upper (partial_field t 2) (h 4) (h 5),
      last_ends (at t 2).lower (at t 2).upper (h 6) (h 7),
    ) refl

verdict_told : (a : Answer) → a.verdict < 256 → number (take 1 (drop 1 (figures_frame a))) ≡ a.verdict
unfolding figures_frame bytes
verdict_told a h = number_bytes_all 1 a.verdict h

kind_told : (a : Answer) → kind_of (figures_frame a) ≡ 129
unfolding figures_frame
kind_told a = refl

-- ---- the whole

refusal_whole : (a : Answer) → a.number < 256 → a.line < 65536 → read_back (line_of (refusal_frame a.number a.line)) ≡ refusal a.number a.line
unfolding read_back lines
refusal_whole a h l =
    let frame : List ℕ = refusal_frame a.number a.line in
    ap read_back (sym (append-nil (line_of frame))) ∙ ap told_in (next_frame frame [] (refusal_octets a.number a.line)) ∙ refusal_told a h l

figures_whole : (a : Answer) (rs : List RowLine) → Printable a rs →
    read_back (line_of (figures_frame a) ++ row_lines rs) ≡ figures a.verdict (ends_of a) (shares_of rs) (marks_of_lines rs)
unfolding read_back told_in
figures_whole a rs p =
    ap told_in (next_frame (figures_frame a) (row_lines rs) (figures_octets a))
    ∙ rw (
      kind_told a,
      row_frames rs,
      verdict_told a p.verdict_fits,
      ends_told a p.ends_fit,
      all_shares_told rs p.shares_fit,
      all_marks_told rs,
    ) refl

pub reads_back : ReadsBack
unfolding printed told_by
reads_back a rs p = by (eqb a.number 0) refl
  where
    by : (t : Bool) → eqb a.number 0 ≡ t → read_back (printed a rs) ≡ told_by a rs
    by true q = rw q (figures_whole a rs p)
    by false q = rw q (refusal_whole a p.number_fits p.line_fits)

-- two answers that print alike tell the same
pub one_text_one_answer : (a b : Answer) (s t : List RowLine) → Printable a s → Printable b t → printed a s ≡ printed b t → told_by a s ≡ told_by b t
one_text_one_answer a b s t p q e = sym (reads_back a s p) ∙ ap read_back e ∙ reads_back b t q
