-- What the parts of a line's judging answer, each from the checks that are its own. Assumes nothing.
use Rattle.std.specs.Prelude.{ℕ, ◌+◌, Bool, false, cond, not, ◌||◌, ◌&&◌, List, [], ◌∷◌, eqb}
use Rattle.records.specs.declared.Hull.{Hull}
use Rattle.records.specs.declared.RowHead.{RowHead}
use Rattle.casefile.specs.Judged.{Frame, FirstLine, Step, Judgement}
use Rattle.casefile.specs.declared.Progress.{Progress}
use Rattle.casefile.specs.Record.{Row}
use Rattle.casefile.specs.Layout.{kind_of, is_row, hull_length, row_of, count_of}
use Rattle.casefile.specs.Limits.{sizes_fit, persons_fit, zones_fit, head_fits}
use Rattle.casefile.specs.Table.{◌when◌, first_holds, wrong_frame, checks_of_row, row_checks, end_checks}
use Rattle.casefile.specs.Reading.{refused, with_end}
use Rattle.casefile.specs.Answer.{unless_refused, unless_wrong, judgement_of}

-- ---- a line after the hull

-- a row's number, by its head and by whether its results fit
unfoldable pub row_number : Hull → Progress → RowHead → Bool → ℕ
row_number h p head fit = first_holds (checks_of_row h p head (head_fits h head && fit))

unfoldable pub row_judged : Hull → Progress → Row → Frame
row_judged h p r = unless_wrong (first_holds (row_checks h p r)) (Frame.Row r.head)

unfoldable pub end_judged : Hull → Progress → ℕ → Frame
end_judged h p count = unless_wrong (first_holds (end_checks h p count)) (Frame.End count)

-- the bytes of a well written line that no end frame came before
unfoldable pub frame_judged : Hull → Progress → List ℕ → Frame
frame_judged h p bs =
    cond (wrong_frame h.kind bs) (Frame.Wrong 3) (cond (is_row (kind_of bs)) (row_judged h p (row_of bs)) (end_judged h p (count_of bs)))

-- ---- line 1

-- refusals 4, 13 and 5, of a hull whose frame has n bytes
unfoldable pub hull_number : Hull → ℕ → ℕ
hull_number h n = first_holds ((4 when not (sizes_fit h)) ∷ (13 when not (persons_fit h)) ∷ (5 when (not (zones_fit h) || not (eqb n (hull_length h.kind h.zones)))) ∷ [])

unfoldable pub hull_judged : Hull → ℕ → FirstLine
hull_judged h n = unless_refused (hull_number h n) h

-- ---- the lines in turn

-- what is known after a line's frame, or the refusal with the line n: a hull stands in line 1 alone
abbrev pub stepped : Frame → Progress → ℕ → Step
stepped Frame.Hull p n = Step.Refused 3 n
stepped (Frame.Row r) p n = Step.Next (record { rows = p.rows + 1; last = r; ended = false })
stepped (Frame.End count) p n = Step.Next (with_end p)
stepped (Frame.Wrong k) p n = Step.Refused k n

-- what the last step says of the file: the number and line of a refusal, or the row count, and the hull h
abbrev pub judgement_at : Hull → Step → Judgement
judgement_at h (Step.Next p) = record { number = 0; line = 0; rows = p.rows; hull = h }
judgement_at h (Step.Refused k n) = judgement_of (refused k n)
