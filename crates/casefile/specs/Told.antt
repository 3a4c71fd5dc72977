-- What the code's results say, a value or a refusal, by the table's numbers. Assumes nothing.
use Rattle.std.specs.Prelude.{ℕ, Result, Ok, Err}
use Rattle.records.specs.declared.Hull.{Hull}
use Rattle.casefile.specs.declared.Accepted.{Accepted}
use Rattle.casefile.specs.declared.Fault.{Fault}
use Rattle.casefile.specs.declared.Frame.{Frame as After}
use Rattle.casefile.specs.declared.Progress.{Progress}
use Rattle.casefile.specs.declared.Refused.{Refused}
use Rattle.casefile.specs.Judged.{Frame, FirstLine, Step, Judgement}
use Rattle.casefile.specs.Reading.{refused}
use Rattle.casefile.specs.Answer.{given_first, refused_first, judgement_of}

-- the table: 12 is none of its numbers
abbrev pub number_of_fault : Fault → ℕ
number_of_fault Fault.TooLong = 1
number_of_fault Fault.BadlyWritten = 2
number_of_fault Fault.WrongFrame = 3
number_of_fault Fault.Sizes = 4
number_of_fault Fault.Zones = 5
number_of_fault Fault.Count = 6
number_of_fault Fault.Limits = 7
number_of_fault Fault.OutOfOrder = 8
number_of_fault Fault.LeftOpen = 9
number_of_fault Fault.NoEnd = 10
number_of_fault Fault.ShortSheet = 11
number_of_fault Fault.PersonsBand = 13

-- some checks, in turn: the number of the first that refuses, 0 where none does
abbrev pub checks_told : Result (Unit {0}) Fault → ℕ
checks_told (Ok u) = 0
checks_told (Err f) = number_of_fault f

-- line 1: its hull
abbrev pub first_told : Result Hull Fault → FirstLine
first_told (Ok h) = given_first h
first_told (Err f) = refused_first (number_of_fault f)

-- a line after the hull: its frame
abbrev pub frame_told : Result After Fault → Frame
frame_told (Ok (After.Row r)) = Frame.Row r
frame_told (Ok (After.End count)) = Frame.End count
frame_told (Err f) = Frame.Wrong (number_of_fault f)

-- what is known after some lines
abbrev pub step_told : Result Progress Refused → Step
step_told (Ok p) = Step.Next p
step_told (Err r) = Step.Refused (number_of_fault r.fault) r.line

-- a file: what it says where it is accepted
abbrev pub judgement_told : Result Accepted Refused → Judgement
judgement_told (Ok a) = record { number = 0; line = 0; rows = a.rows; hull = a.hull }
judgement_told (Err r) = judgement_of (refused (number_of_fault r.fault) r.line)
