-- Demands 1 and 2 of what the entry returns, for any bytes and a sheet of any size: what is accepted, what is refused, and what a refusal leaves. Assumes nothing.
use Rattle.std.specs.Prelude.{ℕ, ◌*◌, ◌≤◌, ◌<◌, ◌≡◌, List, ◌↔◌, length}
use Rattle.lines.specs.Lines.{lines}
use Rattle.casefile.specs.Record.{Case}
use Rattle.casefile.specs.Limits.{longest_input}
use Rattle.casefile.specs.Valid.{Valid}
use Rattle.casefile.specs.Encode.{encode}
use Rattle.casefile.specs.Reading.{begin, reading}
use Rattle.casefile.specs.Acceptance.{values_from, case_values}
use Rattle.casefile.specs.Refusal.{Refusal}
use Rattle.answers.specs.Answer.{refusal, answered, sheet_after}

-- the bytes are the file of the case c, which keeps 01's limits, 02's of an opening and of passenger ships, and 01's order, and are not too many
pub record FileOf (f : List ℕ) (c : Case) : Type 0 where
  pub short : length f ≤ longest_input
  pub valid : Valid c
  pub bytes : f ≡ encode c

-- "A file is accepted exactly when it keeps 01's rules and the sheet has room"
abbrev pub AcceptedExactly : Type 0
AcceptedExactly = (f : List ℕ) (size : ℕ) → ((answered (reading f) size).number ≡ 0) ↔ ((c : Case) × FileOf f c × (2 * length c.rows ≤ size))

-- such a file line by line: what each line is judged to be, in 01's numbers, says the case
abbrev pub AcceptedLineByLine : Type 0
AcceptedLineByLine = (f : List ℕ) (size : ℕ) → (answered (reading f) size).number ≡ 0 → (c : Case) × FileOf f c × (values_from begin (lines f) ≡ case_values c)

-- why an input gets the number k and the line l: by the table; or 11 and line 0, where the file keeps the rules and the sheet has too little room
pub data RefusedFor (f : List ℕ) (size k l : ℕ) : Type 0 where
  by_table : Refusal f k l → RefusedFor f size k l
  no_room : (c : Case) → FileOf f c → size < 2 * length c.rows → k ≡ 11 → l ≡ 0 → RefusedFor f size k l

-- "What is no case file gets a refusal number and its line": one pair, and zeros for every figure
abbrev pub RefusedExactly : Type 0
RefusedExactly = (f : List ℕ) (size k l : ℕ) → (k ≡ 0 → ⊥) → (answered (reading f) size ≡ refusal k l) ↔ RefusedFor f size k l

-- "A refusal writes nothing into the lent sheet and returns zeros for every figure"
pub record Bare (f sheet : List ℕ) : Type 0 where
  pub zeros : answered (reading f) (length sheet) ≡ refusal (answered (reading f) (length sheet)).number (answered (reading f) (length sheet)).line
  pub unchanged : sheet_after (reading f) sheet ≡ sheet

abbrev pub RefusalsAreBare : Type 0
RefusalsAreBare = (f sheet : List ℕ) → ((answered (reading f) (length sheet)).number ≡ 0 → ⊥) → Bare f sheet
