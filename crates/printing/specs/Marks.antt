-- Document 02, tickets 2 and 5: the marks of a survival result as a byte, and those of a row at its three draughts. Assumes nothing.
use Rattle.std.specs.Prelude.{ℕ, ◌+◌, cond, List, ◌++◌, get_or}
use Rattle.laws.specs.Bytes.{bytes}
use Rattle.records.specs.declared.Marks.{Marks}
use Rattle.records.specs.declared.Survival.{Survival}
use Rattle.survival.specs.Survival.{no_survival}

-- 1 for lever, 2 for range, 4 for heel, 8 for the opening, added up
unfoldable pub mark_byte : Marks → ℕ
mark_byte m = cond m.lever 1 0 + cond m.range 2 0 + cond m.heel 4 0 + cond m.opening 8 0

-- the marks at draught j: 0 deepest, 1 partial, 2 light
unfoldable pub marks_at : List Survival → ℕ → Marks
marks_at ss j = (get_or ss j no_survival).marks

-- a byte a draught: deepest, partial, light
unfoldable pub marks_field : List Survival → List ℕ
marks_field ss = bytes 1 (mark_byte (marks_at ss 0)) ++ bytes 1 (mark_byte (marks_at ss 1)) ++ bytes 1 (mark_byte (marks_at ss 2))
