-- What the code answers, figures or a refusal, as the one flat record. Assumes nothing.
use Rattle.std.specs.Prelude.{Result, Ok, Err}
use Rattle.records.specs.declared.Answer.{Answer}
use Rattle.verdicts.specs.Verdict.{number_of}
use Rattle.casefile.specs.declared.Refused.{Refused}
use Rattle.casefile.specs.Told.{number_of_fault}
use Rattle.answers.specs.Answer.{refusal}
use Rattle.index.specs.declared.Figures.{Figures}

abbrev pub answer_with : Figures → Answer
answer_with f = record { number = 0; line = 0; verdict = number_of f.verdict; rows = f.rows; attained = f.attained; partials = f.partials }

abbrev pub answer_told : Result Figures Refused → Answer
answer_told (Ok f) = answer_with f
answer_told (Err r) = refusal (number_of_fault r.fault) r.line
