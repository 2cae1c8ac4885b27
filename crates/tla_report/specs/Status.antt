-- The exit status. (The numbers are this project's own choice.)
use Rattle.std.specs.Prelude.{ℕ}
use Rattle.tla_verdict.specs.declared.answer.Answer.{Answer}
use Rattle.tla_verdict.specs.declared.answer.Answer.TheVariants.{NoError, InvariantFalse, Deadlock, Faulted, AssumptionFalse, Limit}
use Rattle.tla_report.specs.declared.checked.Checked.{Checked}
use Rattle.tla_report.specs.declared.checked.Checked.TheVariants.{Answered, Refused, NoMemory, NoWorker}

abbrev pub answer_status : Answer → ℕ
answer_status (NoError counts) = 0
answer_status (InvariantFalse i trace counts) = 10
answer_status (Deadlock trace counts) = 11
answer_status (Faulted fault part trace counts) = 12
answer_status (AssumptionFalse number) = 13
answer_status (Limit counts) = 14

abbrev pub status_of : Checked → ℕ
status_of (Answered a) = answer_status a.answer
status_of (Refused r) = 20
status_of NoMemory = 22
status_of NoWorker = 22
