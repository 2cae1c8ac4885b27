-- The report says `No error.` exactly if the model that the texts denote is kept.
use Rattle.std.proofs.Common.{◌≡◌, ◌↔◌, ℕ, List, refl, sym, subst, arith}
use Rattle.tla_model.specs.ModelTree.{ModelTree}
use Rattle.tla_verdict.specs.declared.answer.Answer.{Answer}
use Rattle.tla_verdict.specs.declared.answer.Answer.TheVariants.{NoError, InvariantFalse, Deadlock, Faulted, AssumptionFalse, Limit}
use Rattle.tla_search.specs.Kept as kept
use Rattle.tla_search.proofs.Kept.{means-kept}
use Rattle.tla_report.specs.declared.checked.Checked.TheVariants.{Answered, Refused, NoMemory, NoWorker}
use Rattle.tla_check.specs.Laws.{SaysTruly, ReportsKept}
use Rattle.tla_report.specs.Laws.{SaysNoError}
use Rattle.tla_report.specs.Status.{answer_status}
use Rattle.tla_report.proofs.ReportTells.{no-error-zero}

zero-says : (answer : Answer) → (answer_status answer ≡ 0) ↔ kept.SaysNoError answer
zero-says (NoError counts) = (λ e. tt, λ h. refl)
zero-says (InvariantFalse i trace counts) = (λ e. absurd (omega (arith, e)), λ h. absurd h)
zero-says (Deadlock trace counts) = (λ e. absurd (omega (arith, e)), λ h. absurd h)
zero-says (Faulted fault part trace counts) = (λ e. absurd (omega (arith, e)), λ h. absurd h)
zero-says (AssumptionFalse number) = (λ e. absurd (omega (arith, e)), λ h. absurd h)
zero-says (Limit counts) = (λ e. absurd (omega (arith, e)), λ h. absurd h)

-- such an answer is no fault, and within the limit
says-no-fault : (answer : Answer) → kept.SaysNoError answer → kept.FaultsInReading answer → ⊥
says-no-fault (NoError counts) h f = f
says-no-fault (InvariantFalse i trace counts) h f = h
says-no-fault (Deadlock trace counts) h f = h
says-no-fault (Faulted fault part trace counts) h f = h
says-no-fault (AssumptionFalse number) h f = h
says-no-fault (Limit counts) h f = h

says-no-limit : (answer : Answer) → kept.SaysNoError answer → kept.PassesLimit answer → ⊥
says-no-limit (NoError counts) h l = l
says-no-limit (InvariantFalse i trace counts) h l = h
says-no-limit (Deadlock trace counts) h l = h
says-no-limit (Faulted fault part trace counts) h l = h
says-no-limit (AssumptionFalse number) h l = h
says-no-limit (Limit counts) h l = h

pub says-truly : (text config : List ℕ) → SaysTruly text config
says-truly text config limit (Answered a) (m, names, answered, exact) h =
    let says : kept.SaysNoError a.answer = (zero-says a.answer).0 ((no-error-zero (Answered a)).0 h) in
    (m, names, (means-kept m limit a.answer answered.answer (says-no-fault a.answer says) (says-no-limit a.answer says)).0 says)
says-truly text config limit (Refused r) checked h = let zero : 20 ≡ 0 = (no-error-zero (Refused r)).0 h in absurd (omega (arith, zero))
says-truly text config limit NoMemory checked h = let zero : 22 ≡ 0 = (no-error-zero NoMemory).0 h in absurd (omega (arith, zero))
says-truly text config limit NoWorker checked h = let zero : 22 ≡ 0 = (no-error-zero NoWorker).0 h in absurd (omega (arith, zero))

pub reports-kept : (text config : List ℕ) → ReportsKept text config
reports-kept text config limit a m (n, names, answered, exact) named read within =
    let same : m ≡ n = names.only m named in
    let says : kept.SaysNoError a.answer ↔ kept.IsKept n = means-kept n limit a.answer answered.answer read within in
    let zero : SaysNoError (Answered a) ↔ (answer_status a.answer ≡ 0) = no-error-zero (Answered a) in (
      λ h. subst (λ (x : ModelTree). kept.IsKept x) (sym same) (says.0 ((zero-says a.answer).0 (zero.0 h))),
      λ h. zero.1 ((zero-says a.answer).1 (says.1 (subst (λ (x : ModelTree). kept.IsKept x) same h))),
    )
