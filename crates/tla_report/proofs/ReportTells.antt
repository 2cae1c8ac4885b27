-- The first two bytes of a report determine its status.
use Rattle.std.proofs.Common.{◌≡◌, ◌↔◌, ℕ, List, [], ◌∷◌, ◌++◌, ◌==◌, if◌then◌else◌, refl, sym, ap, ◌∙◌, arith}
use Rattle.std.specs.Prelude.{codes}
use Rattle.tla_config.specs.declared.error.Source.{Source}
use Rattle.tla_config.specs.declared.error.Source.TheVariants.{Module, Configuration}
use Rattle.tla_verdict.specs.Answers.{trace_of, counts_of}
use Rattle.tla_verdict.specs.declared.answer.Answer.{Answer}
use Rattle.tla_verdict.specs.declared.answer.Answer.TheVariants.{NoError, InvariantFalse, Deadlock, Faulted, AssumptionFalse, Limit}
use Rattle.tla_report.specs.declared.checked.Checked.{Checked}
use Rattle.tla_report.specs.declared.checked.Checked.TheVariants.{Answered, Refused, NoMemory, NoWorker}
use Rattle.tla_report.specs.Laws.{SaysNoError, TellsStatus}
use Rattle.tla_report.specs.Report.{report, first_line, trace_lines, counts_line, source_text}
use Rattle.tla_report.specs.Status.{answer_status, status_of}

-- N, I, D, F, As, A and a blank, S, O; else M or C
abbrev by_bytes : ℕ → ℕ → ℕ
by_bytes b c =
    if b == 78 then 0 else (if b == 73 then 10 else (if b == 68 then 11 else (if b == 70 then 12 else
    (if b == 65 then (if c == 115 then 13 else 22) else (if b == 83 then 14 else (if b == 79 then 22 else 20))))))

abbrev status_told : List ℕ → ℕ
status_told [] = 0
status_told (b ∷ []) = 0
status_told (b ∷ c ∷ rest) = by_bytes b c

told-first : (variables invariants constraints : List (List ℕ)) (limit : ℕ) (answer : Answer) (states last : List ℕ) → status_told (first_line variables invariants constraints limit answer ++ states ++ last) ≡ answer_status answer
told-first variables invariants constraints limit (NoError counts) states last = refl
told-first variables invariants constraints limit (InvariantFalse i trace counts) states last = refl
told-first variables invariants constraints limit (Deadlock trace counts) states last = refl
told-first variables invariants constraints limit (Faulted fault part trace counts) states last = refl
told-first variables invariants constraints limit (AssumptionFalse number) states last = refl
told-first variables invariants constraints limit (Limit counts) states last = refl

told-source : (source : Source) (rest feed : List ℕ) → status_told ((source_text source ++ rest) ++ feed) ≡ 20
told-source Module rest feed = refl
told-source Configuration rest feed = refl

told : (c : Checked) → status_told (report c) ≡ status_of c
told (Answered a) = told-first a.variables a.invariants a.constraints a.limit a.answer (trace_lines a.variables 1 (trace_of a.answer)) (counts_line (counts_of a.answer))
told (Refused r) = told-source r.source _ _
told NoMemory = refl
told NoWorker = refl

pub tells-status : (a b : Checked) → TellsStatus a b
tells-status a b e = sym (told a) ∙ ap status_told e ∙ told b

-- ---- `No error.`
first-says : (variables invariants constraints : List (List ℕ)) (limit : ℕ) (answer : Answer) (states last : List ℕ) → answer_status answer ≡ 0
    → (more : List ℕ) × (first_line variables invariants constraints limit answer ++ states ++ last ≡ codes "No error.\n" ++ more)
first-says variables invariants constraints limit (NoError counts) states last e = (states ++ last, refl)
first-says variables invariants constraints limit (InvariantFalse i trace counts) states last e = absurd (omega (arith, e))
first-says variables invariants constraints limit (Deadlock trace counts) states last e = absurd (omega (arith, e))
first-says variables invariants constraints limit (Faulted fault part trace counts) states last e = absurd (omega (arith, e))
first-says variables invariants constraints limit (AssumptionFalse number) states last e = absurd (omega (arith, e))
first-says variables invariants constraints limit (Limit counts) states last e = absurd (omega (arith, e))

says-where-zero : (c : Checked) → status_of c ≡ 0 → SaysNoError c
says-where-zero (Answered a) e = first-says a.variables a.invariants a.constraints a.limit a.answer (trace_lines a.variables 1 (trace_of a.answer)) (counts_line (counts_of a.answer)) e
says-where-zero (Refused r) e = absurd (omega (arith, e))
says-where-zero NoMemory e = absurd (omega (arith, e))
says-where-zero NoWorker e = absurd (omega (arith, e))

pub no-error-zero : (c : Checked) → SaysNoError c ↔ (status_of c ≡ 0)
no-error-zero c = (λ h. sym (told c) ∙ ap status_told h.1, says-where-zero c)
