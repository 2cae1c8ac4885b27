-- The report of a check: its bytes, line by line. (The texts are this project's own choice.)
use Rattle.std.specs.Prelude.{ℕ, ◌+◌, List, [], ◌∷◌, ◌++◌, codes, Option, Some, None}
use Rattle.std.specs.List.{concat}
use Rattle.std.specs.Fmt.{decimal}
use Rattle.tla_value.specs.Tree.{Tree}
use Rattle.tla_value.specs.Text.{text_of}
use Rattle.tla_core.specs.declared.fault.Place.{Place}
use Rattle.tla_core.specs.declared.fault.Fault.{Fault}
use Rattle.tla_core.specs.Fault.{code_text}
use Rattle.tla_verdict.specs.Answers.{trace_of, counts_of}
use Rattle.tla_verdict.specs.declared.finding.Part.{Part}
use Rattle.tla_verdict.specs.declared.finding.Part.TheVariants.{Assumption, Initial, NextAction, Invariant, Constraint}
use Rattle.tla_levels.specs.declared.answer.Counts.{Counts}
use Rattle.tla_verdict.specs.declared.answer.Answer.{Answer}
use Rattle.tla_verdict.specs.declared.answer.Answer.TheVariants.{NoError, InvariantFalse, Deadlock, Faulted, AssumptionFalse, Limit}
use Rattle.tla_report.specs.declared.checked.Answered.{Answered as AnsweredCheck}
use Rattle.tla_config.specs.declared.error.Source.{Source}
use Rattle.tla_config.specs.declared.error.Source.TheVariants.{Module, Configuration}
use Rattle.tla_report.specs.declared.checked.Refusal.{Refusal}
use Rattle.tla_report.specs.declared.checked.Checked.{Checked}
use Rattle.tla_report.specs.declared.checked.Checked.TheVariants.{Answered, Refused, NoMemory, NoWorker}
use Rattle.tla_report.specs.Names.{name_at}
use Rattle.tla_report.specs.Codes.{refusal_code}

-- texts concatenated, and a line feed
abbrev pub line : List (List ℕ) → List ℕ
line texts = concat texts ++ codes "\n"

abbrev pub place_text : Place → List ℕ
place_text p = concat (codes " at line " ∷ decimal p.line ∷ codes ", column " ∷ decimal p.column ∷ [])

-- the variable or the place of a fault
abbrev pub site_text : List (List ℕ) → Option Place → Option ℕ → List ℕ
site_text variables place (Some i) = concat (codes " for variable " ∷ name_at variables i ∷ [])
site_text variables (Some p) None = place_text p
site_text variables None None = []

abbrev pub part_text : List (List ℕ) → List (List ℕ) → Part → List ℕ
part_text invariants constraints (Assumption number) = concat (codes "assumption " ∷ decimal number ∷ [])
part_text invariants constraints Initial = codes "the initial predicate"
part_text invariants constraints NextAction = codes "the next-state action"
part_text invariants constraints (Invariant i) = concat (codes "invariant " ∷ name_at invariants i ∷ [])
part_text invariants constraints (Constraint i) = concat (codes "constraint " ∷ name_at constraints i ∷ [])

-- the end of the line of a fault
abbrev pub part_line : List (List ℕ) → List (List ℕ) → Part → List ℕ
part_line invariants constraints part = line (codes " in " ∷ part_text invariants constraints part ∷ codes "." ∷ [])

abbrev pub fault_line : List (List ℕ) → List (List ℕ) → List (List ℕ) → Fault → Part → List ℕ
fault_line variables invariants constraints fault part =
    concat (codes "Fault " ∷ code_text fault.code ∷ site_text variables fault.place fault.variable ∷ []) ++ part_line invariants constraints part

-- the answer of the search, given the names of the variables, of the invariants and of the constraints, and the limit
abbrev pub first_line : List (List ℕ) → List (List ℕ) → List (List ℕ) → ℕ → Answer → List ℕ
first_line variables invariants constraints limit (NoError counts) = line (codes "No error." ∷ [])
first_line variables invariants constraints limit (InvariantFalse i trace counts) = line (codes "Invariant " ∷ name_at invariants i ∷ codes " is false." ∷ [])
first_line variables invariants constraints limit (Deadlock trace counts) = line (codes "Deadlock." ∷ [])
first_line variables invariants constraints limit (Faulted fault part trace counts) = fault_line variables invariants constraints fault part
first_line variables invariants constraints limit (AssumptionFalse number) = line (codes "Assumption " ∷ decimal number ∷ codes " is false." ∷ [])
first_line variables invariants constraints limit (Limit counts) = line (codes "State limit " ∷ decimal limit ∷ codes " passed." ∷ [])

abbrev pub value_line : List ℕ → Tree → List ℕ
value_line variable value = line (codes "/\\ " ∷ variable ∷ codes " = " ∷ text_of value ∷ [])

-- a line for each variable and its value
abbrev pub value_lines : List (List ℕ) → List Tree → List ℕ
value_lines [] values = []
value_lines (variable ∷ variables) [] = []
value_lines (variable ∷ variables) (value ∷ values) = value_line variable value ++ value_lines variables values

abbrev pub state_lines : List (List ℕ) → ℕ → List Tree → List ℕ
state_lines variables number state = line (codes "State " ∷ decimal number ∷ codes ":" ∷ []) ++ value_lines variables state

-- the states of a trace, numbered from `number` on
abbrev pub trace_lines : List (List ℕ) → ℕ → List (List Tree) → List ℕ
trace_lines variables number [] = []
trace_lines variables number (state ∷ states) = state_lines variables number state ++ trace_lines variables (number + 1) states

abbrev pub counts_line : Counts → List ℕ
counts_line counts = line (codes "Levels " ∷ decimal counts.levels ∷ codes ", states " ∷ decimal counts.states ∷ codes "." ∷ [])

abbrev pub answer_report : AnsweredCheck → List ℕ
answer_report a =
    first_line a.variables a.invariants a.constraints a.limit a.answer ++ trace_lines a.variables 1 (trace_of a.answer) ++ counts_line (counts_of a.answer)

abbrev pub source_text : Source → List ℕ
source_text Module = codes "Module"
source_text Configuration = codes "Configuration"

-- the end of a refusal: its name, if it has one
abbrev pub ending : Option (List ℕ) → List ℕ
ending None = codes "."
ending (Some name) = concat (codes ": " ∷ name ∷ codes "." ∷ [])

abbrev pub refusal_line : Refusal → List ℕ
refusal_line r = line (source_text r.source ∷ codes " refused: " ∷ refusal_code r.code ∷ place_text r.place ∷ ending r.name ∷ [])

abbrev pub report : Checked → List ℕ
report (Answered a) = answer_report a
report (Refused r) = refusal_line r
report NoMemory = line (codes "Out of memory." ∷ [])
report NoWorker = line (codes "A worker could not be started." ∷ [])
