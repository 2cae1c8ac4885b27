-- Laws of the right result for two texts, and of its report. (This project's own choice.)
use Rattle.std.specs.Prelude.{◌≡◌, ◌↔◌, ℕ, List, IsTrue, ⊤}
use Rattle.tla_lex.specs.Tokens.{NoTokens}
use Rattle.tla_model.specs.ModelTree.{ModelTree}
use Rattle.tla_search.specs.Kept.{IsKept, FaultsInReading, PassesLimit}
use Rattle.tla_report.specs.declared.checked.Answered.{Answered as AnsweredCheck}
use Rattle.tla_report.specs.declared.checked.Checked.{Checked}
use Rattle.tla_report.specs.declared.checked.Checked.TheVariants.{Answered, Refused, NoMemory, NoWorker}
use Rattle.tla_check.specs.Checks.{IsChecked, NameModel, NameOnly}
use Rattle.tla_report.specs.Codes.{is_first_code}
use Rattle.tla_report.specs.Report.{report}
use Rattle.tla_report.specs.Laws.{SaysNoError}
use Rattle.tla_report.specs.Status.{status_of}

-- if the report of two texts says `No error.`, they denote exactly one model, and it is kept
abbrev pub SaysTruly : List ℕ → List ℕ → Type 0
SaysTruly text config = (limit : ℕ) (checked : Checked) → IsChecked text config limit checked → SaysNoError checked
    → (m : ModelTree) × NameOnly text config m × IsKept m

-- The report of two texts that denote a model, within the limit and if neither reading Init and Next nor a constraint
-- faulted, says `No error.` exactly if the model is kept.
abbrev pub ReportsKept : List ℕ → List ℕ → Type 0
ReportsKept text config = (limit : ℕ) (a : AnsweredCheck) (m : ModelTree) → IsChecked text config limit (Answered a) → NameModel text config m
    → (FaultsInReading a.answer → ⊥) → (PassesLimit a.answer → ⊥) → SaysNoError (Answered a) ↔ IsKept m

-- an answer or a refusal: memory sufficed, and each worker was started
abbrev pub IsSettled : Checked → Type 0
IsSettled (Answered a) = ⊤
IsSettled (Refused r) = ⊤
IsSettled NoMemory = ⊥
IsSettled NoWorker = ⊥

-- a refusal for the tokens, a name, an item of CONSTANT or the behaviour
abbrev pub IsFirst : Checked → Type 0
IsFirst (Refused r) = IsTrue (is_first_code r.code)
IsFirst _ = ⊥

-- Two results for the same two texts have the same status. Their reports are the same bytes if the texts denote a
-- model, if the module has no tokens, or if one of them is a refusal for a name, an item of CONSTANT or the behaviour.
-- (For other refusals, the definitions leave open which of several reasons is reported, or where.)
pub record AreAlike (text config : List ℕ) (a b : Checked) : Type 0 where
  pub status : status_of a ≡ status_of b
  pub named : (m : ModelTree) → NameModel text config m → report a ≡ report b
  pub no_tokens : NoTokens text → report a ≡ report b
  pub first : IsFirst a → report a ≡ report b

-- The right result doesn't depend on the number of workers, the cut and the schedule. So two calls that differ only in
-- these have results that are alike.
abbrev pub ComeOutAlike : List ℕ → List ℕ → Type 0
ComeOutAlike text config = (limit : ℕ) (a b : Checked) → IsChecked text config limit a → IsChecked text config limit b
    → IsSettled a → IsSettled b → AreAlike text config a b
