-- The right result of a check of two texts. The stages are tokens, module, configuration, model and search; the first
-- that refuses ends the check. (This project's own choice.)
use Rattle.std.specs.Prelude.{◌≡◌, ◌≤◌, ℕ, List, length, map, Some, None, ⊤}
use Rattle.tla_lex.specs.Places.{place_at}
use Rattle.tla_lex.specs.Tokens.{AreTokens, IsFirstFault}
use Rattle.tla_lex.specs.declared.token.Token.{Token}
use Rattle.tla_lex.specs.declared.error.LexError.{LexError}
use Rattle.tla_parse.specs.Parsing.{Justified}
use Rattle.tla_tree.specs.Units.{UnitTree}
use Rattle.tla_tree.specs.declared.tree.TheConstants.{MAX_DEPTH}
use Rattle.tla_parse.specs.Units.{units_depth, SpellsModule}
use Rattle.tla_parse.specs.declared.error.ParseError.{ParseError}
use Rattle.tla_config.specs.Configuration.{IsConfiguration}
use Rattle.tla_config.specs.Statements.{Statement}
use Rattle.tla_config.specs.Refusals.{Explains}
use Rattle.tla_config.specs.View.{ConfigTree}
use Rattle.tla_config.specs.declared.error.DefsError.{DefsError}
use Rattle.tla_config.specs.declared.error.Source.TheVariants.{Module, Configuration}
use Rattle.tla_defs.specs.Model.{IsModel}
use Rattle.tla_defs.specs.Refused as defs
use Rattle.tla_levels.specs.Meaning.{IsWithinLimit, SaysExactly}
use Rattle.tla_model.specs.ModelTree.{ModelTree}
use Rattle.tla_core.specs.Expr.{Expr}
use Rattle.tla_verdict.specs.Answers.{HasNoReadingFault, IsAnswerOf, outcome_of}
use Rattle.tla_search.specs.Systems.{read_system, true_system}
use Rattle.tla_report.specs.declared.checked.Answered.{Answered as AnsweredCheck}
use Rattle.tla_report.specs.declared.checked.Checked.{Checked}
use Rattle.tla_report.specs.declared.checked.Checked.TheVariants.{Answered, Refused, NoMemory, NoWorker}
use Rattle.tla_report.specs.declared.checked.Refusal.{Refusal}
use Rattle.tla_check.specs.CarriesOver.{CarriesOver, lex_code, parse_code, defs_code}

-- the units of the module's tokens, with expressions within the depth limit
pub record IsTreeOf (text : List ℕ) (units : List UnitTree) : Type 0 where
  pub tokens : List Token
  pub are : AreTokens text tokens
  pub spelled : SpellsModule text tokens units
  pub shallow : units_depth units ≤ MAX_DEPTH

-- the two texts denote the model
pub record NameModel (text config : List ℕ) (m : ModelTree) : Type 0 where
  pub units : List UnitTree
  pub tree : IsTreeOf text units
  pub statements : List Statement
  pub configuration : IsConfiguration config statements
  pub model : IsModel units statements m

-- the texts denote this model, and no other
pub record NameOnly (text config : List ℕ) (m : ModelTree) : Type 0 where
  pub named : NameModel text config m
  pub only : (n : ModelTree) → NameModel text config n → n ≡ m

-- the texts denote no model
abbrev pub NameNone : List ℕ → List ℕ → Type 0
NameNone text config = (m : ModelTree) → NameModel text config m → ⊥

-- the refusal of the first stage that refuses
pub data IsRefusal (text config : List ℕ) (r : Refusal) : Type 0 where
  -- the text has no tokens: this is its first fault
  of_tokens : (e : LexError) → IsFirstFault text e → CarriesOver Module (lex_code e.code) e.place None r → IsRefusal text config r
  -- no units within the depth limit have these tokens
  of_module : (tokens : List Token) (e : ParseError) → AreTokens text tokens → Justified text tokens e.code e.place e.name
      → CarriesOver Module (parse_code e.code) e.place e.name r → IsRefusal text config r
  -- the configuration has no statements
  of_configuration : (units : List UnitTree) (e : DefsError) → IsTreeOf text units → ((cs : List Statement) → IsConfiguration config cs → ⊥)
      → Explains config e.code e.place e.name → CarriesOver Configuration (defs_code e.code) e.place e.name r → IsRefusal text config r
  -- module and configuration denote no model
  of_model : (units : List UnitTree) (c : ConfigTree) (e : DefsError) → IsTreeOf text units → IsConfiguration config c.statements
      → c.end ≡ place_at config (length config) → defs.IsRefusal units c e → ((m : ModelTree) → IsModel units c.statements m → ⊥)
      → CarriesOver e.source (defs_code e.code) e.place e.name r → IsRefusal text config r

-- the texts are refused by the first stage that refuses them, and denote no model
pub record AreRefused (text config : List ℕ) (r : Refusal) : Type 0 where
  pub stage : IsRefusal text config r
  pub none : NameNone text config

abbrev pub names_in : List (List ℕ × Expr) → List (List ℕ)
names_in predicates = map (λ (p : List ℕ × Expr). p.0) predicates

-- the answer is the right one for the limit, with the names of the model
pub record IsAnswered (m : ModelTree) (most : ℕ) (a : AnsweredCheck) : Type 0 where
  pub variables : a.variables ≡ m.variables
  pub invariants : a.invariants ≡ names_in m.invariants
  pub constraints : a.constraints ≡ names_in m.constraints
  pub limit : a.limit ≡ most
  pub answer : IsAnswerOf (read_system m) most a.answer

-- If the search began, and no reading or constraint faulted, the answer is also right over the steps that make Next
-- TRUE; they begin at states at which each constraint is TRUE. Then, within the limit, it is 'no error' exactly if at
-- every reachable state the invariants are TRUE and, if deadlock is checked and the constraints are TRUE, there is a
-- successor; else it has the one shortest trace to the first state at which that isn't so. Its counts are those of the
-- levels.
pub record IsExact (m : ModelTree) (most : ℕ) (a : AnsweredCheck) : Type 0 where
  pub truth : HasNoReadingFault a.answer → IsAnswerOf (true_system m) most a.answer
  pub exactly : HasNoReadingFault a.answer → IsWithinLimit (outcome_of a.answer) → SaysExactly (true_system m) most (outcome_of a.answer)

-- the right answer for a model and a limit, if the search has one
abbrev pub IsFound : ModelTree → ℕ → Checked → Type 0
IsFound m limit (Answered a) = IsAnswered m limit a × IsExact m limit a
IsFound m limit (Refused r) = ⊥
IsFound m limit NoMemory = ⊤
IsFound m limit NoWorker = ⊤

-- the right result of a check that ends before its search
abbrev pub IsStopped : List ℕ → List ℕ → Checked → Type 0
IsStopped text config (Refused r) = AreRefused text config r
IsStopped text config NoMemory = ⊤
IsStopped text config _ = ⊥

-- The right result for two texts and a limit: the answer of the search of the one model that they denote, or why they
-- denote none. If memory ran out, nothing is promised; if a worker could not be started, the texts denote one model.
abbrev pub IsChecked : List ℕ → List ℕ → ℕ → Checked → Type 0
IsChecked text config limit (Answered a) = (m : ModelTree) × NameOnly text config m × IsAnswered m limit a × IsExact m limit a
IsChecked text config limit (Refused r) = AreRefused text config r
IsChecked text config limit NoMemory = ⊤
IsChecked text config limit NoWorker = (m : ModelTree) × NameOnly text config m
