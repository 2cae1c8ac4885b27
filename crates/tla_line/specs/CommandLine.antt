-- The command line `tlacheck MODULE CONFIG [OPTIONS]`, and what the words of a call mean by it. The crate `clap`
-- defines how words match a command (`matches_of` and `fault_of`); the command is this project's own choice.
use Rattle.std.specs.Prelude.{◌≡◌, ◌<◌, ◌^◌, ℕ, Bool, List, [], ◌∷◌, Option, Some, true, false, codes}
use Rattle.std.specs.Prelude.{IsSomeAnd, option_map}
use Rattle.std.specs.List.{list_any}
use Rattle.std.specs.Borrow.{Bor}
use Rattle.std.specs.Str.{bytes_eq}
use Rattle.std.specs.Str.Parse.{IsNumeral, digits_value, without_leading_plus}
use Rattle.clap.specs.Words.{App, Kinds, Rule, Text, fault_of, first_of, matches_of, new_app}
use Rattle.clap.specs.Words.{new_rule, one_of, with_rule}
use Rattle.clap.specs.Simple.{on_top}
use Rattle.clap.specs.declared.builder.action.ArgAction.TheVariants.{Set, SetTrue}
use Rattle.tla_options.specs.Options.{IsCount, IsWithinLimits, MAX_PIECE, MAX_WORKERS}
use Rattle.tla_options.specs.declared.options.TheConstants.{MAX_STATES}
use Rattle.tla_line.specs.declared.line.Line.{Line}
use Rattle.tla_line.specs.declared.number.NumberOption.{NumberOption}
use Rattle.tla_line.specs.declared.number.NumberOption.TheVariants.{Workers, Cut, MaxStates}

-- ---- the command

-- a required positional argument
abbrev pub required_word : Text → Rule
required_word name = record (new_rule name) { action = Some Set; required = true }

-- `--name N`, whose default is `fallback`
abbrev pub number_option : Text → Text → Rule
number_option name fallback = record (new_rule name) {
  long = Some name;
  action = Some Set;
  value_names = 1;
  defaults = fallback ∷ [];
}

-- `--name FILE`, without a default
abbrev pub file_option : Text → Rule
file_option name = record (new_rule name) {
  long = Some name;
  action = Some Set;
  value_names = 1;
}

-- the flag `--name`
abbrev pub flag : Text → Rule
flag name = record (new_rule name) { long = Some name; action = Some SetTrue }

-- the command has a version
abbrev pub with_version : App → App
with_version = on_top (λ s. record s { has_version = true })

-- an app with more arguments, in this order
abbrev pub add_rules : App → List Rule → App
add_rules app [] = app
add_rules app (rule ∷ rules) = add_rules (with_rule app rule) rules

-- the command, to which `clap` adds `--help` and `--version`
abbrev pub tlacheck : App
tlacheck = add_rules (with_version (new_app (codes "tlacheck"))) (
    required_word (codes "MODULE")
    ∷ required_word (codes "CONFIG")
    ∷ number_option (codes "workers") (codes "1")
    ∷ number_option (codes "cut") (codes "1024")
    ∷ number_option (codes "max-states") (codes "16777216")
    ∷ file_option (codes "json")
    ∷ file_option (codes "dot")
    ∷ flag (codes "full")
    ∷ flag (codes "coverage")
    ∷ flag (codes "explain")
    ∷ flag (codes "quiet")
    ∷ [])

-- ---- what words mean; the first word is the program's name

-- the faults that `clap` may report for the words, a call for help among them; none if it accepts the words
abbrev pub faults_of : List Text → Kinds
faults_of words = fault_of tlacheck words

-- the value of an argument by the words
abbrev pub text_of : List Text → Text → Option Text
text_of words name = first_of name (matches_of tlacheck words)

-- the value of a flag by the words: `true` if the words have it, else `false`
abbrev pub flag_of : List Text → Text → Option Text
flag_of words name = one_of name (matches_of tlacheck words)

-- whether a flag with this text is set
pub record IsSet (text : Option Text) (set : Bool) : Type 0 where
  pub given : text ≡ Some (codes "true") → set ≡ true
  pub left_out : text ≡ Some (codes "false") → set ≡ false

-- the text is n in decimal digits, perhaps after a plus, and n fits 64 bits
abbrev pub Writes : Text → ℕ → Type 0
Writes text n = IsNumeral 10 (without_leading_plus text)
    × (digits_value 10 (without_leading_plus text) ≡ n)
    × (n < 2 ^ 64)

-- the value of the option is the number n
abbrev pub NamesNumber : List Text → Text → ℕ → Type 0
NamesNumber words option n = IsSomeAnd (text_of words option) (λ text. Writes text n)

-- the value of the option is this file, or the option has none
abbrev pub NamesFile : List Text → Text → Option (Bor Text) → Type 0
NamesFile words option file = text_of words option ≡ option_map (λ name. name.now) file

-- the words set the flag exactly if `set` is true
abbrev pub SetsFlag : List Text → Text → Bool → Type 0
SetsFlag words name set = IsSet (flag_of words name) set

-- the words have each part of the line
pub record NamesLine (words : List Text) (line : Line) : Type 0 where
  pub module_file : text_of words (codes "MODULE") ≡ Some line.module.now
  pub config_file : text_of words (codes "CONFIG") ≡ Some line.config.now
  pub workers : NamesNumber words (codes "workers") line.options.workers
  pub cut : NamesNumber words (codes "cut") line.options.cut
  pub limit : NamesNumber words (codes "max-states") line.options.limit
  pub within : IsWithinLimits line.options
  pub json : NamesFile words (codes "json") line.json
  pub dot : NamesFile words (codes "dot") line.dot
  pub full : SetsFlag words (codes "full") line.full
  pub coverage : SetsFlag words (codes "coverage") line.coverage
  pub quiet : SetsFlag words (codes "quiet") line.quiet

-- the words mean the line
pub record MeanLine (words : List Text) (line : Line) : Type 0 where
  -- `clap` finds no fault in the words
  pub taken : faults_of words ≡ []
  -- they have each part of the line
  pub names : NamesLine words line

-- the text is no number from 1 to most
abbrev pub WritesNoCount : ℕ → Text → Type 0
WritesNoCount most text = (n : ℕ) → Writes text n → IsCount most n → ⊥

-- the name of an option that takes a number
abbrev pub name_of : NumberOption → Text
name_of Workers = codes "workers"
name_of Cut = codes "cut"
name_of MaxStates = codes "max-states"

-- the greatest number that it takes; the least is 1
abbrev pub most_of : NumberOption → ℕ
most_of Workers = MAX_WORKERS
most_of Cut = MAX_PIECE
most_of MaxStates = MAX_STATES

-- the value of the option is no number within its range
abbrev pub NamesBadNumber : List Text → NumberOption → Type 0
NamesBadNumber words option = IsSomeAnd (text_of words (name_of option)) (WritesNoCount (most_of option))

-- `--quiet` is one of the words
abbrev pub is_quiet : List Text → Bool
is_quiet words = list_any (λ word. bytes_eq word (codes "--quiet")) words
