-- After a parse of the command, its five arguments with a value have one. Only private contracts cite this file.
use Rattle.std.specs.Prelude.{◌≡◌, ◌≤◌, ◌⊎◌, ℕ, None, Some, true, false, codes, is_some, ⊤}
use Rattle.clap.specs.Words.{IsParsedFrom, IsPlainArg, Text, first_value, found_of}
use Rattle.clap.specs.Facts.{WantsDefault, least_values}
use Rattle.clap.specs.declared.builder.action.ArgAction.TheVariants.{Set}
use Rattle.clap.specs.declared.builder.arg.Arg.{Arg}
use Rattle.clap.specs.declared.builder.command.Command.{Command}
use Rattle.clap.specs.declared.parser.matches.ArgMatches.{ArgMatches}
use Rattle.tla_line.specs.CommandLine.{Writes}
use Rattle.tla_line.specs.declared.line.LineFault.{LineFault}
use Rattle.tla_line.specs.declared.line.LineFault.TheVariants.{Number}
use Rattle.tla_line.specs.declared.number.NumberOption.{NumberOption}
use Rattle.tla_line.specs.declared.number.NumberOption.TheVariants.{Workers, Cut, MaxStates}

-- the matches have a value of this name
abbrev pub HasValue : ArgMatches → Text → Type 0
HasValue m name = is_some (first_value (found_of m) name) ≡ true

-- the matches have a value of each of the five arguments
pub record HasEach (m : ArgMatches) : Type 0 where
  pub module_file : HasValue m (codes "MODULE")
  pub config_file : HasValue m (codes "CONFIG")
  pub workers : HasValue m (codes "workers")
  pub cut : HasValue m (codes "cut")
  pub limit : HasValue m (codes "max-states")

-- each successful parse of the command has a value of each of them
abbrev pub GivesEach : Command → Type 0
GivesEach c = (m : ArgMatches) → IsParsedFrom c m → HasEach m

-- the argument takes one value in each use, and is required or has a default
pub record AlwaysHasValue (a : Arg) : Type 0 where
  pub used : (a.required ≡ true) ⊎ WantsDefault a
  pub action : a.action ≡ Some Set
  pub delimiter : a.val_delim ≡ None
  pub least : 1 ≤ least_values a

-- the argument has this id, and nothing excludes it
pub record IsArgument (id : Text) (a : Arg) : Type 0 where
  pub name : a.id.now ≡ id
  pub plain : IsPlainArg a
  pub local : a.global ≡ false

-- the text is no number
abbrev pub WritesNoNumber : Text → Type 0
WritesNoNumber text = (n : ℕ) → Writes text n → ⊥

-- the fault is one of `clap`, not a bad number
abbrev pub IsOfClap : LineFault → Type 0
IsOfClap Number = ⊥
IsOfClap _ = ⊤

-- the text of an option, among three
abbrev pub text_for : NumberOption → Text → Text → Text → Text
text_for Workers workers cut limit = workers
text_for Cut workers cut limit = cut
text_for MaxStates workers cut limit = limit
