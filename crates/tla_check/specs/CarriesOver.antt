-- How a refusal of a stage is reported: under the same code and name, at the same place. (This project's own choice.)
use Rattle.std.specs.Prelude.{◌≡◌, ℕ, List, Option, Some, None, option_map, is_some, IsSome, ⊤}
use Rattle.tla_lex.specs.declared.error.LexCode.{LexCode}
use Rattle.tla_lex.specs.declared.error.LexCode.TheVariants as lex
use Rattle.tla_lex.specs.declared.token.Place as text
use Rattle.tla_parse.specs.declared.error.ParseCode.{ParseCode}
use Rattle.tla_parse.specs.declared.error.ParseCode.TheVariants as parse
use Rattle.tla_config.specs.declared.error.DefsCode.{DefsCode}
use Rattle.tla_config.specs.declared.error.DefsCode.TheVariants as defs
use Rattle.tla_config.specs.declared.error.Source.{Source}
use Rattle.tla_core.specs.declared.fault.Place.{Place}
use Rattle.tla_report.specs.declared.checked.RefusalCode.{RefusalCode}
use Rattle.tla_report.specs.declared.checked.RefusalCode.TheVariants as refusal
use Rattle.tla_report.specs.declared.checked.Refusal.{Refusal}
use Rattle.tla_report.specs.Codes.{is_named_code}
use Rattle.tla_report.specs.declared.checked.Checked.{Checked}
use Rattle.tla_report.specs.declared.checked.Checked.TheVariants.{Answered, Refused, NoMemory, NoWorker}

-- that memory ran out is no refusal
abbrev pub lex_code : LexCode → Option RefusalCode
lex_code lex.NotUtf8 = Some refusal.NotUtf8
lex_code lex.Unknown = Some refusal.UnknownCharacter
lex_code lex.OpenString = Some refusal.OpenString
lex_code lex.OpenComment = Some refusal.OpenComment
lex_code lex.NumberTooLarge = Some refusal.NumberTooLarge
lex_code lex.NoHeader = Some refusal.NoHeader
lex_code lex.NoClosingLine = Some refusal.NoClosingLine
lex_code lex.NoMemory = None

abbrev pub parse_code : ParseCode → Option RefusalCode
parse_code parse.Unexpected = Some refusal.UnexpectedToken
parse_code parse.Precedence = Some refusal.PrecedenceConflict
parse_code parse.Column = Some refusal.LeftOfJunction
parse_code parse.Nesting = Some refusal.NestedTooDeep
parse_code parse.LeftOut = Some refusal.FormLeftOut
parse_code parse.NoMemory = None

abbrev pub defs_code : DefsCode → Option RefusalCode
defs_code defs.ConfigurationText = Some refusal.ConfigurationText
defs_code defs.UnknownName = Some refusal.UnknownName
defs_code defs.DefinedTwice = Some refusal.DefinedTwice
defs_code defs.ArgumentCount = Some refusal.ArgumentCount
defs_code defs.Level = Some refusal.Level
defs_code defs.ConstantWithoutValue = Some refusal.ConstantWithoutValue
defs_code defs.CircularReplacement = Some refusal.CircularReplacement
defs_code defs.SpecificationForm = Some refusal.SpecificationForm
defs_code defs.BehaviourCount = Some refusal.BehaviourCount
defs_code defs.StatementLeftOut = Some refusal.StatementLeftOut
defs_code defs.ExpansionTooLarge = Some refusal.ExpansionTooLarge
defs_code defs.Memory = None

-- a refusal that is reported has a place, and a name exactly if the report prints one
abbrev pub IsReportable : Option RefusalCode → Option text.Place → Option (List ℕ) → Type 0
IsReportable None place name = ⊤
IsReportable (Some code) place name = IsSome place × (is_some name ≡ is_named_code code)

abbrev pub place_of : text.Place → Place
place_of p = record { line = p.line; column = p.column }

-- the refusal is of this text, under this code, at this place and with this name
pub record CarriesOver (of : Source) (under : Option RefusalCode) (at : Option text.Place) (word : Option (List ℕ)) (r : Refusal) : Type 0 where
  pub source : r.source ≡ of
  pub code : under ≡ Some r.code
  pub place : option_map place_of at ≡ Some r.place
  pub name : r.name ≡ word

-- a stage's refusal ends the check; the check runs out of memory only if the stage did
abbrev pub EndsBy : Source → Option RefusalCode → Option text.Place → Option (List ℕ) → Checked → Type 0
EndsBy source code place name (Answered a) = ⊥
EndsBy source code place name (Refused r) = CarriesOver source code place name r
EndsBy source code place name NoMemory = code ≡ None
EndsBy source code place name NoWorker = ⊥
