-- A stage's refusal is reported with a place, and with a name exactly where the report prints one.
use Rattle.std.proofs.Common.{◌≡◌, ◌≢◌, ◌∙◌, ℕ, List, Option, Some, None, refl, sym, ap, is_some, IsSome}
use Rattle.tla_lex.specs.declared.error.LexCode.{LexCode}
use Rattle.tla_lex.specs.declared.error.LexCode.TheVariants as lex
use Rattle.tla_lex.specs.declared.token.Place.{Place}
use Rattle.tla_parse.specs.declared.error.ParseCode.{ParseCode}
use Rattle.tla_parse.specs.declared.error.ParseCode.TheVariants as parse
use Rattle.tla_parse.specs.Parsing.{IsLocated}
use Rattle.tla_config.specs.Refusals as config
use Rattle.tla_config.specs.declared.error.DefsCode.{DefsCode}
use Rattle.tla_config.specs.declared.error.DefsCode.TheVariants as defs
use Rattle.tla_report.specs.declared.checked.RefusalCode.{RefusalCode}
use Rattle.tla_report.specs.declared.checked.RefusalCode.TheVariants as refusal
use Rattle.tla_report.specs.Codes.{is_named_code}
use Rattle.tla_check.specs.CarriesOver.{IsReportable, lex_code, parse_code, defs_code}

none-some : (code : RefusalCode) → (let o : Option RefusalCode = None in o ≡ Some code) → ⊥
none-some code e = cc

some-is : (v w : RefusalCode) → (let o : Option RefusalCode = Some v in o ≡ Some w) → v ≡ w
some-is v w e = cc

pub not-lex-memory : (code : LexCode) (refusal_code : RefusalCode) → lex_code code ≡ Some refusal_code → code ≢ lex.NoMemory
not-lex-memory code refusal_code e m = none-some refusal_code (sym (ap lex_code m) ∙ e)

pub not-memory : (code : DefsCode) (refusal_code : RefusalCode) → defs_code code ≡ Some refusal_code → code ≢ defs.Memory
not-memory code refusal_code e m = none-some refusal_code (sym (ap defs_code m) ∙ e)

pub reported-place : (o : Option RefusalCode) (place : Option Place) (name : Option (List ℕ)) (code : RefusalCode) → IsReportable o place name → o ≡ Some code → IsSome place
reported-place None place name code h e = absurd (none-some code e)
reported-place (Some c) place name code h e = h.0

pub reported-name : (o : Option RefusalCode) (place : Option Place) (name : Option (List ℕ)) (code : RefusalCode) → IsReportable o place name → o ≡ Some code → is_some name ≡ is_named_code code
reported-name None place name code h e = absurd (none-some code e)
reported-name (Some c) place name code h e = h.1 ∙ ap is_named_code (some-is c code e)

pub lex-reported : (code : LexCode) (place : Option Place) → (code ≢ lex.NoMemory → IsSome place) → IsReportable (lex_code code) place None
lex-reported lex.NotUtf8 place h = (h (not-lex-memory lex.NotUtf8 refusal.NotUtf8 refl), refl)
lex-reported lex.Unknown place h = (h (not-lex-memory lex.Unknown refusal.UnknownCharacter refl), refl)
lex-reported lex.OpenString place h = (h (not-lex-memory lex.OpenString refusal.OpenString refl), refl)
lex-reported lex.OpenComment place h = (h (not-lex-memory lex.OpenComment refusal.OpenComment refl), refl)
lex-reported lex.NumberTooLarge place h = (h (not-lex-memory lex.NumberTooLarge refusal.NumberTooLarge refl), refl)
lex-reported lex.NoHeader place h = (h (not-lex-memory lex.NoHeader refusal.NoHeader refl), refl)
lex-reported lex.NoClosingLine place h = (h (not-lex-memory lex.NoClosingLine refusal.NoClosingLine refl), refl)
lex-reported lex.NoMemory place h = tt

pub parse-reported : (code : ParseCode) (place : Option Place) (name : Option (List ℕ)) → IsLocated code place name → IsReportable (parse_code code) place name
parse-reported parse.Unexpected (Some p) None h = (refl, refl)
parse-reported parse.Precedence (Some p) None h = (refl, refl)
parse-reported parse.Column (Some p) None h = (refl, refl)
parse-reported parse.Nesting (Some p) None h = (refl, refl)
parse-reported parse.LeftOut (Some p) (Some x) h = (refl, refl)
parse-reported parse.NoMemory place name h = tt
parse-reported parse.Unexpected (Some p) (Some x) h = absurd h
parse-reported parse.Unexpected None name h = absurd h
parse-reported parse.Precedence (Some p) (Some x) h = absurd h
parse-reported parse.Precedence None name h = absurd h
parse-reported parse.Column (Some p) (Some x) h = absurd h
parse-reported parse.Column None name h = absurd h
parse-reported parse.Nesting (Some p) (Some x) h = absurd h
parse-reported parse.Nesting None name h = absurd h
parse-reported parse.LeftOut (Some p) None h = absurd h
parse-reported parse.LeftOut None name h = absurd h

pub defs-reported : (code : DefsCode) (place : Option Place) (name : Option (List ℕ)) → config.IsLocated code place name → IsReportable (defs_code code) place name
defs-reported defs.ConfigurationText (Some p) name h = (refl, h)
defs-reported defs.UnknownName (Some p) name h = (refl, h)
defs-reported defs.DefinedTwice (Some p) name h = (refl, h)
defs-reported defs.ArgumentCount (Some p) name h = (refl, h)
defs-reported defs.Level (Some p) name h = (refl, h)
defs-reported defs.ConstantWithoutValue (Some p) name h = (refl, h)
defs-reported defs.CircularReplacement (Some p) name h = (refl, h)
defs-reported defs.SpecificationForm (Some p) name h = (refl, h)
defs-reported defs.BehaviourCount (Some p) name h = (refl, h)
defs-reported defs.StatementLeftOut (Some p) name h = (refl, h)
defs-reported defs.ExpansionTooLarge (Some p) name h = (refl, h)
defs-reported defs.Memory place name h = tt
defs-reported defs.ConfigurationText None name h = absurd h
defs-reported defs.UnknownName None name h = absurd h
defs-reported defs.DefinedTwice None name h = absurd h
defs-reported defs.ArgumentCount None name h = absurd h
defs-reported defs.Level None name h = absurd h
defs-reported defs.ConstantWithoutValue None name h = absurd h
defs-reported defs.CircularReplacement None name h = absurd h
defs-reported defs.SpecificationForm None name h = absurd h
defs-reported defs.BehaviourCount None name h = absurd h
defs-reported defs.StatementLeftOut None name h = absurd h
defs-reported defs.ExpansionTooLarge None name h = absurd h
