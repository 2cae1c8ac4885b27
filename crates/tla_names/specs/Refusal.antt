-- Refusals of names, and where they are (this project's own choice).
use Rattle.std.specs.Prelude.{◌≡◌, ◌≢◌, Option, Some, None, Result, Ok, Err}
use Rattle.tla_lex.specs.declared.token.Place.{Place}
use Rattle.tla_tree.specs.declared.word.Written.{Written}
use Rattle.tla_config.specs.declared.error.DefsCode.{DefsCode}
use Rattle.tla_config.specs.declared.error.DefsCode.TheVariants as c
use Rattle.tla_config.specs.declared.error.DefsError.{DefsError}
use Rattle.tla_config.specs.declared.error.Source.{Source}
use Rattle.tla_config.specs.declared.error.Source.TheVariants as source
use Rattle.tla_names.specs.Known.{Misuse, Twice, Unknown, Arguments}

-- a refusal with the name that it prints, and one without
abbrev pub refusal_of : DefsCode → Source → Written → DefsError
refusal_of code source w = record { code = code; source = source; place = Some w.place; name = Some w.word }

abbrev pub refusal_at : DefsCode → Source → Place → DefsError
refusal_at code source at = record { code = code; source = source; place = Some at; name = None }

-- a misuse of a name in the module or the configuration
abbrev pub misuse_refused : Source → Misuse → DefsError
misuse_refused s (Twice w) = refusal_of c.DefinedTwice s w
misuse_refused s (Unknown w) = refusal_of c.UnknownName s w
misuse_refused s (Arguments w) = refusal_of c.ArgumentCount s w

abbrev pub refusal_for : Source → Option Misuse → Option DefsError
refusal_for s None = None
refusal_for s (Some m) = Some (misuse_refused s m)

-- A misuse, if any, is what is refused. Memory may be refused at any time.
abbrev pub Says : Source → Result (Unit {0}) DefsError → Option Misuse → Type 0
Says s (Ok _) o = o ≡ None
Says s (Err e) o = e.code ≢ c.Memory → refusal_for s o ≡ Some e

-- a constant without a value
abbrev pub constant_refused : Option Written → Option DefsError
constant_refused None = None
constant_refused (Some w) = Some (refusal_of c.ConstantWithoutValue source.Module w)
