use Rattle.std.proofs.Common.{◌∙◌, sym, ap, is_some}
use Rattle.tla_check.specs.CarriesOver.{defs_code}
use Rattle.tla_check.proofs.Reported.{reported-place, reported-name}
use Rattle.tla_check.proofs.checking.stopped_by_definitions.Goals as goal

pub refused-requires-clause-place : goal.refused-requires-clause-place
refused-requires-clause-place c = reported-place (defs_code c.args.error.code) c.args.error.place c.args.error.name c.in-Some.code c.requires (sym c.defs_code.ensures ∙ c.in-Some.is)

pub refused-requires-clause-name : goal.refused-requires-clause-name
refused-requires-clause-name c =
    ap is_some c.name_of_text.ensures ∙ reported-name (defs_code c.args.error.code) c.args.error.place c.args.error.name c.in-Some.code c.requires (sym c.defs_code.ensures ∙ c.in-Some.is)

pub returns-in-Some : goal.returns-in-Some
returns-in-Some c = rw (sym c.defs_code.ensures ∙ c.in-Some.is, ← c.name_of_text.ensures) c.refused.ensures

pub returns-in-None : goal.returns-in-None
returns-in-None c = sym c.defs_code.ensures ∙ c.in-None.is
