use Rattle.std.proofs.Common.{◌∙◌, sym, None}
use Rattle.tla_check.specs.CarriesOver.{lex_code}
use Rattle.tla_check.proofs.Reported.{reported-place, reported-name}
use Rattle.tla_check.proofs.checking.stopped_by_tokens.Goals as goal

pub refused-requires-clause-place : goal.refused-requires-clause-place
refused-requires-clause-place c = reported-place (lex_code c.args.error.code) c.args.error.place None c.in-Some.code c.requires (sym c.lex_code.ensures ∙ c.in-Some.is)

pub refused-requires-clause-name : goal.refused-requires-clause-name
refused-requires-clause-name c = reported-name (lex_code c.args.error.code) c.args.error.place None c.in-Some.code c.requires (sym c.lex_code.ensures ∙ c.in-Some.is)

pub returns-in-Some : goal.returns-in-Some
returns-in-Some c = rw (sym c.lex_code.ensures ∙ c.in-Some.is) c.refused.ensures

pub returns-in-None : goal.returns-in-None
returns-in-None c = sym c.lex_code.ensures ∙ c.in-None.is
