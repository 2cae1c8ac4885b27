use Rattle.tla_lex.proofs.StringsFound.{string_is_found}
use Rattle.tla_lex.proofs.laws.string_is_found.Goals as goal

pub returns : goal.returns
returns c text l starts = string_is_found text l starts
