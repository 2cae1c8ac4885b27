use Rattle.tla_lex.proofs.HeaderFound.{header_is_found}
use Rattle.tla_lex.proofs.laws.header_is_found.Goals as goal

pub returns : goal.returns
returns c text = header_is_found text
