use Rattle.tla_lex.proofs.ClosingFound.{closing_is_found}
use Rattle.tla_lex.proofs.laws.closing_is_found.Goals as goal

pub returns : goal.returns
returns c text from = closing_is_found text from
