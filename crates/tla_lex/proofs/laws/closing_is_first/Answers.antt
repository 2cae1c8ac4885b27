use Rattle.std.proofs.Common.{drop}
use Rattle.tla_lex.specs.InCode.{code}
use Rattle.tla_lex.proofs.ClosingFirst.{closing_first}
use Rattle.tla_lex.proofs.laws.closing_is_first.Goals as goal

pub returns : goal.returns
returns c text from = closing_first code from (drop from text)
