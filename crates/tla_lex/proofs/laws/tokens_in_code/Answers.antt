use Rattle.tla_lex.proofs.InCode.{tokens_in_code}
use Rattle.tla_lex.proofs.laws.tokens_in_code.Goals as goal

pub returns : goal.returns
returns c source text at ts stop h = tokens_in_code source text at ts stop h
