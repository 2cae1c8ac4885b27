use Rattle.tla_lex.proofs.FrontFound.{front_is_found}
use Rattle.tla_lex.proofs.laws.front_is_found.Goals as goal

pub returns : goal.returns
returns c source text at f = front_is_found source text at f
