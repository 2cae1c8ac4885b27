use Rattle.tla_lex.proofs.GapFound.{gap_is_found}
use Rattle.tla_lex.proofs.laws.gap_is_found.Goals as goal

pub returns : goal.returns
returns c text n = gap_is_found text n
