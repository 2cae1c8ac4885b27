use Rattle.std.proofs.Common.{length}
use Rattle.tla_lex.proofs.Numbers.{number_is, is_number}
use Rattle.tla_lex.proofs.laws.number_is_found.Goals as goal

pub returns : goal.returns
returns c source w kind = (λ h. number_is source w kind (length w) h, λ h. is_number source w kind h)
