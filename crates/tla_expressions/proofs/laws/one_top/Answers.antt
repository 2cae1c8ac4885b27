use Rattle.tla_expressions.proofs.Ends.{same_ends}
use Rattle.tla_expressions.proofs.laws.one_top.Goals as goal

pub returns : goal.returns
returns c text ts s from to t u a b = same_ends text ts t u s from to a b
