use Rattle.tla_expand.proofs.Vectors.{expr_cases_or}
use Rattle.tla_expand.proofs.builders.cases_or.Goals as goal

pub returns : goal.returns
returns c = expr_cases_or c.args.place c.args.arms c.args.last
