use Rattle.tla_expand.proofs.Vectors.{expr_cases}
use Rattle.tla_expand.proofs.builders.cases_core.Goals as goal

pub returns : goal.returns
returns c = expr_cases c.args.place c.args.arms
