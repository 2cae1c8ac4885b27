use Rattle.tla_expand.proofs.Vectors.{expr_function}
use Rattle.tla_expand.proofs.builders.function.Goals as goal

pub returns : goal.returns
returns c = expr_function c.args.place c.args.sets c.args.body
