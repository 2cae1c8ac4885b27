use Rattle.tla_expand.proofs.Vectors.{expr_except}
use Rattle.tla_expand.proofs.builders.except.Goals as goal

pub returns : goal.returns
returns c = expr_except c.args.place c.args.function c.args.updates
