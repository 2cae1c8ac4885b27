use Rattle.tla_expand.proofs.Vectors.{expr_conjunction}
use Rattle.tla_expand.proofs.builders.conjunction.Goals as goal

pub returns : goal.returns
returns c = expr_conjunction c.args.place c.args.parts
