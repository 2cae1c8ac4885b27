use Rattle.tla_expand.proofs.Vectors.{expr_disjunction}
use Rattle.tla_expand.proofs.builders.disjunction.Goals as goal

pub returns : goal.returns
returns c = expr_disjunction c.args.place c.args.parts
