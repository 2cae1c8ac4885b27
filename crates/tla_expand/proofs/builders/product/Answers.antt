use Rattle.tla_expand.proofs.Vectors.{expr_product}
use Rattle.tla_expand.proofs.builders.product.Goals as goal

pub returns : goal.returns
returns c = expr_product c.args.place c.args.parts
