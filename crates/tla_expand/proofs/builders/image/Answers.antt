use Rattle.tla_expand.proofs.Vectors.{expr_image}
use Rattle.tla_expand.proofs.builders.image.Goals as goal

pub returns : goal.returns
returns c = expr_image c.args.place c.args.sets c.args.body
