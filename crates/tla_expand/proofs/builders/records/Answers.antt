use Rattle.tla_expand.proofs.Vectors.{expr_records}
use Rattle.tla_expand.proofs.builders.records.Goals as goal

pub returns : goal.returns
returns c = expr_records c.args.place c.args.fields
