use Rattle.std.proofs.Common.{◌∙◌, arith}
use Rattle.tla_expand.proofs.Vectors.{kept_some}
use Rattle.tla_expand.proofs.builders.unchanged_core.Goals as goal

pub returns : goal.returns
returns c = c.conjunction.ensures ∙ kept_some c.args.place c.args.parts.items (omega arith)
